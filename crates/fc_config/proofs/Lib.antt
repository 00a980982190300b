mod ReadTimers
mod Among
mod LogPeriods
