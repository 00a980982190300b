pub mod ObserverFailing
pub mod ObserverSchedules
pub mod ObserverResets
pub mod JoinedStates
pub mod Observes
pub mod ObserverCalls
pub mod Watching
pub mod Joinings
