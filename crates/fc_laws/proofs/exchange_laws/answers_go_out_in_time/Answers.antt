use Rattle.fc_laws.proofs.front.Kept.{goes_out, in_window}
use Rattle.fc_laws.proofs.front.Timers.{goes_out_without}
use Rattle.fc_laws.proofs.exchange_laws.answers_go_out_in_time.Goals as goal

pub returns-clause-overdue : goal.returns-clause-overdue
returns-clause-overdue c = in_window

pub returns-clause-in_time : goal.returns-clause-in_time
returns-clause-in_time c = goes_out

pub returns-clause-without_timers : goal.returns-clause-without_timers
returns-clause-without_timers c = goes_out_without
