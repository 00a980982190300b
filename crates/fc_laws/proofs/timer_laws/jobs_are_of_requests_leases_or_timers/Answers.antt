use Rattle.fc_laws.proofs.front.Timers.{of_either, of_one}
use Rattle.fc_laws.proofs.timer_laws.jobs_are_of_requests_leases_or_timers.Goals as goal

pub returns-clause-any : goal.returns-clause-any
returns-clause-any c = of_one

pub returns-clause-without_timers : goal.returns-clause-without_timers
returns-clause-without_timers c = of_either
