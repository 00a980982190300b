use Rattle.fc_laws.proofs.front.Once.{jobs_apart}
use Rattle.fc_laws.proofs.front.Timers.{apart_without}
use Rattle.fc_laws.proofs.exchange_laws.requests_are_carried_out_once.Goals as goal

pub returns-clause-requests : goal.returns-clause-requests
returns-clause-requests c = jobs_apart

pub returns-clause-without_timers : goal.returns-clause-without_timers
returns-clause-without_timers c = apart_without
