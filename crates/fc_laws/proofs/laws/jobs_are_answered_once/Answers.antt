use Rattle.fc_laws.proofs.jobs.Ends.{answered_gone, answered_once}
use Rattle.fc_laws.proofs.laws.jobs_are_answered_once.Goals as goal

pub returns-clause-once : goal.returns-clause-once
returns-clause-once c = answered_once

pub returns-clause-gone : goal.returns-clause-gone
returns-clause-gone c = answered_gone
