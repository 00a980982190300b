use Rattle.fc_laws.proofs.jobs.Ends.{answer_gone, gone_later, lost_gone}
use Rattle.fc_laws.proofs.laws.ended_jobs_stay_ended.Goals as goal

pub returns-clause-answered : goal.returns-clause-answered
returns-clause-answered c = answer_gone

pub returns-clause-lost : goal.returns-clause-lost
returns-clause-lost c = lost_gone

pub returns-clause-for_ever : goal.returns-clause-for_ever
returns-clause-for_ever c = gone_later
