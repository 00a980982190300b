use Rattle.fc_laws.proofs.jobs.Others.{job_stays, unnamed_stays}
use Rattle.fc_laws.proofs.laws.only_the_named_job_moves.Goals as goal

pub returns-clause-stages : goal.returns-clause-stages
returns-clause-stages c = unnamed_stays

pub returns-clause-jobs : goal.returns-clause-jobs
returns-clause-jobs c = job_stays
