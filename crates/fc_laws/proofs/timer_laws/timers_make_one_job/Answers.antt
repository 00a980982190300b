use Rattle.fc_laws.proofs.front.Timers.{makes_job}
use Rattle.fc_laws.proofs.timer_laws.timers_make_one_job.Goals as goal

pub returns : goal.returns
returns c = makes_job
