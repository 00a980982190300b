use Rattle.fc_linear.specs.Operations.{RefusesInstall}
use Rattle.fc_backend.proofs.Logs.{keeps_tracks}
use Rattle.fc_locked.proofs.server.LockedBench.refuse_install.Goals as goal

pub invariant_of-log : goal.invariant_of-log
invariant_of-log g c = keeps_tracks g.B.Books.first_job c.log.inside.who (RefusesInstall c.args.job.now) c.log.inside.tracks c.refuse_install.ensures.filed c.log.invariant
