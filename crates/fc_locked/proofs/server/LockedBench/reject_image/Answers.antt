use Rattle.fc_linear.specs.Operations.{RejectsImage}
use Rattle.fc_backend.proofs.Logs.{keeps_tracks}
use Rattle.fc_locked.proofs.server.LockedBench.reject_image.Goals as goal

pub invariant_of-log : goal.invariant_of-log
invariant_of-log g c = keeps_tracks g.B.Books.first_job c.log.inside.who (RejectsImage c.args.job.now c.args.answer.now) c.log.inside.tracks c.reject_image.ensures.filed c.log.invariant
