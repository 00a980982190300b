use Rattle.fc_backend.proofs.Messages.{begun_keeps}
use Rattle.fc_backend.proofs.track_log.TrackLog.begin_job.Goals as goal

pub invariant_of-self : goal.invariant_of-self
invariant_of-self g c = begun_keeps g.J.ServerName.first_job c.self.inside.who c.self.inside.tracks c.merge.new.self c.begin-track.result _ c.merge.ensures.merged c.begin-track.ensures.track c.begin-track.ensures.above c.self.invariant
