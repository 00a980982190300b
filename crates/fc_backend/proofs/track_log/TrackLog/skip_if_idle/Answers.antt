use Rattle.fc_calls.specs.Logged.{SkipsIdle}
use Rattle.fc_linear.specs.Operations.{Logged}
use Rattle.fc_backend.proofs.Logs.{keeps_tracks_if}
use Rattle.fc_backend.proofs.track_log.TrackLog.skip_if_idle.Goals as goal

pub invariant_of-self : goal.invariant_of-self
invariant_of-self g c =
    keeps_tracks_if g.J.ServerName.first_job c.self.inside.who c.skip_if_idle.result (Logged (SkipsIdle c.from.result c.args.now)) c.self.inside.tracks
    c.skip_if_idle.ensures.filed c.self.invariant
