use Rattle.std.proofs.Common.{subst, sym}
use Rattle.fc_backend.specs.Logs.{MayFileAll}
use Rattle.fc_backend.proofs.Messages.{received_keeps}
use Rattle.fc_backend.proofs.track_log.TrackLog.take_from_message.Goals as goal

pub invariant_of-self : goal.invariant_of-self
invariant_of-self g c = subst (λ v. MayFileAll g.J.ServerName.first_job c.self.inside.who v) (sym c.merge.ensures.merged)
    (received_keeps g.J.ServerName.first_job c.self.inside.who c.self.inside.tracks (record { job = c.message.inside.job; tracks = c.message.inside.tracks }) c.message.invariant c.self.invariant)
