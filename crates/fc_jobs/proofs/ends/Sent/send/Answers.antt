use Rattle.std.proofs.Common.{◌∙◌, ap, sym, length}
use Rattle.fc_jobs.specs.Ends.{Sent}
use Rattle.fc_jobs.proofs.Moves.{puts}
use Rattle.fc_jobs.proofs.ends.Sent.send.Goals as goal

pub send_as-requires-clause-rule : goal.send_as-requires-clause-rule
send_as-requires-clause-rule g c = (puts _ _ _ _ c.self.invariant.1 (c.requires.0 ∙ ap (λ (s : Sent _). length s.sent) (sym c.self.view_is)), λ items views h at. tt)
