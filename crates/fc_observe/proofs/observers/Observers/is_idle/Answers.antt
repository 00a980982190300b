use Rattle.std.proofs.Common.{sym, ◌∙◌}
use Rattle.fc_observe.proofs.Quiet.{is_idle}
use Rattle.fc_observe.proofs.observers.Observers.is_idle.Goals as goal

pub returns-then-is_at_rest : goal.returns-then-is_at_rest
returns-then-is_at_rest c = c.if-is_at_rest.true ∙ sym (is_idle c.args.now c.args.notify_serial c.args.self.now (c.is_at_rest.ensures c.if-is_at_rest.true))
