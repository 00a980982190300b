use Rattle.std.proofs.Common.{subst, sym}
use Rattle.fc_server.specs.Notified.{notified_as}
use Rattle.fc_server.specs.declared.engine.NotifyOutcome.{NotifyOutcome}
use Rattle.fc_server.specs.Flushing.{Asked, Moves}
use Rattle.fc_server.proofs.FlushingSteps.{finds_nobody}
use Rattle.fc_server.proofs.flush.Flushing.notified.Goals as goal

pub returns-in-Nobody-clause-moves : goal.returns-in-Nobody-clause-moves
returns-in-Nobody-clause-moves c = λ e.
    let from = c.args.self.now in
    subst (λ (told : NotifyOutcome). Moves from (Asked from.shard (notified_as told e)) c.pass.new.self) (sym c.in-Nobody.is)
    (finds_nobody from c.pass.new.self c.requires.shard c.requires.due c.pass.ensures.shard c.pass.ensures.overdue)
