use Rattle.std.proofs.Common.{take}
use Rattle.fc_observe.specs.Quiet.{AreIdleUntil}
use Rattle.fc_observe.proofs.observers.idle_until.Given as goal

abbrev pub invariant-loop-entry : goal.invariant-loop-entry
invariant-loop-entry l = AreIdleUntil l.until l.notify_serial (take l.entry-index l.held)
