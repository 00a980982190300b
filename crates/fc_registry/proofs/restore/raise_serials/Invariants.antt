use Rattle.std.proofs.Common.{◌≡◌, ◌++◌, drop, take, map}
use Rattle.fc_registry.specs.Restored.{at_least}
use Rattle.fc_registry.proofs.restore.raise_serials.Given as goal

abbrev pub invariant-loop-slot : goal.invariant-loop-slot
invariant-loop-slot l = l.stored ≡ map (at_least l.least) (take l.slot-index l.initial.stored) ++ drop l.slot-index l.initial.stored
