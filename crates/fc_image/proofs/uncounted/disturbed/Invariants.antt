use Rattle.std.proofs.Common.{◌≡◌, drop}
use Rattle.fc_image.specs.Loops.{disturbs, some_slot}
use Rattle.fc_image.proofs.uncounted.disturbed.Given as goal

abbrev pub invariant-loop-slot : goal.invariant-loop-slot
invariant-loop-slot l = some_slot (disturbs l.counted) 0 l.code ≡ some_slot (disturbs l.counted) l.slot (drop l.slot l.code)
