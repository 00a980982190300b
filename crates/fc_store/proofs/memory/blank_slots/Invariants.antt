use Rattle.std.proofs.Common.{◌≡◌}
use Rattle.std.specs.Prelude.{replicate}
use Rattle.fc_store.specs.Stored.{blank_slot}
use Rattle.fc_store.proofs.memory.blank_slots.Given as goal

abbrev pub invariant-loop-slot : goal.invariant-loop-slot
invariant-loop-slot l = l.slots.items ≡ replicate l._slot blank_slot
