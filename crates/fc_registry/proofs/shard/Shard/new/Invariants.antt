use Rattle.std.proofs.Common.{◌≡◌, map, replicate}
use Rattle.fc_registry.specs.Slots.{new_slot}
use Rattle.fc_registry.specs.Views.{as_seen}
use Rattle.fc_registry.proofs.shard.Shard.new.Given as goal

abbrev pub invariant-loop-slot : goal.invariant-loop-slot
invariant-loop-slot l = map as_seen l.slots.items ≡ replicate l._slot (new_slot l.first_serial)
