use Rattle.std.proofs.Common.{◌/◌, ◌<◌, length, get_or, subst, arith}
use Rattle.fc_registry.specs.Slots.{Shard, new_slot}
use Rattle.fc_registry.specs.Record.{IsRecord}
use Rattle.fc_registry.proofs.Rings.{all_seen}
use Rattle.fc_registry.proofs.shard.Shard.rings_are_chains.Goals as goal

pub returns : goal.returns
returns c = λ n owned.
    let eight = c.self.invariant.0 in
    let low : n / 8 < length c.self.inside.slots.items = omega (arith, eight, owned.slot) in
    subst (λ (s : Shard). IsRecord (get_or s.slots (n / 8) (new_slot 0))) c.self.view_is (all_seen c.self.inside.slots.items (n / 8) c.self.invariant.1 low)
