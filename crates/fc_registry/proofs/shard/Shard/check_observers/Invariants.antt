use Rattle.std.proofs.Common.{◌≡◌, ◌-◌}
use Rattle.fc_registry.specs.Slots.{Shard}
use Rattle.fc_registry.specs.Watches.{has_due, has_overdue, place_from}
use Rattle.fc_registry.proofs.shard.Shard.check_observers.Given as goal

abbrev pub invariant-loop-place : goal.invariant-loop-place
invariant-loop-place l =
    let s : Shard = record l.fn.self { now = l.now } in record {
      same : l.self ≡ l.fn.self;
      overdue : place_from (has_overdue s) 8 0 ≡ place_from (has_overdue s) (8 - l.place) l.place;
      due : place_from (has_due s) 8 0 ≡ place_from (has_due s) (8 - l.place) l.place;
    }
