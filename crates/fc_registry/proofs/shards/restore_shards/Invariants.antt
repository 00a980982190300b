use Rattle.std.proofs.Common.{◌≡◌, ◌<◌, ◌%◌, ℕ, map}
use Rattle.std.specs.List.{range_with_len}
use Rattle.fc_store.specs.Stored.{stored_in}
use Rattle.fc_registry.specs.Restored.{restored_slot}
use Rattle.fc_registry.specs.Starts.{CanRestore, shard_over}
use Rattle.fc_registry.proofs.shards.restore_shards.Given as goal

abbrev pub invariant-loop-index : goal.invariant-loop-index
invariant-loop-index l =
    (l.shards.items ≡ map (shard_over (λ n. restored_slot (stored_in l.stored n)) l.confirm_after) (range_with_len 0 l.index))
    × ((n : ℕ) → n < 64 → n % 8 < l.index → CanRestore (stored_in l.stored n))
