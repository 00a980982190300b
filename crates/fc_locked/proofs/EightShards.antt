-- The eight shards that a server begins with, each at its index.
use Rattle.std.proofs.Common.{◌≡◌, ℕ, List, length, sym, ◌∙◌, arith}
use Rattle.std.proofs.lemmas.List.{ext_get_or}
use Rattle.std.proofs.lemmas.List.FromFn.{get_or-map-range_with_len, length-map-range_with_len}
use Rattle.fc_registry.specs.Shards.{no_shard, shard_at}
use Rattle.fc_registry.specs.Slots.{Shard}
use Rattle.fc_locked.specs.Closing.{each_shard}

pub eight_shards : (shards : List Shard) → length shards ≡ 8 → shards ≡ each_shard shards
eight_shards shards count =
    ext_get_or no_shard shards (each_shard shards) (count ∙ sym (length-map-range_with_len (λ (i : ℕ). shard_at shards i) 0 8))
    (λ i lt. sym (get_or-map-range_with_len (λ (i : ℕ). shard_at shards i) 0 8 i i no_shard (omega (arith, lt, count)) (omega arith)))
