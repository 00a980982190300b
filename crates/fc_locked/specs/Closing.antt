-- The result of closing a server whose workers have ended.
use Rattle.std.specs.Prelude.{◌≡◌, ℕ, List, map}
use Rattle.std.specs.List.{range_with_len}
use Rattle.fc_registry.specs.Shards.{shard_at}
use Rattle.fc_registry.specs.Slots.{Shard}
use Rattle.fc_locked.specs.declared.closed.ClosedServer.{ClosedServer}
use Rattle.fc_backend.specs.Answers.{saturated}
use Rattle.fc_locked.specs.Counts.{sums}
use Rattle.fc_calls.specs.Kept.{serials}

-- eight shards, each at its index.
abbrev pub each_shard : List Shard → List Shard
each_shard shards = map (λ i. shard_at shards i) (range_with_len 0 8)

-- the sum of each shard's serials has risen by exactly the shard's counted changes, since the
-- server began with the shards `first`. The closed server has these counts, each up to 2^64 - 1.
pub record HasCountedAll (first : List Shard) (closed : ClosedServer) : Type 0 where
  pub changes : List ℕ
  pub risen : map serials closed.shards ≡ sums (map serials first) changes
  pub shown : closed.changes ≡ map saturated changes
