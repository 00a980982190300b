use Rattle.std.proofs.Common.{◌≡◌, ℕ, List, length}
use Rattle.fc_server.specs.Flushing.{AreTold, earliest}
use Rattle.fc_server.proofs.flush.idle_until.Given as goal

-- `until` is the earliest of the times that the shards so far returned.
abbrev pub invariant-loop-shard : goal.invariant-loop-shard
invariant-loop-shard g l =
    (told : List ℕ) × AreTold (λ shard until. g.N.Ingress.calls.stays_idle shard l.ingress until) told × (length told ≡ l.shard) × (l.until ≡ earliest told)
