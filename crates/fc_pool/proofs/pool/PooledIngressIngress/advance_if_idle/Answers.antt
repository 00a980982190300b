use Rattle.std.proofs.Common.{◌≡◌, ℕ, Bool, true, false, refl}
use Rattle.std.specs.Prelude.{MatchBool}
use Rattle.fc_registry.specs.Shards.{no_shard}
use Rattle.fc_registry.specs.Slots.{Shard}
use Rattle.fc_registry.specs.Watches.{at_time, is_idle}
use Rattle.fc_backend.specs.Answers.{IsSomeIdle}
use Rattle.fc_pool.proofs.pool.PooledIngressIngress.advance_if_idle.Goals as goal

-- a shard without observers is idle at each time.
is_some : (Passes Leaves Stays : Type 0) (passed : Bool) (now : ℕ) → MatchBool passed Passes (IsSomeIdle now false × Leaves × Stays) → (some : Shard) × (passed ≡ is_idle (at_time some now))
is_some Passes Leaves Stays true now m = (no_shard, refl)
is_some Passes Leaves Stays false now m = (m.0.shard, m.0.idle_is)

pub returns-clause-idle : goal.returns-clause-idle
returns-clause-idle g c = is_some _ _ _ c.advance_or_skip.result c.args.now c.advance_or_skip.ensures.passed
