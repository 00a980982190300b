-- An event that names a job names no shard.
use Rattle.std.proofs.Common.{◌≡◌, ℕ, Some, refl}
use Rattle.fc_core.specs.declared.event.Event.{Event}
use Rattle.fc_core.specs.declared.event.Event.TheVariants.{Signal, ShardTick, Due}
use Rattle.fc_core.specs.History.{Calm, at_shard}
use Rattle.fc_core.specs.Transitions.{names}

pub named_calm : (e : Event) (k : ℕ) → names e ≡ Some k → at_shard e ≡ Calm
named_calm (Signal shard to id reset) k named = absurd (cc)
named_calm (Due shard now) k named = absurd (cc)
named_calm (ShardTick shard now) k named = absurd (cc)
named_calm other k named = refl
