-- Definitions for the laws of events of shards.
use Rattle.std.specs.Prelude.{◌≡◌, ℕ, ◌≤◌}
use Rattle.fc_core.specs.declared.event.Event.{Event}
use Rattle.fc_core.specs.declared.event.Event.TheVariants.{Due, ShardTick, Signal}
use Rattle.fc_core.specs.History.{Seen}

-- the event names a shard that doesn't exist. The eight shards have the numbers 0 to 7.
abbrev pub IsOfNoShard : Event → Type 0
IsOfNoShard (Due shard now) = 8 ≤ shard
IsOfNoShard (Signal shard to id reset) = 8 ≤ shard
IsOfNoShard (ShardTick shard now) = 8 ≤ shard
IsOfNoShard other = ⊥

-- the front, the jobs, the slots and the shards are unchanged.
pub record IsAsBefore (before after : Seen) : Type 0 where
  pub time : after.time ≡ before.time
  pub exchanges : after.exchanges ≡ before.exchanges
  pub additions : after.additions ≡ before.additions
  pub ids : after.ids ≡ before.ids
  pub tasks : after.tasks ≡ before.tasks
  pub changes : (n : ℕ) → after.changes n ≡ before.changes n
  pub shards : (i : ℕ) → after.shard_time i ≡ before.shard_time i
  pub calls : (n : ℕ) → after.calls n ≡ before.calls n
  pub words : after.words ≡ before.words
