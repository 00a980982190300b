-- The relation between a history and the state of a server with its jobs. A public clause about
-- every history of a server's state cites this relation by `Serving.Serves`.
use Rattle.std.specs.Prelude.{◌≡◌, ℕ, ◌+◌, ◌*◌, ◌<◌, List}
use Rattle.fc_registry.specs.Shards.{AreShards, shard_at, slot_in_shards}
use Rattle.fc_registry.specs.Slots.{Shard}
use Rattle.fc_registry.specs.Watches.{watch_at}
use Rattle.fc_core.specs.declared.stage.Task.{Task}
use Rattle.fc_front.specs.Exchanges.{FrontState}
use Rattle.fc_core.specs.History.{Seen, front_in, slot_at, watch}
use Rattle.fc_core.specs.Sound.{IsSafelySeen, IsSoundlySeen}

-- the parts of a state: the front, the shards, the head words, and the jobs with their stages, in
-- order of arrival.
pub record Parts : Type 0 where
  pub front : FrontState
  pub shards : List Shard
  pub words : List ℕ
  pub tasks : List Task

-- each slot, the time of each shard, and the observers at each place are those of the history.
-- Place k of shard i belongs to slot 8 k + i.
pub record ShardsAgree (s : Seen) (shards : List Shard) : Type 0 where
  pub are : AreShards shards
  pub slot : (n : ℕ) → n < 64 → slot_in_shards shards n ≡ slot_at s n
  pub now : (i : ℕ) → i < 8 → (shard_at shards i).now ≡ s.shard_time i
  pub watch : (i k : ℕ) → i < 8 → k < 8 → watch_at (shard_at shards i) k ≡ watch s (8 * k + i)

-- the front has the live exchanges with their answers. Each head word is the greatest one that was
-- raised. Each job is at its stage in the history.
pub record Agrees (s : Seen) (p : Parts) : Type 0 where
  pub front : p.front ≡ front_in s s.time
  pub tasks : p.tasks ≡ s.tasks
  pub words : p.words ≡ s.words
  pub shards : ShardsAgree s p.shards
  pub sound : IsSoundlySeen s
  pub safe : IsSafelySeen s
