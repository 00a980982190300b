use Rattle.fc_store.specs.Stored.{stored_in}
use Rattle.fc_registry.proofs.Restoring.{IsRestoredBelow}
use Rattle.fc_registry.proofs.shards.restore_shard.Given as goal

abbrev pub invariant-loop-place : goal.invariant-loop-place
invariant-loop-place l = IsRestoredBelow (stored_in l.stored) l.index l.confirm_after l.place l.shard
