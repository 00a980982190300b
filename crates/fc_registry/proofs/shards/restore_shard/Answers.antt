use Rattle.fc_store.specs.Stored.{stored_in}
use Rattle.fc_registry.proofs.Restoring.{all_restored}
use Rattle.fc_registry.proofs.shards.restore_shard.Goals as goal

pub returns-clause-shard : goal.returns-clause-shard
returns-clause-shard c =
    all_restored (stored_in c.args.stored.now) c.args.index c.args.confirm_after c.requires.index c.loop-place.shard c.loop-place.place c.loop-place-test.false c.loop-place.invariant
