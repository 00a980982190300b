use Rattle.fc_store.specs.Stored.{stored_in}
use Rattle.fc_core.proofs.Restoring.{restored_fit}
use Rattle.fc_server.proofs.Beginning.{begins_with, first_with}
use Rattle.fc_server.proofs.first.FirstServer.over.Goals as goal

pub invariant_of-result : goal.invariant_of-result
invariant_of-result c = first_with (stored_in c.args.stored.now) c.args.id c.args.policy.now _ c.in_ok-new.ensures c.in_ok-shards.ensures.shards c.over.ensures
    (restored_fit c.args.stored.now c.requires c.in_ok-shards.ensures.can)

pub returns-clause-begins : goal.returns-clause-begins
returns-clause-begins c = begins_with (stored_in c.args.stored.now) c.args.id c.args.policy.now _ c.in_ok-new.ensures c.in_ok-shards.ensures.shards c.over.ensures
    (restored_fit c.args.stored.now c.requires c.in_ok-shards.ensures.can)
