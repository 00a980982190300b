use Rattle.fc_server.proofs.Beginning.{begins, first_empty}
use Rattle.fc_server.proofs.first.FirstServer.new.Goals as goal

pub invariant_of-result : goal.invariant_of-result
invariant_of-result c = first_empty c.args.begin.now.serial c.args.begin.now.id c.args.begin.now.policy _ c.in_ok-new.ensures c.in_ok-make_shards.ensures c.new-2.ensures

pub returns-clause-begins : goal.returns-clause-begins
returns-clause-begins c = begins c.args.begin.now.serial c.args.begin.now.id c.args.begin.now.policy _ c.in_ok-new.ensures c.in_ok-make_shards.ensures c.new-2.ensures
