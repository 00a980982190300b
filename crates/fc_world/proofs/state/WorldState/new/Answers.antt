use Rattle.fc_server.proofs.Beginning.{begins}
use Rattle.fc_world.proofs.state.WorldState.new.Goals as goal

pub returns-clause-serves : goal.returns-clause-serves
returns-clause-serves c = begins c.args.begin.now.serial c.args.begin.now.id c.args.begin.now.policy c.in_ok-new.field-0 c.in_ok-new.ensures.front c.in_ok-new.ensures.shards c.in_ok-new.ensures.words
