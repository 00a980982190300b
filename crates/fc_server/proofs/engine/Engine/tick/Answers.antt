use Rattle.std.proofs.Common.{subst}
use Rattle.fc_server.specs.Serving.{Passes}
use Rattle.fc_server.specs.States.{ServerState}
use Rattle.fc_server.proofs.Served.{passed_served, ticked_on}
use Rattle.fc_server.proofs.engine.Engine.tick.Goals as goal

-- the effect of the call on the engine's server is a tick.
passes : (c : goal.After-tick) → Passes c.args.now c.self.inside.server c.tick.new.self
passes c = ticked_on c.args.now c.self.inside.server c.tick.new.self c.tick.ensures.front c.tick.ensures.shards c.tick.ensures.words

pub invariant_of-self : goal.invariant_of-self
invariant_of-self c = passed_served c.args.now c.self.inside.server c.tick.new.self c.self.invariant (passes c)

pub returns : goal.returns
returns c = subst (λ (s : ServerState). Passes c.args.now s c.tick.new.self) c.self.view_is (passes c)
