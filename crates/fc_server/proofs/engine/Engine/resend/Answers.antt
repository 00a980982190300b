use Rattle.std.proofs.Common.{◌≡◌, ap, subst}
use Rattle.fc_core.specs.Legal.{resent}
use Rattle.fc_registry.specs.Shards.{shard_at}
use Rattle.fc_server.specs.Serving.{TicksShard}
use Rattle.fc_server.specs.States.{ServerState}
use Rattle.fc_server.specs.Steps.{shard_told}
use Rattle.fc_server.proofs.Served.{resent_on, resent_served}
use Rattle.fc_server.proofs.engine.Engine.resend.Goals as goal

-- the effect of the call on the engine's server is a tick of the shard.
ticks : (c : goal.After-tick_shard) → TicksShard c.args.shard c.args.now c.self.inside.server c.tick_shard.new.self (resent c.tick_shard.result)
ticks c = λ h tasks v.
    let e = c.tick_shard.ensures in
    resent_on c.args.shard c.requires c.self.inside.server c.tick_shard.new.self e.front e.words h tasks v c.args.now (resent c.tick_shard.result) e.shards (ap resent e.told)

pub invariant_of-self : goal.invariant_of-self
invariant_of-self c = resent_served c.args.shard c.args.now c.self.inside.server c.tick_shard.new.self (resent c.tick_shard.result) c.self.invariant (ticks c)

pub returns-clause-told : goal.returns-clause-told
returns-clause-told c = subst (λ (s : ServerState). c.tick_shard.result ≡ shard_told c.args.now (shard_at s.shards c.args.shard)) c.self.view_is c.tick_shard.ensures.told

pub returns-clause-ticks : goal.returns-clause-ticks
returns-clause-ticks c = subst (λ (s : ServerState). TicksShard c.args.shard c.args.now s c.tick_shard.new.self (resent c.tick_shard.result)) c.self.view_is (ticks c)
