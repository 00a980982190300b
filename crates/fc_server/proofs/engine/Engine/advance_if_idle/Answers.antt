use Rattle.std.proofs.Common.{◌≡◌, None, subst}
use Rattle.std.specs.Prelude.{MatchBool}
use Rattle.fc_server.specs.Serving.{TicksShard}
use Rattle.fc_server.specs.States.{ServerState}
use Rattle.fc_server.proofs.Quiet.{passed_quietly, idle_served}
use Rattle.fc_server.proofs.engine.Engine.advance_if_idle.Goals as goal

-- the effect of the call on the engine's server is a tick of the shard, or nothing.
passes : (c : goal.After-advance_if_idle) → MatchBool c.advance_if_idle.result (TicksShard c.args.shard c.args.now c.self.inside.server c.advance_if_idle.new.self None) (c.advance_if_idle.new.self ≡ c.self.inside.server)
passes c =
    let e = c.advance_if_idle.ensures in
    passed_quietly c.advance_if_idle.result c.args.shard c.args.now c.requires c.self.inside.server c.advance_if_idle.new.self e.idle e.front e.shards e.words

pub invariant_of-self : goal.invariant_of-self
invariant_of-self c = idle_served c.advance_if_idle.result c.args.shard c.args.now c.self.inside.server c.advance_if_idle.new.self c.self.invariant (passes c)

pub returns-clause-after : goal.returns-clause-after
returns-clause-after c = subst (λ (s : ServerState). MatchBool c.advance_if_idle.result (TicksShard c.args.shard c.args.now s c.advance_if_idle.new.self None) (c.advance_if_idle.new.self ≡ s)) c.self.view_is (passes c)
