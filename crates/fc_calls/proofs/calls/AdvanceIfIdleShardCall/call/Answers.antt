use Rattle.std.proofs.Common.{refl}
use Rattle.fc_registry.specs.Watches.{at_time}
use Rattle.fc_calls.proofs.Confirming.{idle_confirms}
use Rattle.fc_calls.proofs.calls.AdvanceIfIdleShardCall.call.Goals as goal

pub returns-clause-confirms : goal.returns-clause-confirms
returns-clause-confirms c =
    idle_confirms c.advance_if_idle.result c.args.shard.now (at_time c.args.shard.now c.args.self.now) c.advance_if_idle.new.self refl c.advance_if_idle.ensures.after
