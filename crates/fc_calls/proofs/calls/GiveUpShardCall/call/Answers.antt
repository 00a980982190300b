use Rattle.std.proofs.Common.{[], ◌∷◌}
use Rattle.fc_observe.specs.Calls.{GiveUp}
use Rattle.fc_registry.specs.Watches.{at_time}
use Rattle.fc_calls.proofs.Confirming.{calls_confirm}
use Rattle.fc_calls.proofs.calls.GiveUpShardCall.call.Goals as goal

pub returns-clause-confirms : goal.returns-clause-confirms
returns-clause-confirms c =
    let shard = at_time c.args.shard.now c.args.self.now in
    calls_confirm (GiveUp c.args.self.turn shard.now ∷ []) c.args.self.turn.slot shard _ c.give_up.ensures
