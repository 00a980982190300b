use Rattle.fc_registry.specs.Watches.{at_time, overdue_place}
use Rattle.fc_calls.proofs.Confirming.{tick_confirms}
use Rattle.fc_calls.proofs.calls.TickShardCall.call.Goals as goal

pub returns-clause-confirms : goal.returns-clause-confirms
returns-clause-confirms c =
    let at = at_time c.args.shard.now c.args.self.now in
    tick_confirms (overdue_place at) at c.tick.new.self c.tick.ensures.after
