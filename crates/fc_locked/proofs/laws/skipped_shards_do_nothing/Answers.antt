use Rattle.std.specs.Prelude.{None}
use Rattle.fc_registry.specs.Watches.{at_time}
use Rattle.fc_calls.specs.Logged.{SkipsIdle}
use Rattle.fc_linear.specs.Operations.{Logged}
use Rattle.fc_locked.proofs.laws.skipped_shards_do_nothing.Goals as goal

pub returns : goal.returns
returns c begin logs closed order who job index now earlier later is =
    let led = order.skips earlier later (record { who = who; job = job; operation = Logged (SkipsIdle index now); save = None }) is in
    let shard = at_time led.shard now in
    ((c.idle_shards_do_nothing.ensures.tick shard led.idle).0, (c.idle_shards_do_nothing.ensures.due shard led.idle).0)
