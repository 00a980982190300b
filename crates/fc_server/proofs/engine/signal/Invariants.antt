use Rattle.std.proofs.Common.{List}
use Rattle.fc_core.specs.History.{History}
use Rattle.fc_core.specs.declared.stage.Task.{Task}
use Rattle.fc_server.specs.Serving.{Serves, signalled_below}
use Rattle.fc_server.proofs.engine.signal.Given as goal

-- after any history, the signal went to the shards below this one.
abbrev pub invariant-loop-shard : goal.invariant-loop-shard
invariant-loop-shard l = (h : History) (tasks : List Task) → Serves h l.fn.server tasks → Serves (signalled_below l.fn.endpoint l.fn.id l.fn.reset l.shard h) l.server tasks
