-- The calls after the first one.
use Rattle.std.proofs.Common.{◌≡◌, ℕ, List, length}
use Rattle.fc_core.specs.declared.stage.Task.{Task}
use Rattle.fc_core.specs.History.{History}
use Rattle.fc_server.specs.Serving.{Serves}
use Rattle.fc_server.specs.States.{ServerState}
use Rattle.fc_linear.specs.Operations.{Operation, LogEntry, emitted_of, event_for}
use Rattle.fc_linear.specs.Parts.{RightByParts, next_if}

-- the history with the first call, if it is an event, leaves a server. The other calls are right
-- for this server.
pub record After (k : ℕ) (op : Operation) (es : List LogEntry) (h : History) (end : ServerState) : Type 0 where
  pub server : ServerState
  pub tasks : List Task
  pub serves : Serves (next_if h (event_for k op) (emitted_of op)) server tasks
  pub rest : RightByParts end server tasks es

-- a server that a history leaves has eight shards.
pub eight : (h : History) (s : ServerState) (tasks : List Task) → Serves h s tasks → length s.shards ≡ 8
eight h s tasks v = v.agrees.shards.are.count
