-- When the one order of a server's calls is a legal history: the tracks of its jobs are right, and
-- the number of a job is its key minus that of the first job.
use Rattle.std.specs.Prelude.{ℕ, ◌+◌, List, [], length}
use Rattle.fc_store.specs.declared.store.Store.{Ghosts}
use Rattle.fc_store.specs.Stored.{StoredSlots}
use Rattle.fc_core.specs.History.{History}
use Rattle.fc_server.specs.Serving.{Serves}
use Rattle.fc_server.specs.States.{ServerState}
use Rattle.fc_linear.specs.Parts.{IsHistoryOf, RightByParts, history_on}
use Rattle.fc_filed.specs.Entries.{log_of}
use Rattle.fc_filed.specs.Recovered.{HaveSavedOrder}
use Rattle.fc_locked.specs.declared.closed.ClosedServer.{ClosedServer}
use Rattle.fc_backend.specs.Logs.{TrackedLog}
use Rattle.fc_backend.specs.Messages.{first_brought}
use Rattle.fc_locked.specs.OneOrder.{HaveOneOrder}

-- the closed server's front and shards, with these head words.
abbrev pub server_with : ClosedServer → List ℕ → ServerState
server_with closed words = record { front = closed.front; shards = closed.shards; words = words }

-- the calls of these threads have one order. The number of a job in it is the job's key minus that
-- of the first job that was brought. The calls of each part lead it from the first server to the
-- closed one. Those of each job follow its stages. The first of them produces the job. Jobs are
-- numbered from 0 in the order in which they are produced. If a history leaves the first server
-- without jobs, the order continues it legally. The longer history's server is the closed one, with
-- the head words at the end of the order. Reads of costs and skips are in the order, but are no
-- events of the history. A cost that was read is the one that the slot had at that place of the
-- order, and a shard that was skipped was idle at that place.
pub record HaveLegalOrder (first : ServerState) (logs : List TrackedLog) (closed : ClosedServer) : Type 0 where
  pub order : HaveOneOrder first logs closed
  pub right : RightByParts (server_with closed order.words) first [] (log_of (first_brought (10 + length logs)) order.calls)
  pub history : (before : History) → Serves before first [] → IsHistoryOf (history_on before (log_of (first_brought (10 + length logs)) order.calls)) (server_with closed order.words)

-- the saves of the server's store have their place in the legal order. `g` has the ghosts of the
-- store's type. The store's first slots are `stored`.
pub record HaveSavedLegalOrder {S : Type 0} (g : Ghosts S) (first : ServerState) (stored : StoredSlots) (logs : List TrackedLog) (closed : ClosedServer) : Type 0 where
  pub legal : HaveLegalOrder first logs closed
  pub saved : HaveSavedOrder g first stored closed.shards legal.order.calls
