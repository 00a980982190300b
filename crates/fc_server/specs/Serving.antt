-- A server on one thread: its calls as lists of events, for every history that leads to its state.
-- The contracts of the engine cite the agreement: a server that agrees with a history is in a state
-- that this history leaves.
use Rattle.std.specs.Prelude.{◌≡◌, ℕ, zero, suc, ◌/◌, ◌%◌, ◌≤◌, Bool, true, false, List, [], ◌∷◌, ◌++◌, length, Option, Some, None, is_some}
use Rattle.std.specs.Borrow.{Bor}
use Rattle.coap_msg.specs.declared.types.Emission.{Emission}
use Rattle.coap_msg.specs.declared.types.Endpoint.{Endpoint}
use Rattle.fc_observe.specs.declared.entry.Turn.{Turn}
use Rattle.fc_ticket.specs.declared.job.Job.{Job}
use Rattle.fc_registry.specs.Calls.{is_out_at}
use Rattle.fc_registry.specs.Shards.{shard_at}
use Rattle.fc_registry.specs.Slots.{Shard, slot_in}
use Rattle.fc_registry.specs.Watches.{watch_at}
use Rattle.fc_core.specs.declared.event.Event.{Event}
use Rattle.fc_core.specs.declared.event.Event.TheVariants.{Deliver, Peek, Take, Commit, Install, Remove, Receipt, Raise, Answer, Due, Fire, Fresh, Note, GiveUp, Signal, Tick, ShardTick}
use Rattle.fc_front.specs.declared.by_value.Delivered.{Delivered}
use Rattle.fc_front.specs.declared.by_value.Delivered.TheVariants.{Job as Brings, Signal as Signals}
use Rattle.fc_core.specs.Stage.{Stage}
use Rattle.fc_core.specs.Stage.{ToMatch, ToTake, ToInstall, ToRemove, ToDescribe, ToList, ToTell}
use Rattle.fc_core.specs.TurnStage as turns
use Rattle.fc_core.specs.declared.stage.Task.{Task}
use Rattle.fc_core.specs.History.{History, Then, did, seen}
use Rattle.fc_core.specs.Legal.{AllMean, IsLegal}
use Rattle.fc_core.specs.Stages.{first_stage}
use Rattle.fc_server.specs.Agreement.{Agrees, Parts}
use Rattle.fc_server.specs.States.{CanBeginWith, ServerState}
use Rattle.fc_server.specs.Steps.{shard_turn}

abbrev pub with_tasks : ServerState → List Task → Parts
with_tasks s tasks = record { front = s.front; shards = s.shards; words = s.words; tasks = tasks }

-- this history leaves the server with these jobs. Each event has only a permitted emission. Each
-- program that a snapshot found has a meaning. The front, slots, head words and jobs are those of
-- the history.
pub record Serves (h : History) (s : ServerState) (tasks : List Task) : Type 0 where
  pub legal : IsLegal h
  pub means : AllMean h
  pub agrees : Agrees (seen h) (with_tasks s tasks)

abbrev pub next : History → Event → Option Emission → History
next h event emitted = Then h (did event emitted)

-- job k reads the head words of the slots below n.
abbrev pub peeked_below : ℕ → ℕ → History → History
peeked_below k zero h = h
peeked_below k (suc n) h = next (peeked_below k n h) (Peek k n) None

-- the events of job k's run, whose snapshot gets these readings.
abbrev pub run_through : List ℕ → ℕ → Bool → ℕ → Option Emission → History → History
run_through readings k memory now out h = next (next (next (next h (Take k memory readings) None) (Commit k now) None) (Raise k) None) (Answer k now) out

-- the events of job k of this slot, which runs immediately: those that its first stage needs, and
-- its answer.
abbrev pub worked : List ℕ → Stage → ℕ → ℕ → Bool → ℕ → Option Emission → History → History
worked readings ToMatch slot k memory now out h = run_through readings k memory now out (next h (Peek k slot) None)
worked readings (ToTake count) slot k memory now out h = run_through readings k memory now out h
worked readings ToInstall slot k memory now out h = next (next (next h (Install k memory) None) (Raise k) None) (Answer k now) out
worked readings ToRemove slot k memory now out h = next (next (next h (Remove k) None) (Raise k) None) (Answer k now) out
worked readings ToDescribe slot k memory now out h = next (next h (Receipt k) None) (Answer k now) out
worked readings (ToList seen) slot k memory now out h = next (peeked_below k 64 h) (Answer k now) out
worked readings other slot k memory now out h = next h (Answer k now) out

-- job k has run, from this first stage, and this emission was sent.
pub record Worked (readings : List ℕ) (h : History) (k : ℕ) (first : Stage) (slot now : ℕ) (new : ServerState) (out : Option Emission) : Type 0 where
  pub memory : Bool
  pub tasks : List Task
  pub serves : Serves (worked readings first slot k memory now out h) new tasks

-- an event that produces no job.
pub record Delivers (h : History) (e : Event) (new : ServerState) (out : Option Emission) : Type 0 where
  pub tasks : List Task
  pub serves : Serves (next h e out) new tasks

-- the events by which a signal goes to the shards below n.
abbrev pub signalled_below : Endpoint → ℕ → Bool → ℕ → History → History
signalled_below to id reset zero h = h
signalled_below to id reset (suc n) h = next (signalled_below to id reset n h) (Signal n to id reset) None

-- the history is continued by signals alone, one for each shard.
pub record Signalled (h : History) (to : Endpoint) (id : ℕ) (reset : Bool) (new : ServerState) : Type 0 where
  pub tasks : List Task
  pub serves : Serves (signalled_below to id reset 8 h) new tasks

-- a signal goes to each shard, after every history so far.
abbrev pub IsSignalled : Endpoint → ℕ → Bool → ServerState → ServerState → Type 0
IsSignalled to id reset old new = (h : History) → (tasks : List Task) → Serves h old tasks → Serves (signalled_below to id reset 8 h) new tasks

-- a datagram was handled. If it produces a job, it is delivered, and then the job runs as job k. If
-- it is a signal, it is delivered, and then each shard gets the signal. Any other datagram is only
-- delivered.
abbrev pub Handled : List ℕ → History → ℕ → ℕ → Endpoint → Bor (List ℕ) → Delivered → ServerState → Option Emission → Type 0
Handled readings h k now to bytes (Brings job) new out =
    Worked readings (next h (Deliver now to bytes) None) k (first_stage job) job.origin.slot now new out
Handled readings h k now to bytes (Signals id reset) new out = (out ≡ None) × Signalled (next h (Deliver now to bytes) None) to id reset new
Handled readings h k now to bytes other new out = Delivers h (Deliver now to bytes) new out

-- a datagram was handled, after every history so far. Its job gets the next number.
abbrev pub Handles : List ℕ → ℕ → Endpoint → Bor (List ℕ) → Delivered → ServerState → ServerState → Option Emission → Type 0
Handles readings now to bytes brings old new out = (h : History) → (tasks : List Task) → Serves h old tasks → Handled readings h (length tasks) now to bytes brings new out

-- the history leaves this server, with some jobs.
pub record Reaches (h : History) (new : ServerState) : Type 0 where
  pub tasks : List Task
  pub serves : Serves h new tasks

-- time passes by a tick, after every history so far, and nothing is sent.
abbrev pub Passes : ℕ → ServerState → ServerState → Type 0
Passes now old new = (h : History) → (tasks : List Task) → Serves h old tasks → Serves (next h (Tick now) None) new tasks

-- the timer of a slot fires, after every history so far. The timer's job, which gets the next
-- number, runs; nothing is sent. `memory` says whether memory for the job's snapshot was allocated.
abbrev pub FiresTimer : List ℕ → ℕ → ℕ → Bool → ServerState → ServerState → Type 0
FiresTimer readings slot now memory old new = (h : History) → (tasks : List Task) → Serves h old tasks
    → Reaches (run_through readings (length tasks) memory now None (next h (Fire slot now) None)) new

-- a shard is ticked, after every history so far. The emission is a retransmission, if any.
abbrev pub TicksShard : ℕ → ℕ → ServerState → ServerState → Option Emission → Type 0
TicksShard shard now old new out = (h : History) → (tasks : List Task) → Serves h old tasks → Serves (next h (ShardTick shard now) out) new tasks

-- the events of a lease, as job k, which runs immediately. The lease is released at the end.
abbrev pub turned : List ℕ → ℕ → Bool → ℕ → ℕ → Option Emission → History → History
turned readings k memory now random out h = next (next (next (next h (Take k memory readings) None) (Fresh k now) None) (Note k now random) out) (GiveUp k now) None

-- a lease, as job k, has run, and this emission was sent.
pub record Turned (readings : List ℕ) (h : History) (k now random : ℕ) (new : ServerState) (out : Option Emission) : Type 0 where
  pub memory : Bool
  pub tasks : List Task
  pub serves : Serves (turned readings k memory now random out h) new tasks

-- a shard was asked for a lease. It granted none, or one that ran as job k.
abbrev pub TurnGiven : Bool → List ℕ → History → ℕ → ℕ → ℕ → ServerState → Option Emission → Type 0
TurnGiven false readings h k now random new out = (out ≡ None) × Reaches h new
TurnGiven true readings h k now random new out = Turned readings h k now random new out

-- a shard was asked for a lease. It granted one exactly if it has an observer with a pending
-- notification. After every history so far, the lease's job gets the next number.
pub record AsksForTurn (readings : List ℕ) (shard now random : ℕ) (old new : ServerState) (given : Bool) (out : Option Emission) : Type 0 where
  pub is_due : given ≡ is_some (shard_turn now (shard_at old.shards shard))
  pub asked : (h : History) (tasks : List Task) → Serves h old tasks → TurnGiven given readings (next h (Due shard now) None) (length tasks) now random new out

-- the lease that a shard grants belongs to a slot that has a program.
abbrev pub FindsProgram : ℕ → Shard → Type 0
FindsProgram now shard = (job : Job) × (shard_turn now shard ≡ Some job) × (is_some (slot_in shard job.origin.slot).present ≡ true)

-- the task is the newest job, that of a lease, and it runs.
abbrev pub Turns : List ℕ → ℕ → ℕ → ServerState → Task → ServerState → Option Emission → Type 0
Turns readings now random old task new out = (h : History) → (rest : List Task) → Serves h old (rest ++ task ∷ []) → Turned readings h (length rest) now random new out

-- the newest job, of this task, runs after every history so far, and its response is `out`.
-- `memory` says whether memory for the job's snapshot was allocated.
abbrev pub Runs : List ℕ → Bool → ℕ → ServerState → Task → ServerState → Option Emission → Type 0
Runs readings memory now old task new out = (h : History) → (rest : List Task) → Serves h old (rest ++ task ∷ [])
    → Reaches (run_through readings (length rest) memory now out h) new

-- the task is the newest job, and it runs from this stage.
abbrev pub WorksOff : List ℕ → Stage → ℕ → ServerState → Task → ServerState → Option Emission → Type 0
WorksOff readings stage now old task new out = (h : History) → (rest : List Task) → Serves h old (rest ++ task ∷ [])
    → Worked readings h (length rest) stage task.job.origin.slot now new out

-- the task is the newest job, and it runs from this stage, which takes no snapshot, so any readings
-- fit.
abbrev pub WorksOffUnread : Stage → ℕ → ServerState → Task → ServerState → Option Emission → Type 0
WorksOffUnread stage now old task new out = (readings : List ℕ) → WorksOff readings stage now old task new out

-- some history leaves this server with this task, which is the newest job and hasn't run yet.
pub record IsBegun (s : ServerState) (task : Task) : Type 0 where
  pub history : History
  pub rest : List Task
  pub serves : Serves history s (rest ++ task ∷ [])

pub record IsReachable (s : ServerState) : Type 0 where
  pub history : History
  pub tasks : List Task
  pub serves : Serves history s tasks

-- a server can begin in this state, and some history leaves the state without jobs.
pub record IsFirstServer (s : ServerState) : Type 0 where
  pub can : CanBeginWith s
  pub history : History
  pub serves : Serves history s []

-- the task is that of a lease that needs a snapshot and is active. The clock of its slot's shard
-- has reached this time.
pub record IsOutToTake (now : ℕ) (s : ServerState) (task : Task) : Type 0 where
  pub turn : Turn
  pub stage : task.stage ≡ ToTell turn turns.ToTake
  pub handed : let n = task.job.origin.slot in now ≤ (shard_at s.shards (n % 8)).now
  pub out :
      let n = task.job.origin.slot in
      let shard = shard_at s.shards (n % 8) in
      is_out_at turn shard.now (watch_at shard (n / 8)) ≡ true
