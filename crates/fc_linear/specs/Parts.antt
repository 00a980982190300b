-- A log of operations that is right for each part of a server and for each job, and the history
-- that it makes.
use Rattle.std.specs.Prelude.{◌≡◌, ℕ, ◌+◌, ◌*◌, ◌<◌, ◌≤◌, ◌==◌, ◌&&◌, ◌||◌, Bool, List, [], ◌∷◌, length, Option, Some, None, is_some}
use Rattle.std.specs.List.{filter}
use Rattle.coap_msg.specs.declared.types.Emission.{Emission}
use Rattle.fc_ticket.specs.declared.job.Job.{Job}
use Rattle.fc_registry.specs.Shards.{shard_at, slot_in_shards}
use Rattle.fc_registry.specs.Watches.{watch_at}
use Rattle.fc_core.specs.declared.event.Event.{Event}
use Rattle.fc_core.specs.declared.stage.Task.{Task}
use Rattle.fc_core.specs.History.{History, front_in, seen, slot_at, task_at, watch}
use Rattle.fc_core.specs.Legal.{AllMean, IsLegal}
use Rattle.fc_core.specs.Stage.{Stage}
use Rattle.fc_core.specs.Stages.{new_task}
use Rattle.fc_server.specs.Serving.{Serves, next}
use Rattle.fc_server.specs.States.{ServerState}
use Rattle.fc_linear.specs.Operations.{Operation, LogEntry, FrontDoes, IsOfServer, ShardDoes, StageMoves, WordsDo, emitted_of, event_of, is_for_job, is_front, is_shard, is_words, job_brought, part_of}

-- ---- the subhistories of a log

abbrev pub of_front : List LogEntry → List LogEntry
of_front log = filter (λ e. is_front (part_of e.operation)) log

abbrev pub of_shard : ℕ → List LogEntry → List LogEntry
of_shard i log = filter (λ e. is_shard i (part_of e.operation)) log

abbrev pub of_words : List LogEntry → List LogEntry
of_words log = filter (λ e. is_words (part_of e.operation)) log

-- whether the operation is for job k, or produces that job.
abbrev pub concerns : ℕ → LogEntry → Bool
concerns k e = (is_for_job e.operation || is_some (job_brought e.operation)) && (e.job == k)

abbrev pub of_job : ℕ → List LogEntry → List LogEntry
of_job k log = filter (concerns k) log

-- the entries that produce a job.
abbrev pub bringing : List LogEntry → List LogEntry
bringing log = filter (λ e. is_some (job_brought e.operation)) log

-- ---- each is right

-- the operations, in order, lead a part from one state to another.
abbrev pub LeadInOrder : {S : Type 0} → (Operation → S → S → Type 0) → List LogEntry → S → S → Type 0
LeadInOrder Does [] s t = t ≡ s
LeadInOrder {S} Does (e ∷ es) s t = (m : S) × Does e.operation s m × LeadInOrder Does es m t

-- each operation is the one that the job needs at the stage to which the earlier operations led it.
abbrev pub FollowsStages : List LogEntry → Task → Type 0
FollowsStages [] task = Unit {0}
FollowsStages (e ∷ es) task = (stage : Stage) × StageMoves e.operation task.job task.stage stage × FollowsStages es (record { job = task.job; stage = stage })

-- if there are operations, the first one produces the job, and the others follow the job's stages.
abbrev pub BringsItsJob : List LogEntry → Type 0
BringsItsJob [] = Unit {0}
BringsItsJob (e ∷ es) = (job : Job) × (job_brought e.operation ≡ Some job) × FollowsStages es (new_task job)

-- the entries have the job numbers n, n + 1 and so on, in order.
abbrev pub HaveNextNumbers : ℕ → List LogEntry → Type 0
HaveNextNumbers n [] = Unit {0}
HaveNextNumbers n (e ∷ es) = (e.job ≡ n) × HaveNextNumbers (n + 1) es

abbrev pub AllOfServer : List LogEntry → Type 0
AllOfServer [] = Unit {0}
AllOfServer (e ∷ es) = IsOfServer e.operation × AllOfServer es

-- the log is right for each part of the server s with these jobs, and for each job, and leads s to
-- `end`. The operations of each part lead it, in order, from its state in s to its state in `end`.
-- The operations of an existing job follow its stages. The first operation of a later job produces
-- it, and gives it the next number.
pub record RightByParts (end : ServerState) (s : ServerState) (tasks : List Task) (log : List LogEntry) : Type 0 where
  pub front : LeadInOrder FrontDoes (of_front log) s.front end.front
  pub shards : (i : ℕ) → i < 8 → LeadInOrder ShardDoes (of_shard i log) (shard_at s.shards i) (shard_at end.shards i)
  pub words : LeadInOrder WordsDo (of_words log) s.words end.words
  pub jobs : (k : ℕ) → k < length tasks → FollowsStages (of_job k log) (task_at tasks k)
  pub to_come : (k : ℕ) → length tasks ≤ k → BringsItsJob (of_job k log)
  pub numbered : HaveNextNumbers (length tasks) (bringing log)
  pub of_server : AllOfServer log

-- ---- the history of a log

-- the history continued by an event, with what it emits, if there is an event.
abbrev pub next_if : History → Option Event → Option Emission → History
next_if h (Some event) emitted = next h event emitted
next_if h None emitted = h

-- the history continued by the operations of a log that are events.
abbrev pub history_on : History → List LogEntry → History
history_on h [] = h
history_on h (e ∷ es) = history_on (next_if h (event_of e) (emitted_of e.operation)) es

-- the history leaves a server with the parts of `end`.
pub record LeavesServer (h : History) (end : ServerState) : Type 0 where
  pub server : ServerState
  pub tasks : List Task
  pub serves : Serves h server tasks
  pub front : server.front ≡ end.front
  pub shards : (i : ℕ) → i < 8 → shard_at server.shards i ≡ shard_at end.shards i
  pub words : server.words ≡ end.words

-- the history is legal, and each snapshot in it that found a program has a meaning. The server is
-- that of the history. This holds for its front, its slots, the times of its shards, the observers
-- of its slots, and the head words. Place k of shard i is slot 8 k + i.
pub record IsHistoryOf (h : History) (end : ServerState) : Type 0 where
  pub legal : IsLegal h
  pub means : AllMean h
  pub front : end.front ≡ front_in (seen h) (seen h).time
  pub slots : (n : ℕ) → n < 64 → slot_in_shards end.shards n ≡ slot_at (seen h) n
  pub times : (i : ℕ) → i < 8 → (shard_at end.shards i).now ≡ (seen h).shard_time i
  pub observers : (i k : ℕ) → i < 8 → k < 8 → watch_at (shard_at end.shards i) k ≡ watch (seen h) (8 * k + i)
  pub words : end.words ≡ (seen h).words
