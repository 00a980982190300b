-- A call as an event of the history.
use Rattle.std.proofs.Common.{◌≡◌, ℕ, ◌%◌, List, set, Option, refl, sym, ap, subst}
use Rattle.coap_msg.specs.declared.types.Emission.{Emission}
use Rattle.fc_registry.specs.Shards.{shard_at}
use Rattle.fc_registry.specs.Slots.{slot_in}
use Rattle.fc_core.specs.declared.event.Event.{Event}
use Rattle.fc_core.specs.declared.stage.Task.{Task}
use Rattle.fc_core.specs.Stage.{Stage}
use Rattle.fc_core.specs.Fits.{FitsStage}
use Rattle.fc_core.specs.History.{History, seen, task_at}
use Rattle.fc_core.specs.Transitions.{Inputs, around_of, transition, sends, task_moved, words_after}
use Rattle.fc_core.specs.Sound.{AllSafe}
use Rattle.fc_server.specs.Serving.{Serves, next, with_tasks}
use Rattle.fc_server.specs.States.{AtWork, Does, ServerState, common_in, shards_moved}
use Rattle.fc_server.specs.Steps.{Done, IsOfJob}
use Rattle.fc_server.proofs.Others.{does_done}
use Rattle.fc_server.proofs.Served.{at_seen}
use Rattle.fc_server.proofs.Stepping.{goes_on}

-- if a history leaves a server, and an event has its effect there, the history with the event
-- leaves the server after it.
pub served_on : (h : History) (e : Event) (old : ServerState) (tasks : List Task) (out : Option Emission) (new : ServerState) (later : List Task) → Done e (with_tasks old tasks) out (with_tasks new later) → Serves h old tasks → Serves (next h e out) new later
unfolding seen
served_on h e old tasks out new later done v =
    let s = goes_on e (with_tasks old tasks) (with_tasks new later) out done (seen h) v.agrees in
    record { legal = (s.emits, v.legal); means = (s.means, v.means); agrees = s.agrees }

-- if a history leaves a server with a list of jobs, any job of the list may run.
pub may_work : (h : History) (s : ServerState) (tasks : List Task) (k : ℕ) → Serves h s tasks → AtWork s (task_at tasks k)
may_work h s tasks k v = at_seen (seen h) (with_tasks s tasks) k (task_at tasks k) v.agrees (ap (λ (ts : List Task). task_at ts k) (sym v.agrees.tasks))

-- if an event of job k has its effect on server and job, the history with the event leaves the
-- server after it.
pub job_served : (h : History) (e : Event) (k : ℕ) → IsOfJob e k → (s t : ServerState) (tasks : List Task) (later : Task) (out : Option Emission) → Does e s (task_at tasks k) t later out → Serves h s tasks → Serves (next h e out) t (set tasks k later)
job_served h e k of s t tasks later out d v = served_on h e s tasks out t (set tasks k later) (does_done e k of s t tasks (set tasks k later) (task_at tasks k) later out refl refl d) v

-- the inputs of a transition at slot i, for a task at this stage.
abbrev pub inputs_with : ServerState → Task → ℕ → Stage → Inputs
inputs_with s task i stage =
    let shard = shard_at s.shards (i % 8) in record { job = task.job; slot = slot_in shard i; around = around_of shard (common_in s.front s.words) i; stage = stage }

-- the effect of an event on a server and a task, computed for slot i and this stage.
pub record DoesThere (e : Event) (s : ServerState) (task : Task) (i : ℕ) (stage : Stage) (t : ServerState) (later : Task) (out : Option Emission) : Type 0 where
  pub front : t.front ≡ s.front
  pub task_is : later ≡ task_moved task (transition e (inputs_with s task i stage))
  pub shards : t.shards ≡ shards_moved (transition e (inputs_with s task i stage)) i s.shards
  pub words : t.words ≡ words_after (transition e (inputs_with s task i stage)) task s.words
  pub safe : AllSafe (transition e (inputs_with s task i stage)).changes
  pub emits : out ≡ sends e (inputs_with s task i stage)

there_is : (e : Event) (s : ServerState) (task : Task) (t : ServerState) (later : Task) (out : Option Emission) → DoesThere e s task task.job.origin.slot task.stage t later out → Does e s task t later out
there_is e s task t later out d = record { front = d.front; task_is = d.task_is; shards = d.shards; words = d.words; safe = d.safe; emits = d.emits }

pub does_there : (e : Event) (s : ServerState) (task : Task) (i : ℕ) (stage : Stage) (t : ServerState) (later : Task) (out : Option Emission) → i ≡ task.job.origin.slot → task.stage ≡ stage → DoesThere e s task i stage t later out → Does e s task t later out
does_there e s task i stage t later out at is d =
    there_is e s task t later out
    (subst (λ (n : ℕ). DoesThere e s task n task.stage t later out) at (subst (λ (x : Stage). DoesThere e s task i x t later out) (sym is) d))

-- the stage of a running task fits its job and its slot.
pub fits_there : (s : ServerState) (task : Task) (stage : Stage) → AtWork s task → task.stage ≡ stage → FitsStage task.job (slot_in (shard_at s.shards (task.job.origin.slot % 8)) task.job.origin.slot) stage
fits_there s task stage w is = subst (λ (x : Stage). FitsStage task.job (slot_in (shard_at s.shards (task.job.origin.slot % 8)) task.job.origin.slot) x) is w.stage
