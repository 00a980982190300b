-- The state of a server, and the effect of an event on the server and on a task.
use Rattle.std.specs.Prelude.{◌≡◌, ℕ, ◌%◌, ◌<◌, ◌≤◌, Bool, true, false, List, Option, Some, None, length, map, max, replicate}
use Rattle.coap_msg.specs.declared.types.Emission.{Emission}
use Rattle.fc_ticket.specs.declared.job.Job.{Job}
use Rattle.fc_registry.specs.Restored.{empty_at, restored_slot}
use Rattle.fc_registry.specs.Shards.{AreShards, shard_at, slot_in_shards, with_owner}
use Rattle.fc_registry.specs.Slots.{Shard, last_serial}
use Rattle.fc_registry.specs.Starts.{shards_over}
use Rattle.fc_registry.specs.Watches.{watch_at}
use Rattle.fc_store.specs.Stored.{StoredSlots}
use Rattle.fc_front.specs.declared.policy.Policy.{Policy}
use Rattle.fc_core.specs.declared.event.Event.{Event}
use Rattle.fc_core.specs.declared.stage.Task.{Task}
use Rattle.fc_front.specs.Answering.{after_answered}
use Rattle.fc_front.specs.Contents.{Content}
use Rattle.fc_front.specs.Exchanges.{FrontState, advanced, first_front}
use Rattle.fc_front.specs.Heads.{first_words}
use Rattle.fc_front.specs.Ids.{drawn, free_id}
use Rattle.fc_core.specs.Fits.{FitsStage}
use Rattle.fc_core.specs.History.{AtFront, Answers, Draws, at_front, Begins, History}
use Rattle.fc_server.specs.declared.server.Begin.{Begin}
use Rattle.fc_core.specs.Legal.{AnswerEmits}
use Rattle.fc_core.specs.Sound.{AllSafe}
use Rattle.fc_core.specs.Stages.{content_at, drew, ended, needs_id}
use Rattle.fc_core.specs.Transitions.{Common, Effect, Inputs, goes_to, task_moved, transition, inputs_of, sends, shard_moved, words_after}

-- a valid initial state: its serial is at most the last one.
pub record CanBegin (b : Begin) : Type 0 where
  pub serial : b.serial ≤ last_serial

-- the history of a server that begins in this state.
abbrev pub begin_of : Begin → History
begin_of b = Begins b.serial b.id b.policy

-- the state of a server: its front, its shards, and the head words of their slots.
pub record ServerState : Type 0 where
  pub front : FrontState
  pub shards : List Shard
  pub words : List ℕ

-- the server whose slots are restored from these stored states, before any event. It has the
-- policy, and draws this message ID first.
abbrev pub server_over : StoredSlots → ℕ → Policy → ServerState
server_over stored id policy =
    record { front = first_front policy id; shards = shards_over (λ n. restored_slot (stored n)) policy.confirm_after; words = first_words (λ n. restored_slot (stored n)) }

-- the server with this initial state, before any event: its slots are empty.
abbrev pub first_server : Begin → ServerState
first_server b = server_over (empty_at b.serial) b.id b.policy

-- the time in ms after which a notification of slot 0 is confirmable again (RFC 7641, section 4.5).
abbrev pub confirm_after_of : ServerState → ℕ
confirm_after_of s = (watch_at (shard_at s.shards 0) 0).confirm_after

-- a server can begin in this state. It has eight shards of eight slots, and 64 head words. The
-- notifications of all slots are confirmable again after the same time.
pub record CanBeginWith (s : ServerState) : Type 0 where
  pub shards : AreShards s.shards
  pub confirms : (i : ℕ) → i < 8 → map (λ watch. watch.confirm_after) (shard_at s.shards i).watches ≡ replicate 8 (confirm_after_of s)
  pub words : length s.words ≡ 64

-- the inputs that the jobs of all slots share.
abbrev pub common_in : FrontState → List ℕ → Common
common_in f words = record { words = words; free = λ now. free_id f.ids (max f.now now) }

-- the inputs of a task's transition at a server.
abbrev pub inputs_in : ServerState → Task → Inputs
inputs_in s task = inputs_of (shard_at s.shards (task.job.origin.slot % 8)) (common_in s.front s.words) task

-- the shards after a transition of a job of slot n.
abbrev pub shards_moved : Effect → ℕ → List Shard → List Shard
shards_moved m n shards = with_owner shards n (shard_moved m n (shard_at shards (n % 8)))

-- the server may run this task.
pub record AtWork (s : ServerState) (task : Task) : Type 0 where
  pub count : length s.shards ≡ 8
  pub index : (n : ℕ) → n < 8 → (shard_at s.shards n).index ≡ n
  pub slot : task.job.origin.slot < 64
  pub stage : FitsStage task.job (slot_in_shards s.shards task.job.origin.slot) task.stage

-- the effect of an event on a task, with its emission. The task, its slot and the slot's head word
-- change by the event's transition. A program that is installed is safe.
pub record Does (e : Event) (old : ServerState) (task : Task) (new : ServerState) (next : Task) (emitted : Option Emission) : Type 0 where
  pub front : new.front ≡ old.front
  pub task_is : next ≡ task_moved task (transition e (inputs_in old task))
  pub shards : new.shards ≡ shards_moved (transition e (inputs_in old task)) task.job.origin.slot old.shards
  pub words : new.words ≡ words_after (transition e (inputs_in old task)) task old.words
  pub safe : AllSafe (transition e (inputs_in old task)).changes
  pub emits : emitted ≡ sends e (inputs_in old task)

-- the front after a task was answered with this content and this emission. Without a content the
-- front is unchanged.
abbrev pub front_after : Option Content → Job → Option Emission → FrontState → ℕ → FrontState
front_after None job emitted f now = f
front_after (Some content) job emitted f now = after_answered job emitted (advanced f now)

-- the front after a task drew a message ID, if the flag says that the task needed one.
abbrev pub front_drawn : Bool → FrontState → ℕ → FrontState
front_drawn true f now = record (advanced f now) { ids = drawn f.ids (max f.now now) }
front_drawn false f now = f

-- a task drew a message ID at this time.
pub record DrawsId (now : ℕ) (old : ServerState) (task : Task) (new : ServerState) (next : Task) : Type 0 where
  pub front : new.front ≡ front_drawn (needs_id task.stage) old.front now
  pub task_is : next ≡ task_moved task (goes_to (drew (free_id old.front.ids (max old.front.now now)) task.stage))
  pub shards : new.shards ≡ old.shards
  pub words : new.words ≡ old.words

-- a task was answered at this time, with this emission.
pub record Responds (now : ℕ) (old : ServerState) (task : Task) (new : ServerState) (next : Task) (emitted : Option Emission) : Type 0 where
  pub front : new.front ≡ front_after (content_at task.stage) task.job emitted old.front now
  pub task_is : next ≡ task_moved task (goes_to (ended task.stage))
  pub shards : new.shards ≡ old.shards
  pub words : new.words ≡ old.words
  pub emits : AnswerEmits (content_at task.stage) task.job (advanced old.front now) emitted

-- the effect of an event on the task of its job, by the event's effect on the front. The event
-- answers the task, draws a message ID for it, or has no effect on the front.
abbrev pub WorksAt : AtFront → Event → ServerState → Task → ServerState → Task → Option Emission → Type 0
WorksAt (Answers k now) e old task new next emitted = Responds now old task new next emitted
WorksAt (Draws k now) e old task new next emitted = DrawsId now old task new next × (emitted ≡ None)
WorksAt other e old task new next emitted = Does e old task new next emitted

abbrev pub Works : Event → ServerState → Task → ServerState → Task → Option Emission → Type 0
Works e old task new next emitted = WorksAt (at_front e) e old task new next emitted
