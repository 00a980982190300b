-- The effect of an event on a server and its jobs, and how the server stays in agreement with the
-- history.
use Rattle.std.specs.Prelude.{◌≡◌, ℕ, Bool, true, false, nat_lt, List, [], ◌∷◌, ◌++◌, map, Option, Some, None, slice_set}
use Rattle.std.specs.Option.{option_to_list}
use Rattle.coap_msg.specs.declared.types.Endpoint.{Endpoint}
use Rattle.coap_msg.specs.declared.types.Emission.{Emission}
use Rattle.fc_observe.specs.declared.observers.Ticked.{Ticked}
use Rattle.fc_ticket.specs.declared.job.Job.{Job}
use Rattle.fc_registry.specs.Shards.{shard_at}
use Rattle.fc_registry.specs.Slots.{Shard}
use Rattle.fc_registry.specs.Turns.{due_job}
use Rattle.fc_registry.specs.Watches.{after_due, shard_after_tick, due_place, at_time, overdue_place, signal_call, signalled, ticked_in}
use Rattle.fc_core.specs.declared.event.Event.{Event}
use Rattle.fc_core.specs.declared.stage.Task.{Task}
use Rattle.fc_front.specs.Exchanges.{FrontState, advanced}
use Rattle.fc_core.specs.History.{AtFront, Receives, Answers, Draws, Fires, Passes, Rests, AtShard, AsksTurn, Signals, Ticks, Calm, Seen, and_then, at_front, at_shard, did, task_at}
use Rattle.fc_core.specs.Legal.{AnswerEmits, Emits, TakesMeaning, resent}
use Rattle.fc_front.specs.Receiving.{after_received, brought, next_opening, received, sent}
use Rattle.fc_core.specs.Sound.{AllSafe}
use Rattle.fc_core.specs.Stages.{content_at, needs_id, new_task}
use Rattle.fc_front.specs.Timers.{timer_job}
use Rattle.fc_core.specs.Transitions.{Effect, names, transition, sends, task_moved, words_after}
use Rattle.fc_server.specs.Agreement.{Agrees, Parts}
use Rattle.fc_server.specs.States.{ServerState, front_after, front_drawn, inputs_in, shards_moved}

-- ---- by an event's effect on the front

abbrev pub front_by : AtFront → Parts → Option Emission → FrontState
front_by (Receives now to bytes) p emitted = after_received (received (advanced p.front now) to bytes) (advanced p.front now) to
front_by (Answers k now) p emitted = front_after (content_at (task_at p.tasks k).stage) (task_at p.tasks k).job emitted p.front now
front_by (Draws k now) p emitted = front_drawn (needs_id (task_at p.tasks k).stage) p.front now
front_by (Fires slot now) p emitted = advanced p.front now
front_by (Passes now) p emitted = advanced p.front now
front_by Rests p emitted = p.front

abbrev pub brought_by : AtFront → Parts → List Task
brought_by (Receives now to bytes) p = map new_task (brought (received (advanced p.front now) to bytes) (next_opening (advanced p.front now)) to)
brought_by (Fires slot now) p = new_task (timer_job slot) ∷ []
brought_by other p = []

-- ---- by the job that an event names

-- the server of these parts.
abbrev pub server_in : Parts → ServerState
server_in p = record { front = p.front; shards = p.shards; words = p.words }

abbrev pub effect_in : Event → Parts → ℕ → Effect
effect_in e p k = transition e (inputs_in (server_in p) (task_at p.tasks k))

abbrev pub tasks_in : Option ℕ → Event → Parts → List Task
tasks_in None e p = p.tasks
tasks_in (Some k) e p = slice_set p.tasks k (task_moved (task_at p.tasks k) (effect_in e p k))

abbrev pub shards_in : Option ℕ → Event → Parts → List Shard
shards_in None e p = p.shards
shards_in (Some k) e p = shards_moved (effect_in e p k) (task_at p.tasks k).job.origin.slot p.shards

abbrev pub words_in : Option ℕ → Event → Parts → List ℕ
words_in None e p = p.words
words_in (Some k) e p = words_after (effect_in e p k) (task_at p.tasks k) p.words

abbrev pub IsSafeIn : Option ℕ → Event → Parts → Type 0
IsSafeIn None e p = Unit {0}
IsSafeIn (Some k) e p = AllSafe (effect_in e p k).changes

-- ---- by an event's effect on a shard; an event that names a shard above 7 has no effect there

abbrev pub shard_changed : Bool → ℕ → (Shard → Shard) → List Shard → List Shard
shard_changed true i f shards = slice_set shards i (f (shard_at shards i))
shard_changed false i f shards = shards

-- a shard after a tick at this time.
abbrev pub shard_ticked : ℕ → Shard → Shard
shard_ticked now shard = shard_after_tick (overdue_place (at_time shard now)) (at_time shard now)

-- the result of a tick at this time.
abbrev pub shard_told : ℕ → Shard → Ticked
shard_told now shard = ticked_in (overdue_place (at_time shard now)) (at_time shard now)

-- the retransmission of a tick at this time, if any.
abbrev pub shard_resent : ℕ → Shard → Option Emission
shard_resent now shard = resent (shard_told now shard)

-- a shard after a request for a lease at this time.
abbrev pub shard_asked : ℕ → Shard → Shard
shard_asked now shard = after_due (due_place (at_time shard now)) (at_time shard now)

-- the job of the lease that a shard grants at this time, if any.
abbrev pub shard_turn : ℕ → Shard → Option Job
shard_turn now shard = due_job (due_place (at_time shard now)) (at_time shard now)

abbrev pub turn_if : Bool → Option Job → Option Job
turn_if true job = job
turn_if false job = None

abbrev pub resent_if : Bool → Option Emission → Option Emission
resent_if true emitted = emitted
resent_if false emitted = None

abbrev pub shard_by : AtShard → List Shard → List Shard
shard_by (AsksTurn i now) shards = shard_changed (nat_lt i 8) i (shard_asked now) shards
shard_by (Signals i to id reset) shards = shard_changed (nat_lt i 8) i (signalled (signal_call reset to id)) shards
shard_by (Ticks i now) shards = shard_changed (nat_lt i 8) i (shard_ticked now) shards
shard_by Calm shards = shards

-- the jobs that an event makes at its own shard.
abbrev pub turns_at : AtShard → List Shard → List Task
turns_at (AsksTurn i now) shards = map new_task (option_to_list (turn_if (nat_lt i 8) (shard_turn now (shard_at shards i))))
turns_at other shards = []

abbrev pub resent_by : AtShard → List Shard → Option Emission
resent_by (Ticks i now) shards = resent_if (nat_lt i 8) (shard_resent now (shard_at shards i))
resent_by other shards = None

-- ---- emissions

abbrev pub sends_at : Option ℕ → Event → Parts → Option Emission
sends_at None e p = resent_by (at_shard e) p.shards
sends_at (Some k) e p = sends e (inputs_in (server_in p) (task_at p.tasks k))

abbrev pub EmitsAt : AtFront → Event → Parts → Option Emission → Type 0
EmitsAt (Receives now to bytes) e p emitted = emitted ≡ sent (received (advanced p.front now) to bytes) (advanced p.front now) to
EmitsAt (Answers k now) e p emitted = AnswerEmits (content_at (task_at p.tasks k).stage) (task_at p.tasks k).job (advanced p.front now) emitted
EmitsAt (Draws k now) e p emitted = emitted ≡ None
EmitsAt (Fires slot now) e p emitted = emitted ≡ None
EmitsAt (Passes now) e p emitted = emitted ≡ None
EmitsAt Rests e p emitted = emitted ≡ sends_at (names e) e p

-- ---- an event

-- the effect of an event on the front, the jobs, the shards and the head words, with the event's
-- emission.
pub record Done (e : Event) (old : Parts) (emitted : Option Emission) (new : Parts) : Type 0 where
  pub front : new.front ≡ front_by (at_front e) old emitted
  pub tasks : new.tasks ≡ tasks_in (names e) e old ++ (turns_at (at_shard e) old.shards ++ brought_by (at_front e) old)
  pub shards : new.shards ≡ shard_by (at_shard e) (shards_in (names e) e old)
  pub words : new.words ≡ words_in (names e) e old
  pub emits : EmitsAt (at_front e) e old emitted
  pub safe : IsSafeIn (names e) e old

-- the event is one of job k, and has no effect on the front and on a shard of its own.
abbrev pub IsOfJob : Event → ℕ → Type 0
IsOfJob e k = (at_front e ≡ Rests) × (at_shard e ≡ Calm) × (names e ≡ Some k)

-- a datagram was delivered to a front that has advanced to this time. The jobs that the datagram
-- produces are added, and its emission is sent.
pub record DeliveredTo (now : ℕ) (to : Endpoint) (bytes : List ℕ) (old new : Parts) (emitted : Option Emission) : Type 0 where
  pub front : let f = advanced old.front now in new.front ≡ after_received (received f to bytes) f to
  pub tasks : let f = advanced old.front now in new.tasks ≡ old.tasks ++ map new_task (brought (received f to bytes) (next_opening f) to)
  pub shards : new.shards ≡ old.shards
  pub words : new.words ≡ old.words
  pub emits : let f = advanced old.front now in emitted ≡ sent (received f to bytes) f to

-- one more event keeps the agreement with a history's summary. The emission is permitted, the
-- program that a snapshot finds has a meaning, and the new state agrees with the history after the
-- event.
pub record Step (e : Event) (emitted : Option Emission) (new : Parts) (s : Seen) : Type 0 where
  pub emits : Emits s e emitted
  pub means : TakesMeaning s e
  pub agrees : Agrees (and_then (did e emitted) s) new

abbrev pub Steps : Event → Parts → Option Emission → Parts → Type 0
Steps e old emitted new = (s : Seen) → Agrees s old → Step e emitted new s

-- some history leaves the state of these parts.
pub record IsReached (p : Parts) : Type 0 where
  pub seen : Seen
  pub agrees : Agrees seen p
