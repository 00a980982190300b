-- The history of a server, and its summary. A history is a beginning and the events since then,
-- each with its emission. All facts about a history come from one fold over its entries.
use Rattle.std.specs.Prelude.{ℕ, ◌+◌, ◌*◌, ◌%◌, ◌==◌, ◌&&◌, nat_lt, Bool, true, false, if◌then◌else◌, Option, Some, None, is_some, List, [], ◌∷◌, ◌++◌, length, map, filter, max, slice_index_or, slice_set}
use Rattle.std.specs.Option.{option_to_list}
use Rattle.coap_msg.specs.declared.types.Endpoint.{Endpoint}
use Rattle.coap_msg.specs.declared.types.Emission.{Emission}
use Rattle.coap_dedup.specs.Exchanges.{Exchange}
use Rattle.coap_dedup.specs.Exchanges.{answered_if, is_live as is_held}
use Rattle.coap_block.specs.Transfers.{Addition, transfers}
use Rattle.fc_observe.specs.Calls.{ObserverCall, NextDue, Tick as TickObservers, observers}
use Rattle.fc_observe.specs.Observers.{ObserverList, list_at_time, overdue_entry, next_turn}
use Rattle.fc_ticket.specs.declared.job.Ask.TheVariants.{Install as Installs}
use Rattle.fc_ticket.specs.declared.job.Job.{Job}
use Rattle.fc_ticket.specs.declared.job.InitialVars.TheVariants.{Zeros}
use Rattle.fc_registry.specs.Restored.{empty_at, restored_slot}
use Rattle.fc_registry.specs.Slots.{Slot}
use Rattle.fc_registry.specs.Changes.{Change, after_changes}
use Rattle.fc_registry.specs.Turns.{turn_given_to}
use Rattle.fc_registry.specs.Watches.{place_from, signal_call}
use Rattle.fc_store.specs.Stored.{StoredSlots}
use Rattle.fc_core.specs.declared.event.Event.{Event}
use Rattle.fc_core.specs.declared.event.Event.TheVariants.{Deliver, Answer, Due, Fire, Fresh, Signal, Tick, ShardTick}
use Rattle.fc_core.specs.Stage.{Stage}
use Rattle.fc_core.specs.Stage.{Gone}
use Rattle.fc_core.specs.declared.stage.Task.{Task}
use Rattle.fc_front.specs.Contents.{Content}
use Rattle.fc_front.specs.Ids.{Ids, first_ids, drawn, drawn_for, free_id}
use Rattle.fc_front.specs.Exchanges.{FrontState, opening_is_live}
use Rattle.fc_front.specs.Policies.{default_policy}
use Rattle.fc_front.specs.declared.policy.Policy.{Policy}
use Rattle.fc_front.specs.Receiving.{Received, added_by, received, opened_by, kept_of, drawn_by, brought, next_opening}
use Rattle.fc_front.specs.Heads.{first_words}
use Rattle.fc_front.specs.Timers.{timer_job}
use Rattle.fc_core.specs.Stages.{needs_id, new_task, content_at}
use Rattle.fc_core.specs.Transitions.{Around, Common, Inputs, names, inputs_at, transition, task_moved, handed, words_after}

-- an event with its emission, if any.
pub record Entry : Type 0 where
  pub event : Event
  pub emitted : Option Emission

-- a server begins with slots that are restored from their stored states, with the first message ID
-- that it draws, and with a policy.
pub data History : Type 0 where
  BeginsWith : (stored : StoredSlots) (id : ℕ) (policy : Policy) → History
  Then : (before : History) (entry : Entry) → History

-- a server begins with empty slots at a serial.
abbrev pub Begins : ℕ → ℕ → Policy → History
Begins serial id policy = BeginsWith (empty_at serial) id policy

-- the summary of a history. It has:
-- - the policy, and the stored states that the slots began with;
-- - the latest time passed to the front, the opened exchanges, the payloads of new requests, and
--   the message IDs that the server draws;
-- - the jobs with their stages;
-- - the changes of each slot, and the calls on its observers;
-- - the latest time passed to each shard, and the head words.
-- Exchanges and jobs are listed oldest first, since their positions are their numbers. Payloads,
-- changes and calls are listed newest first.
pub record Seen : Type 0 where
  pub policy : Policy
  pub stored : StoredSlots
  pub time : ℕ
  pub exchanges : List Exchange
  pub additions : List Addition
  pub ids : Ids
  pub tasks : List Task
  pub changes : ℕ → List Change
  pub shard_time : ℕ → ℕ
  pub calls : ℕ → List ObserverCall
  pub words : List ℕ

abbrev pub begun : StoredSlots → ℕ → Policy → Seen
begun stored id policy = record { policy = policy; stored = stored; time = 0; exchanges = []; additions = []; ids = first_ids id; tasks = []; changes = λ n. []; shard_time = λ k. 0; calls = λ n. []; words = first_words (λ n. restored_slot (stored n)) }

-- ---- slots and jobs

-- the slot n with which the server began.
abbrev pub first_slot : Seen → ℕ → Slot
first_slot s n = restored_slot (s.stored n)

abbrev pub slot_at : Seen → ℕ → Slot
slot_at s n = after_changes (first_slot s n) (s.changes n)

-- the task of a number that no job has.
abbrev pub no_task : Task
no_task = record {
  job = record {
    origin = record { opening = record { number = 0; at = 0 }; endpoint = record { ip = []; port = 0 }; id = 0; slot = 0 };
    turn = None;
    confirmable = false;
    token = record { items = [] };
    etags = record { items = [] };
    block = None;
    observe = None;
    ask = Installs (record { items = [] }) Zeros;
  };
  stage = Gone;
}

abbrev pub task_at : List Task → ℕ → Task
task_at tasks k = slice_index_or tasks k no_task

abbrev pub job : Seen → ℕ → Job
job s k = (task_at s.tasks k).job

abbrev pub stage : Seen → ℕ → Stage
stage s k = (task_at s.tasks k).stage

-- the observers of slot n.
abbrev pub watch : Seen → ℕ → ObserverList
watch s n = observers n s.policy.confirm_after (s.calls n)

-- the inputs that the jobs of all slots share.
abbrev pub common : Seen → Common
common s = record { words = s.words; free = λ now. free_id s.ids (max s.time now) }

-- the surroundings of slot n.
abbrev pub around : Seen → ℕ → Around
around s n = record { common = common s; time = s.shard_time (n % 8); watch = watch s n }

-- the inputs of an event for job k.
abbrev pub inputs : Seen → ℕ → Inputs
inputs s k = inputs_at (task_at s.tasks k) (slot_at s (job s k).origin.slot) (around s (job s k).origin.slot)

-- ---- the front

-- the front at this time, with the exchanges that were opened less than EXCHANGE_LIFETIME before.
abbrev pub front_in : Seen → ℕ → FrontState
front_in s at = record { managers = s.policy.managers; limits = s.policy.limits; now = at; opened = length s.exchanges; held = filter (is_held at) s.exchanges; transfers = transfers s.additions; ids = s.ids }

-- the front after this time was passed to it; its clock never goes back.
abbrev pub front_at : Seen → ℕ → FrontState
front_at s now = front_in s (max s.time now)

abbrev pub received_at : Seen → ℕ → Endpoint → List ℕ → Received
received_at s now to bytes = received (front_at s now) to bytes

-- the exchanges after this emission answered the exchange with this number.
abbrev pub answered_in : ℕ → Option Emission → List Exchange → List Exchange
answered_in number None exchanges = exchanges
answered_in number (Some emission) exchanges = map (λ e. answered_if (e.number == number) emission.bytes e) exchanges

-- the effect of an event on the front: a datagram is received, a job is answered, a message ID is
-- drawn for a lease, a timer fires, or time passes. An event can also have no effect there.
pub data AtFront : Type 0 where
  Receives : (now : ℕ) (to : Endpoint) (bytes : List ℕ) → AtFront
  Answers : (job now : ℕ) → AtFront
  Draws : (job now : ℕ) → AtFront
  Fires : (slot now : ℕ) → AtFront
  Passes : (now : ℕ) → AtFront
  Rests : AtFront

abbrev pub at_front : Event → AtFront
at_front (Deliver now to bytes) = Receives now to bytes.now
at_front (Answer k now) = Answers k now
at_front (Fresh k now) = Draws k now
at_front (Fire slot now) = Fires slot now
at_front (Tick now) = Passes now
at_front other = Rests

abbrev pub time_by : AtFront → Seen → ℕ
time_by (Receives now to bytes) s = max s.time now
time_by (Answers k now) s = if is_some (content_at (stage s k)) then max s.time now else s.time
time_by (Draws k now) s = if needs_id (stage s k) then max s.time now else s.time
time_by (Fires slot now) s = max s.time now
time_by (Passes now) s = max s.time now
time_by Rests s = s.time

-- the exchanges after a delivery. A delivery opens an exchange for a new request, and stores the
-- response that is sent immediately, if any. Other requests are answered later by their jobs.
abbrev pub exchanges_received : Received → Endpoint → Option Emission → Seen → ℕ → List Exchange
exchanges_received x to emitted s now = answered_in (length s.exchanges) (kept_of x emitted) (s.exchanges ++ opened_by x (next_opening (front_at s now)) to)

abbrev pub exchanges_by : AtFront → Option Emission → Seen → List Exchange
exchanges_by (Receives now to bytes) emitted s = exchanges_received (received_at s now to bytes) to emitted s now
exchanges_by (Answers k now) emitted s = if is_some (content_at (stage s k)) then answered_in (job s k).origin.opening.number emitted s.exchanges else s.exchanges
exchanges_by (Draws k now) emitted s = s.exchanges
exchanges_by (Fires slot now) emitted s = s.exchanges
exchanges_by (Passes now) emitted s = s.exchanges
exchanges_by Rests emitted s = s.exchanges

-- the payload of a new request. It begins or continues a transfer if the request has a block.
abbrev pub additions_by : AtFront → Seen → List Addition
additions_by (Receives now to bytes) s = added_by (received_at s now to bytes) (max s.time now) to
additions_by other s = []

-- the message IDs after the answer of a job. The answer draws one if the exchange is live and the
-- request isn't confirmable.
abbrev pub ids_answered : Option Content → Bool → Bool → Ids → ℕ → Ids
ids_answered (Some content) true confirmable ids at = drawn_for confirmable ids at
ids_answered content live confirmable ids at = ids

abbrev pub ids_by : AtFront → Seen → Ids
ids_by (Receives now to bytes) s = drawn_by (received_at s now to bytes) s.ids (max s.time now)
ids_by (Answers k now) s = ids_answered (content_at (stage s k)) (opening_is_live (max s.time now) (job s k).origin.opening) (job s k).confirmable s.ids (max s.time now)
ids_by (Draws k now) s = if needs_id (stage s k) then drawn s.ids (max s.time now) else s.ids
ids_by (Fires slot now) s = s.ids
ids_by (Passes now) s = s.ids
ids_by Rests s = s.ids

-- the jobs that an event makes at the front.
abbrev pub tasks_by : AtFront → Seen → List Task
tasks_by (Receives now to bytes) s = map new_task (brought (received_at s now to bytes) (next_opening (front_at s now)) to)
tasks_by (Fires slot now) s = new_task (timer_job slot) ∷ []
tasks_by other s = []

-- ---- the jobs and their slots

abbrev pub tasks_moved : Option ℕ → Event → Seen → List Task
tasks_moved None e s = s.tasks
tasks_moved (Some k) e s = slice_set s.tasks k (task_moved (task_at s.tasks k) (transition e (inputs s k)))

abbrev pub changes_after : Option ℕ → Event → Seen → ℕ → List Change
changes_after None e s n = s.changes n
changes_after (Some k) e s n = if (job s k).origin.slot == n then (transition e (inputs s k)).changes ++ s.changes n else s.changes n

abbrev pub shard_time_after : Option ℕ → Event → Seen → ℕ → ℕ
shard_time_after None e s i = s.shard_time i
shard_time_after (Some k) e s i = if (job s k).origin.slot % 8 == i then handed (transition e (inputs s k)).hands (s.shard_time i) else s.shard_time i

-- the effect of an event on the shard that the event itself names, rather than on the shard of a
-- job's slot. The event requests the lease of an observer of the shard, sends a signal to all of
-- its observers, or lets time pass there. An event can also have no effect there.
pub data AtShard : Type 0 where
  AsksTurn : (shard now : ℕ) → AtShard
  Signals : (shard : ℕ) (to : Endpoint) (id : ℕ) (reset : Bool) → AtShard
  Ticks : (shard now : ℕ) → AtShard
  Calm : AtShard

abbrev pub at_shard : Event → AtShard
at_shard (Due shard now) = AsksTurn shard now
at_shard (Signal shard to id reset) = Signals shard to id reset
at_shard (ShardTick shard now) = Ticks shard now
at_shard other = Calm

-- the time that the event passes to shard i, one of eight.
abbrev pub hands_by : AtShard → ℕ → Option ℕ
hands_by (AsksTurn shard now) i = if (shard == i) && nat_lt i 8 then Some now else None
hands_by (Ticks shard now) i = if (shard == i) && nat_lt i 8 then Some now else None
hands_by other i = None

-- the greatest head word raised for each slot.
abbrev pub words_seen : Option ℕ → Event → Seen → List ℕ
words_seen None e s = s.words
words_seen (Some k) e s = words_after (transition e (inputs s k)) (task_at s.tasks k) s.words

-- ---- calls on the observers

-- whether the slot at a place of shard i, 8 k + i, has a notification that has timed out at this
-- time.
abbrev pub is_overdue_at : Seen → ℕ → ℕ → ℕ → Bool
is_overdue_at s i at k = is_some (overdue_entry (list_at_time at (watch s (8 * k + i))))

-- the first place of shard i with a notification that has timed out; a shard above 7 has none.
unfoldable pub overdue_in : Seen → ℕ → ℕ → Option ℕ
overdue_in s i at = if nat_lt i 8 then place_from (is_overdue_at s i at) 8 0 else None

-- whether the slot at a place of shard i has an observer with a pending notification at this time.
abbrev pub is_due_at : Seen → ℕ → ℕ → ℕ → Bool
is_due_at s i at k = is_some (next_turn (slot_at s (8 * k + i)).notify_serial (list_at_time at (watch s (8 * k + i))))

-- the first place of shard i with an observer that has a pending notification; a shard above 7 has
-- none.
unfoldable pub due_in : Seen → ℕ → ℕ → Option ℕ
due_in s i at = if nat_lt i 8 then place_from (is_due_at s i at) 8 0 else None

-- whether there is a place, and slot n is at it.
abbrev pub is_place_of : Option ℕ → ℕ → ℕ → Bool
is_place_of None i n = false
is_place_of (Some k) i n = (8 * k + i) == n

-- the calls of an event at its own shard on the observers of slot n. A request for a lease calls
-- those of the first slot with a pending notification. A signal calls those of all slots of the
-- shard. A tick calls those of the first slot with a notification that has timed out.
abbrev pub calls_by : AtShard → Seen → ℕ → List ObserverCall
calls_by (AsksTurn shard now) s n =
    if is_place_of (due_in s shard (max (s.shard_time shard) now)) shard n
    then NextDue (max (s.shard_time shard) now) (slot_at s n).notify_serial ∷ []
    else []
calls_by (Signals shard to id reset) s n = if (n % 8) == shard then signal_call reset to id ∷ [] else []
calls_by (Ticks shard now) s n =
    if is_place_of (overdue_in s shard (max (s.shard_time shard) now)) shard n
    then TickObservers (max (s.shard_time shard) now) ∷ []
    else []
calls_by Calm s n = []

-- the job of the lease that is granted at a place of shard i, if there is one.
abbrev pub turn_at : Option ℕ → Seen → ℕ → ℕ → Option Job
turn_at None s i at = None
turn_at (Some k) s i at = turn_given_to (8 * k + i) at (slot_at s (8 * k + i)).notify_serial (watch s (8 * k + i))

-- the jobs of leases that an event makes at its own shard.
abbrev pub turns_by : AtShard → Seen → List Task
turns_by (AsksTurn shard now) s = map new_task (option_to_list (turn_at (due_in s shard (max (s.shard_time shard) now)) s shard (max (s.shard_time shard) now)))
turns_by other s = []

-- the jobs that an event makes: that of a lease, of a request, or of a timer.
abbrev pub tasks_brought : Event → Seen → List Task
tasks_brought e s = turns_by (at_shard e) s ++ tasks_by (at_front e) s

-- the calls of an event on the observers of slot n, if the event names a job of slot n.
abbrev pub calls_named : Option ℕ → Event → Seen → ℕ → List ObserverCall
calls_named None e s n = []
calls_named (Some k) e s n = if (job s k).origin.slot == n then (transition e (inputs s k)).calls else []

-- ---- the fold

abbrev pub and_then : Entry → Seen → Seen
and_then r s = record {
  policy = s.policy;
  stored = s.stored;
  time = time_by (at_front r.event) s;
  exchanges = exchanges_by (at_front r.event) r.emitted s;
  additions = additions_by (at_front r.event) s ++ s.additions;
  ids = ids_by (at_front r.event) s;
  tasks = tasks_moved (names r.event) r.event s ++ tasks_brought r.event s;
  changes = λ n. changes_after (names r.event) r.event s n;
  shard_time = λ i. handed (hands_by (at_shard r.event) i) (shard_time_after (names r.event) r.event s i);
  calls = λ n. calls_named (names r.event) r.event s n ++ (calls_by (at_shard r.event) s n ++ s.calls n);
  words = words_seen (names r.event) r.event s;
}

unfoldable pub seen : History → Seen
seen (BeginsWith stored id policy) = begun stored id policy
seen (Then h r) = and_then r (seen h)

abbrev pub did : Event → Option Emission → Entry
did event emitted = record { event = event; emitted = emitted }

-- history h continued by these events with their emissions.
abbrev pub history_after : History → List Event → List (Option Emission) → History
history_after h [] os = h
history_after h (e ∷ es) [] = h
history_after h (e ∷ es) (o ∷ os) = history_after (Then h (did e o)) es os

-- the history of a server that begins at serial 0 and message ID 0, with the default policy.
abbrev pub history_of : List Event → List (Option Emission) → History
history_of events emissions = history_after (Begins 0 0 default_policy) events emissions
