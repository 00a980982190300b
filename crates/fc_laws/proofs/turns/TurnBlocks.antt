-- The ticket of a lease requests the first block, or none. So the response to the ticket's run is
-- sent complete, or as its first block.
use Rattle.std.proofs.Common.{◌≡◌, ℕ, ◌+◌, ◌*◌, List, [], ◌++◌, length, map, Bool, true, false, Option, Some, None, max, refl, sym, ap, ◌∙◌, subst, if◌then◌else◌}
use Rattle.std.specs.Prelude.{◌==◌, ◌&&◌, nat_lt, not}
use Rattle.std.specs.Option.{option_map, option_to_list}
use Rattle.std.proofs.lemmas.Bool.{eq-eqb}
use Rattle.coap_block.specs.Cuts.{Part, block_at, cut_at}
use Rattle.coap_msg.specs.declared.types.Endpoint.{Endpoint}
use Rattle.coap_opts.specs.Values.{Place, block_size}
use Rattle.coap_reply.specs.Blocks.{cut_for}
use Rattle.coap_reply.specs.Responses.{bare, content, etag, observe_option, text}
use Rattle.coap_block.specs.Cuts.{part_bytes}
use Rattle.fc_observe.specs.declared.entry.Turn.{Turn}
use Rattle.fc_observe.specs.Calls.{NextDue, observers_after}
use Rattle.fc_observe.specs.Observers.{ObserverList, list_at_time, entry_out, next_turn}
use Rattle.fc_observe.specs.Views.{Interest, interest_of}
use Rattle.fc_ticket.specs.declared.job.Job.{Job}
use Rattle.fc_ticket.specs.declared.job.Opening.{Opening}
use Rattle.fc_registry.specs.Calls.{is_out_at, turn_of, turn_snapshot, readings_if}
use Rattle.fc_ticket.specs.Runs.{meaning_at}
use Rattle.fc_ticket.specs.Tickets.{Present, Ticket}
use Rattle.fc_registry.specs.Slots.{Slot}
use Rattle.fc_registry.specs.Turns.{first_block, job_of_turn, turn_job}
use Rattle.fc_core.specs.declared.event.Event.{Event}
use Rattle.fc_core.specs.declared.event.Event.TheVariants.{Deliver, Due, Fire}
use Rattle.fc_core.specs.Stage.{Stage}
use Rattle.fc_core.specs.Stage.{ToTell}
use Rattle.fc_core.specs.declared.stage.Task.{Task}
use Rattle.fc_core.specs.TurnStage as turns
use Rattle.fc_core.specs.Fits.{FitsStage}
use Rattle.fc_core.specs.History.{History, BeginsWith, Then, Seen, seen, due_in, front_at, job, no_task, received_at, inputs, slot_at, stage, task_at, tasks_brought, tasks_moved, turn_at, watch}
use Rattle.fc_core.specs.Laws.{slot_of}
use Rattle.fc_laws.specs.ObserveLaws.{IsFirst}
use Rattle.fc_front.specs.Receiving.{Received, Opened, brought, next_opening}
use Rattle.fc_core.specs.Stages.{first_or_turn, new_task, turn_took, with_id}
use Rattle.fc_core.specs.Transitions.{Around, Inputs, names, transition, task_moved}
use Rattle.fc_laws.specs.TurnLaws.{response_of}
use Rattle.fc_core.proofs.ByStep.{Step, by_effect, effect_by, stage_by}
use Rattle.fc_core.proofs.ByStep as steps
use Rattle.fc_laws.proofs.turns.Apart.{IsToldOf, every, first_apart, transition_apart}
use Rattle.fc_core.proofs.Lists.{Each, appended_all, written_all}
use Rattle.fc_laws.proofs.slots.Writing.{sound}

abbrev at : Job → Slot → Around → Stage → Inputs
at job slot ws stage = record { job = job; slot = slot; around = ws; stage = stage }

-- ---- the block of a lease's job

abbrev AsksFirst : Job → Type 0
AsksFirst j = (number : ℕ) → j.turn ≡ Some number → IsFirst j.block

first_of : (szx : Option ℕ) → IsFirst (first_block szx)
first_of None = tt
first_of (Some szx) = refl

brought_first : (x : Received) (o : Opening) (to : Endpoint) → Each (λ t. AsksFirst t.job) (map new_task (brought x o to))
brought_first (Opened m asked body) o to = (λ number is. absurd (cc is), tt)
brought_first other o to = tt

told_first : (n number : ℕ) (x : Option Interest) → Each (λ t. AsksFirst t.job) (map new_task (option_to_list (option_map (turn_job n number) x)) ++ [])
told_first n number None = tt
told_first n number (Some o) = (λ own is. first_of o.szx, tt)

turn_first : (n : ℕ) (turn : Option Turn) (w : ObserverList) → Each (λ t. AsksFirst t.job) (map new_task (option_to_list (job_of_turn n turn w)) ++ [])
turn_first n None w = tt
turn_first n (Some turn) w = told_first n turn.number (option_map interest_of (entry_out turn w))

due_first : (s : Seen) (i m : ℕ) (p : Option ℕ) → Each (λ t. AsksFirst t.job) (map new_task (option_to_list (turn_at p s i m)) ++ [])
due_first s i m None = tt
due_first s i m (Some k) =
    let n = 8 * k + i in
    turn_first n (next_turn (slot_at s n).notify_serial (list_at_time m (watch s n))) (observers_after (NextDue m (slot_at s n).notify_serial) (watch s n))

all_brought : (e : Event) (s : Seen) → Each (λ t. AsksFirst t.job) (tasks_brought e s)
all_brought (Deliver now to bytes) s = brought_first (received_at s now to bytes.now) (next_opening (front_at s now)) to
all_brought (Due shard now) s = let m = max (s.shard_time shard) now in due_first s shard m (due_in s shard m)
all_brought (Fire slot now) s = (λ number is. absurd (cc is), tt)
all_brought other s = tt

all_moved : (e : Event) (s : Seen) (o : Option ℕ) → ((k : ℕ) → AsksFirst (job s k)) → (k : ℕ) → AsksFirst (task_at (tasks_moved o e s) k).job
all_moved e s None before k = before k
all_moved e s (Some j) before k = written_all (λ t. AsksFirst t.job) s.tasks j (task_moved (task_at s.tasks j) (transition e (inputs s j))) no_task before (before j) k

asks_first : (h : History) (k : ℕ) → AsksFirst (job (seen h) k)
unfolding seen
asks_first (BeginsWith stored id policy) k = λ number is. absurd (cc is)
asks_first (Then h r) k = appended_all (λ (t : Task). AsksFirst t.job) (tasks_moved (names r.event) r.event (seen h)) (tasks_brought r.event (seen h)) no_task (all_moved r.event (seen h) (names r.event) (asks_first h)) (all_brought r.event (seen h)) k

-- ---- the block of a lease's ticket

abbrev IsBlockOf : Job → Option Ticket → Type 0
IsBlockOf j None = Unit {0}
IsBlockOf j (Some t) = t.block ≡ j.block

abbrev HasBlock : Job → Stage → Type 0
HasBlock j (ToTell turn (turns.ToDraw found)) = IsBlockOf j found
HasBlock j (ToTell turn (turns.ToNote found id)) = IsBlockOf j found
HasBlock j other = Unit {0}

taken_block : (own : Turn) (out : Bool) (kept : Option (List ℕ)) (j : Job) (serial : ℕ) (p : Option Present) → HasBlock j (turn_took own (turn_snapshot out kept j serial p))
taken_block own false kept j serial p = tt
taken_block own true kept j serial None = tt
taken_block own true (Some readings) j serial (Some p) = refl
taken_block own true None j serial (Some p) = tt

drawn_block : (own : Turn) (j : Job) (found : Option Ticket) (free : Option ℕ) → IsBlockOf j found → HasBlock j (ToTell own (with_id found free))
drawn_block own j found (Some id) w = w
drawn_block own j found None w = w

step_block : (c : Step) (j : Job) (slot : Slot) (ws : Around) (turn : Turn) → IsToldOf turn (stage_by c) → HasBlock j (stage_by c) → HasBlock j (effect_by c j slot ws).stage
step_block (steps.TakesTurn memory readings mine) j slot ws turn own w = taken_block mine (is_out_at mine ws.time ws.watch) (readings_if memory readings) j slot.serial slot.present
step_block (steps.Draws now mine found) j slot ws turn own w = drawn_block mine j found (ws.common.free now) w
step_block (steps.Notes now random mine found id) j slot ws turn own w = tt
step_block (steps.GivesUp now mine needs) j slot ws turn own w = tt
step_block (steps.Loses needs) j slot ws turn own w = tt
step_block (steps.Refuses refusal) j slot ws turn own w = tt
step_block other j slot ws turn own w = absurd own

transition_block : (e : Event) (j : Job) (slot : Slot) (ws : Around) (turn : Turn) (s : Stage) → IsToldOf turn s → HasBlock j s → HasBlock j (transition e (at j slot ws s)).stage
transition_block e j slot ws turn s =
    by_effect (λ st m. IsToldOf turn st → HasBlock j st → HasBlock j m.stage) j slot ws
    (λ c asked. step_block c j slot ws turn) (λ st own w. w) e s

abbrev TellsBlock : Job → Stage → Type 0
TellsBlock j st = (n : ℕ) → j.turn ≡ Some n → IsToldOf (turn_of j n) st × HasBlock j st

begins_block : (j : Job) (o : Option ℕ) (n : ℕ) → o ≡ Some n → HasBlock j (first_or_turn o j)
begins_block j None n e = absurd (cc e)
begins_block j (Some own) n e = tt

tells_block : (h : History) (k : ℕ) → TellsBlock (job (seen h) k) (stage (seen h) k)
tells_block h k =
    every TellsBlock (λ j n e. (tt, tt)) (λ j n e. (first_apart j j.turn n e, begins_block j j.turn n e))
    (λ e j slot ws st w n of_turn. let before = w n of_turn in (transition_apart e j slot ws (turn_of j n) st before.0, transition_block e j slot ws (turn_of j n) st before.0 before.1)) h k

pub ticket_asks_first : (h : History) (k id : ℕ) (turn : Turn) (t : Ticket) → stage (seen h) k ≡ ToTell turn (turns.ToNote (Some t) id) → IsFirst t.block
ticket_asks_first h k id turn t is =
    let fits = subst (FitsStage (job (seen h) k) (slot_at (seen h) (slot_of (seen h) k))) is ((sound h).stages k) in
    let block : t.block ≡ (job (seen h) k).block = subst (HasBlock (job (seen h) k)) is (tells_block h k turn.number fits.1).1 in
    subst IsFirst (sym block) (asks_first h k turn.number fits.1)

-- ---- the response

-- the first block is never past the end of the reply.
first_cut : (number szx : ℕ) (bytes : List ℕ) → number ≡ 0 → cut_at bytes number szx ≡ Some (block_at bytes number szx)
first_cut number szx bytes is = ap (λ (i : ℕ). (if nat_lt 0 i && not (nat_lt (i * block_size szx) (length bytes)) then None else Some (block_at bytes number szx))) is

cut_by : (b : Bool) (bytes : List ℕ) → (part : Part) × ((if b then cut_at bytes 0 6 else Some (record { bytes = bytes; place = None })) ≡ Some part)
cut_by true bytes = (block_at bytes 0 6, refl)
cut_by false bytes = (record { bytes = bytes; place = None }, refl)

cut_is : (block : Option Place) (bytes : List ℕ) → IsFirst block → (part : Part) × (cut_for block bytes ≡ Some part)
cut_is None bytes first = cut_by (nat_lt 1024 (length bytes)) bytes
cut_is (Some block) bytes first = (block_at bytes block.number _, first_cut block.number _ bytes first)

pub content_told : (h : History) (k id : ℕ) (turn : Turn) (t : Ticket) → stage (seen h) k ≡ ToTell turn (turns.ToNote (Some t) id) → (meaning_at t).code ≡ 69 → (response_of t).code ≡ 69
content_told h k id turn t is ok =
    let cut = cut_is t.block (meaning_at t).reply (ticket_asks_first h k id turn t is) in
    let options = etag t.serial ++ observe_option true t.serial in
    let part = cut_for t.block (meaning_at t).reply in
    ap (λ (b : Bool). (if b then content options part else if (meaning_at t).code == 68 then text (meaning_at t).code (part_bytes part) else bare (meaning_at t).code).code) (eq-eqb (meaning_at t).code 69 ok)
    ∙ ap (λ (p : Option Part). (content options p).code) cut.1
