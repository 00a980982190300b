-- Facts about the lease of a job, in every history. The lease was granted for a serial that is at
-- most that of its snapshot. A lease whose snapshot found the slot empty is marked as missing.
use Rattle.std.proofs.Common.{◌≡◌, ℕ, ◌+◌, ◌*◌, ◌<◌, ◌≤◌, List, [], ◌∷◌, ◌++◌, Bool, true, false, cond, Option, Some, None, refl, sym, ap, ◌∙◌, subst, arith, map, max, if◌then◌else◌}
use Rattle.std.specs.Prelude.{◌%◌, ◌==◌, ◌&&◌, is_some}
use Rattle.std.specs.List.{All}
use Rattle.std.specs.Option.{option_map, option_to_list}
use Rattle.std.proofs.lemmas.Bool.{and_right, eq-eqb, eqb-true, false_from_ne_true}
use Rattle.coap_msg.specs.declared.types.Endpoint.{Endpoint}
use Rattle.fc_observe.specs.declared.entry.Turn.{Turn}
use Rattle.fc_observe.specs.Calls.{ObserverCall, Advance, NextDue, MarkMissing, observers}
use Rattle.fc_observe.specs.Laws.{noticed_for}
use Rattle.fc_observe.specs.Observers.{ObserverList, list_at_time, entry_out, gives_turn, next_turn_by, turn_given, turn_given_by}
use Rattle.fc_observe.specs.Views.{Interest, interest_of}
use Rattle.fc_observe.proofs.Hearing.{more_turns}
use Rattle.fc_observe.proofs.Lasting.{HasMissed, missed_begin, missed_last}
use Rattle.fc_ticket.specs.declared.job.Job.{Job}
use Rattle.fc_ticket.specs.declared.job.Opening.{Opening}
use Rattle.fc_registry.specs.Calls.{is_out_at, mark_missing_calls, turn_of, turn_snapshot, readings_if}
use Rattle.fc_ticket.specs.Tickets.{Present, Ticket}
use Rattle.fc_registry.specs.Slots.{Slot}
use Rattle.fc_registry.specs.Turns.{job_of_turn, turn_job}
use Rattle.fc_registry.proofs.Noticed.{noticed_from}
use Rattle.fc_core.specs.declared.event.Event.{Event}
use Rattle.fc_core.specs.declared.event.Event.TheVariants.{Deliver, Due, Fire}
use Rattle.fc_core.specs.Stage.{Stage}
use Rattle.fc_core.specs.Stage.{ToTell}
use Rattle.fc_core.specs.declared.stage.Task.{Task}
use Rattle.fc_core.specs.TurnStage.{TurnStage}
use Rattle.fc_core.specs.TurnStage as turns
use Rattle.fc_core.specs.Fits.{FitsStage}
use Rattle.fc_core.specs.History.{first_slot, Entry, History, BeginsWith, Then, Seen, seen, and_then, around, calls_by, calls_named, common, due_in, front_at, is_place_of, job, no_task, received_at, inputs, slot_at, stage, task_at, tasks_brought, tasks_moved, turn_at, watch, at_shard}
use Rattle.fc_core.specs.Laws.{slot_of}
use Rattle.fc_front.specs.Receiving.{Received, Opened, brought, job_of, next_opening}
use Rattle.fc_core.specs.Sound.{IsSoundlySeen}
use Rattle.fc_core.specs.Stages.{first_stage, new_task, turn_took, with_id}
use Rattle.fc_front.specs.Timers.{timer_job}
use Rattle.fc_core.specs.Transitions.{Common, Around, Inputs, names, transition, task_moved}
use Rattle.fc_core.proofs.ByStep.{Step, by_effect, effect_by, stage_by}
use Rattle.fc_core.proofs.ByStep as steps
use Rattle.fc_laws.proofs.turns.Apart.{IsToldOf, is_told_of}
use Rattle.fc_core.proofs.Fitting.{after_rises, first_fits, transition_fits}
use Rattle.fc_core.proofs.Keeping.{grows, slot_grows}
use Rattle.fc_core.proofs.Lists.{Each, appended_all, written_all}
use Rattle.fc_core.proofs.OnShards.{named_calm}
use Rattle.fc_core.proofs.Watches.{after_append}
use Rattle.fc_laws.proofs.slots.Writing.{sound}

-- ---- the facts

-- the facts about the snapshot of a lease.
abbrev pub KnowsFound : ℕ → ℕ → List ObserverCall → Turn → Option Ticket → Type 0
KnowsFound n confirm_after calls turn None = All (HasMissed turn.number) (observers n confirm_after calls).held
KnowsFound n confirm_after calls turn (Some t) = noticed_for turn.number n confirm_after calls ≤ t.serial

abbrev pub KnowsTurn : ℕ → ℕ → List ObserverCall → ℕ → Turn → TurnStage → Type 0
KnowsTurn n confirm_after calls serial turn turns.ToTake = noticed_for turn.number n confirm_after calls ≤ serial
KnowsTurn n confirm_after calls serial turn (turns.ToDraw found) = KnowsFound n confirm_after calls turn found
KnowsTurn n confirm_after calls serial turn (turns.ToNote found id) = KnowsFound n confirm_after calls turn found

-- the facts about the job of a lease of slot n at this stage. They are for these calls on the
-- slot's observers, and for this serial of the slot.
abbrev pub Knows : ℕ → ℕ → List ObserverCall → ℕ → Stage → Type 0
Knows n confirm_after calls serial (ToTell turn needs) = (turn.number < (observers n confirm_after calls).turns) × KnowsTurn n confirm_after calls serial turn needs
Knows n confirm_after calls serial other = Unit {0}

-- ---- more calls, and a later serial

turns_last : (n confirm_after number : ℕ) (cs calls : List ObserverCall) → number < (observers n confirm_after calls).turns → number < (observers n confirm_after (cs ++ calls)).turns
turns_last n confirm_after number cs calls lt =
    let more = more_turns cs (observers n confirm_after calls) in
    let same = ap (λ (t : ObserverList). t.turns) (after_append n confirm_after cs calls) in
    omega (arith, lt, more, same)

-- a lease that is granted later has another number.
another_turn : (turns number notify_serial old : ℕ) (b : Bool) → number < turns → cond (b && (turns == number)) notify_serial old ≡ old
another_turn turns number notify_serial old b lt =
    let other : (turns == number) ≡ false = false_from_ne_true (turns == number) (λ e. let same = eqb-true turns number e in absurd (omega (arith, same, lt))) in
    ap (λ (c : Bool). cond c notify_serial old) (and_right b (turns == number) other)

noticed_lasts : (n confirm_after number : ℕ) (cs calls : List ObserverCall) → number < (observers n confirm_after calls).turns → noticed_for number n confirm_after (cs ++ calls) ≡ noticed_for number n confirm_after calls
noticed_lasts n confirm_after number [] calls lt = refl
noticed_lasts n confirm_after number (NextDue now notify_serial ∷ cs) calls lt =
    let t = observers n confirm_after (cs ++ calls) in
    another_turn t.turns number notify_serial (noticed_for number n confirm_after (cs ++ calls)) (gives_turn notify_serial (list_at_time now t)) (turns_last n confirm_after number cs calls lt) ∙ noticed_lasts n confirm_after number cs calls lt
noticed_lasts n confirm_after number (other ∷ cs) calls lt = noticed_lasts n confirm_after number cs calls lt

found_lasts : (n confirm_after : ℕ) (cs calls : List ObserverCall) (turn : Turn) (found : Option Ticket) → turn.number < (observers n confirm_after calls).turns → KnowsFound n confirm_after calls turn found → KnowsFound n confirm_after (cs ++ calls) turn found
found_lasts n confirm_after cs calls turn None lt all = subst (λ (t : ObserverList). All (HasMissed turn.number) t.held) (sym (after_append n confirm_after cs calls)) (missed_last turn.number cs (observers n confirm_after calls) lt all)
found_lasts n confirm_after cs calls turn (Some t) lt le = let same = noticed_lasts n confirm_after turn.number cs calls lt in omega (arith, le, same)

turn_lasts : (n confirm_after : ℕ) (cs calls : List ObserverCall) (serial later : ℕ) (turn : Turn) (needs : TurnStage) → serial ≤ later → turn.number < (observers n confirm_after calls).turns → KnowsTurn n confirm_after calls serial turn needs → KnowsTurn n confirm_after (cs ++ calls) later turn needs
turn_lasts n confirm_after cs calls serial later turn turns.ToTake rises lt le = let same = noticed_lasts n confirm_after turn.number cs calls lt in omega (arith, le, same, rises)
turn_lasts n confirm_after cs calls serial later turn (turns.ToDraw found) rises lt w = found_lasts n confirm_after cs calls turn found lt w
turn_lasts n confirm_after cs calls serial later turn (turns.ToNote found id) rises lt w = found_lasts n confirm_after cs calls turn found lt w

lasts : (n confirm_after : ℕ) (cs calls : List ObserverCall) (serial later : ℕ) (s : Stage) → serial ≤ later → Knows n confirm_after calls serial s → Knows n confirm_after (cs ++ calls) later s
lasts n confirm_after cs calls serial later (ToTell turn needs) rises w = (turns_last n confirm_after turn.number cs calls w.0, turn_lasts n confirm_after cs calls serial later turn needs rises w.0 w.1)
lasts n confirm_after cs calls serial later other rises w = tt

-- ---- each transition

abbrev at : Job → Slot → Around → Stage → Inputs
at job slot ws stage = record { job = job; slot = slot; around = ws; stage = stage }

module _ (n confirm_after : ℕ) (calls : List ObserverCall) (serial : ℕ) (turn : Turn) (time : ℕ) (job : Job) where
  abbrev out : Bool
  out = is_out_at turn time (observers n confirm_after calls)

  snapshot_knows : (b : Bool) (kept : Option (List ℕ)) (p : Option Present) → is_some (entry_out turn (list_at_time time (observers n confirm_after calls))) ≡ b → turn.number < (observers n confirm_after calls).turns → noticed_for turn.number n confirm_after calls ≤ serial → Knows n confirm_after ((mark_missing_calls b turn p ++ Advance time ∷ []) ++ calls) serial (turn_took turn (turn_snapshot b kept job serial p))
  snapshot_knows false kept p is lt le = tt
  snapshot_knows true kept None is lt le = (turns_last n confirm_after turn.number (MarkMissing turn ∷ Advance time ∷ []) calls lt, missed_begin turn n confirm_after (Advance time ∷ calls) is)
  snapshot_knows true (Some readings) (Some p) is lt le = (lt, le)
  snapshot_knows true None (Some p) is lt le = (lt, le)

drawn_knows : (n confirm_after : ℕ) (calls : List ObserverCall) (serial : ℕ) (turn : Turn) (found : Option Ticket) (free : Option ℕ) → KnowsFound n confirm_after calls turn found → KnowsTurn n confirm_after calls serial turn (with_id found free)
drawn_knows n confirm_after calls serial turn found (Some id) w = w
drawn_knows n confirm_after calls serial turn found None w = w

module _ (n confirm_after : ℕ) (calls : List ObserverCall) (common : Common) (time : ℕ) where
  abbrev ws : Around
  ws = record { common = common; time = time; watch = observers n confirm_after calls }

  step_knows : (c : Step) (job : Job) (slot : Slot) (turn : Turn) → IsToldOf turn (stage_by c) → Knows n confirm_after calls slot.serial (stage_by c) → Knows n confirm_after ((effect_by c job slot ws).calls ++ calls) slot.serial (effect_by c job slot ws).stage
  step_knows (steps.TakesTurn memory readings mine) job slot turn own w = snapshot_knows n confirm_after calls slot.serial mine time job (is_out_at mine time (observers n confirm_after calls)) (readings_if memory readings) slot.present refl w.0 w.1
  step_knows (steps.Draws now mine found) job slot turn own w = (w.0, drawn_knows n confirm_after calls slot.serial mine found (common.free now) w.1)
  step_knows (steps.Notes now random mine found id) job slot turn own w = tt
  step_knows (steps.GivesUp now mine needs) job slot turn own w = tt
  step_knows (steps.Loses needs) job slot turn own w = tt
  step_knows (steps.Refuses refusal) job slot turn own w = tt
  step_knows other job slot turn own w = absurd own

  transition_knows : (e : Event) (job : Job) (slot : Slot) (turn : Turn) (s : Stage) → IsToldOf turn s → Knows n confirm_after calls slot.serial s → Knows n confirm_after ((transition e (at job slot ws s)).calls ++ calls) slot.serial (transition e (at job slot ws s)).stage
  transition_knows e job slot turn s =
      by_effect (λ st m. IsToldOf turn st → Knows n confirm_after calls slot.serial st → Knows n confirm_after (m.calls ++ calls) slot.serial m.stage) job slot ws
      (λ c asked. step_knows c job slot turn) (λ st own w. w) e s

-- ---- each event

newly_given : (t : ObserverList) (notify_serial old : ℕ) (b : Bool) → b ≡ true → (t.turns < (turn_given_by b notify_serial t).turns) × (cond (b && (t.turns == t.turns)) notify_serial old ≡ notify_serial)
newly_given t notify_serial old true is = (omega arith, ap (λ (b : Bool). cond b notify_serial old) (eq-eqb t.turns t.turns refl))
newly_given t notify_serial old false is = absurd (cc is)

abbrev KnowsAt : Seen → Job → Stage → Type 0
KnowsAt s j st = Knows j.origin.slot s.policy.confirm_after (s.calls j.origin.slot) (slot_at s j.origin.slot).serial st

abbrev KnowsTask : Seen → Task → Type 0
KnowsTask s t = KnowsAt s t.job t.stage

-- a request's job has no lease.
not_told : (n confirm_after serial : ℕ) (calls : List ObserverCall) (j : Job) (slot : Slot) (s : Stage) → j.turn ≡ None → FitsStage j slot s → Knows n confirm_after calls serial s
not_told n confirm_after serial calls j slot (ToTell turn needs) none fits = absurd (cc (none, fits.1))
not_told n confirm_after serial calls j slot other none fits = tt

module _ (r : Entry) (s : Seen) where
  abbrev e : Event
  e = r.event

  abbrev after : Seen
  after = and_then r s

  serial_rises : (n : ℕ) → (slot_at s n).serial ≤ (slot_at after n).serial
  serial_rises n =
      let g = grows s e (names e) n in
      let same = ap (λ (x : Slot). x.serial) (slot_grows s e (names e) n g) in
      omega (arith, same, after_rises (slot_at s n) g.made)

  -- the facts about a job still hold after the event.
  still_known : (t : Task) → KnowsTask s t → KnowsTask after t
  still_known t w =
      let n = t.job.origin.slot in
      lasts n s.policy.confirm_after (calls_named (names e) e s n) (calls_by (at_shard e) s n ++ s.calls n) (slot_at after n).serial (slot_at after n).serial t.stage (omega arith)
      (lasts n s.policy.confirm_after (calls_by (at_shard e) s n) (s.calls n) (slot_at s n).serial (slot_at after n).serial t.stage (serial_rises n) w)

  -- the calls on the observers of a job's slot after an event that names the job.
  own_calls : (k : ℕ) → names e ≡ Some k → after.calls (slot_of s k) ≡ (transition e (inputs s k)).calls ++ s.calls (slot_of s k)
  own_calls k named =
      let n = slot_of s k in
      (λ i. calls_named (named i) e s n ++ (calls_by (named_calm e k named i) s n ++ s.calls n))
      ∙ ap (λ (b : Bool). (if b then (transition e (inputs s k)).calls else []) ++ s.calls n) (eq-eqb n n refl)

  moved_by : (k : ℕ) → names e ≡ Some k → ((number : ℕ) → (job s k).turn ≡ Some number → IsToldOf (turn_of (job s k) number) (stage s k)) → (o : Option ℕ) → (job s k).turn ≡ o → FitsStage (job s k) (slot_at s (slot_of s k)) (transition e (inputs s k)).stage → KnowsAt s (job s k) (stage s k) → KnowsAt after (job s k) (transition e (inputs s k)).stage
  moved_by k named own None asks fits w = not_told (slot_of s k) s.policy.confirm_after (slot_at after (slot_of s k)).serial (after.calls (slot_of s k)) (job s k) (slot_at s (slot_of s k)) (transition e (inputs s k)).stage asks fits
  moved_by k named own (Some number) of_turn fits w =
      let n = slot_of s k in
      subst (λ (cs : List ObserverCall). Knows n s.policy.confirm_after cs (slot_at after n).serial (transition e (inputs s k)).stage) (sym (own_calls k named))
      (lasts n s.policy.confirm_after [] ((transition e (inputs s k)).calls ++ s.calls n) (slot_at s n).serial (slot_at after n).serial (transition e (inputs s k)).stage (serial_rises n)
      (transition_knows n s.policy.confirm_after (s.calls n) (common s) (s.shard_time (n % 8)) e (job s k) (slot_at s n) (turn_of (job s k) number) (stage s k) (own number of_turn) w))

  -- ---- the new lease

  asked_known : (j : Job) → j.turn ≡ None → KnowsTask after (new_task j)
  asked_known j none =
      let n = j.origin.slot in
      not_told n s.policy.confirm_after (slot_at after n).serial (after.calls n) j (slot_at after n) (first_stage j) none (first_fits j (slot_at after n))

  brought_asked : (x : Received) (o : Opening) (to : Endpoint) → Each (KnowsTask after) (map new_task (brought x o to))
  brought_asked (Opened m asked body) o to = (asked_known (job_of o to m asked body) refl, tt)
  brought_asked other o to = tt

  module _ (shard now k : ℕ) (is : e ≡ Due shard now) (due : due_in s shard (max (s.shard_time shard) now) ≡ Some k) where
    abbrev time : ℕ
    time = max (s.shard_time shard) now

    abbrev n : ℕ
    n = 8 * k + shard

    abbrev notify_serial : ℕ
    notify_serial = (slot_at s n).notify_serial

    abbrev t : ObserverList
    t = list_at_time time (watch s n)

    due_calls : after.calls n ≡ NextDue time notify_serial ∷ s.calls n
    due_calls =
        (λ i. calls_named (names (is i)) (is i) s n ++ (calls_by (at_shard (is i)) s n ++ s.calls n))
        ∙ (ap (λ (p : Option ℕ). (if is_place_of p shard n then NextDue time notify_serial ∷ [] else []) ++ s.calls n) due
        ∙ ap (λ (b : Bool). (if b then NextDue time notify_serial ∷ [] else []) ++ s.calls n) (eq-eqb n n refl))

    new_known : gives_turn notify_serial t ≡ true → Knows n s.policy.confirm_after (after.calls n) (slot_at after n).serial (ToTell (record { slot = n; number = t.turns }) turns.ToTake)
    new_known gives =
        let w = newly_given t notify_serial (noticed_for t.turns n s.policy.confirm_after (s.calls n)) (gives_turn notify_serial t) gives in
        let same = w.1 in
        let rises = serial_rises n in
        let within = noticed_from (first_slot s n) (s.changes n) (omega arith) in
        subst (λ (cs : List ObserverCall). Knows n s.policy.confirm_after cs (slot_at after n).serial (ToTell (record { slot = n; number = t.turns }) turns.ToTake)) (sym due_calls) (w.0, omega (arith, same, rises, within))

    told_of : (x : Option Interest) → gives_turn notify_serial t ≡ true → Each (KnowsTask after) (map new_task (option_to_list (option_map (turn_job n t.turns) x)) ++ [])
    told_of None gives = tt
    told_of (Some o) gives = (new_known gives, tt)

    turn_known : (b : Bool) → gives_turn notify_serial t ≡ b → Each (KnowsTask after) (map new_task (option_to_list (job_of_turn n (next_turn_by b t) (turn_given notify_serial t))) ++ [])
    turn_known true gives = told_of (option_map interest_of (entry_out (record { slot = t.slot; number = t.turns }) (turn_given notify_serial t))) gives
    turn_known false gives = tt

  due_known : (shard now : ℕ) → e ≡ Due shard now → (p : Option ℕ) → due_in s shard (max (s.shard_time shard) now) ≡ p → Each (KnowsTask after) (map new_task (option_to_list (turn_at p s shard (max (s.shard_time shard) now))) ++ [])
  due_known shard now is None due = tt
  due_known shard now is (Some k) due = turn_known shard now k is due (gives_turn (notify_serial shard now k is due) (t shard now k is due)) refl

  brought_known : (d : Event) → e ≡ d → Each (KnowsTask after) (tasks_brought d s)
  brought_known (Deliver now to bytes) is = brought_asked (received_at s now to bytes.now) (next_opening (front_at s now)) to
  brought_known (Due shard now) is = due_known shard now is (due_in s shard (max (s.shard_time shard) now)) refl
  brought_known (Fire slot now) is = (asked_known (timer_job slot) refl, tt)
  brought_known other is = tt

  module _ (a : IsSoundlySeen s) (own : (k number : ℕ) → (job s k).turn ≡ Some number → IsToldOf (turn_of (job s k) number) (stage s k)) (before : (k : ℕ) → KnowsTask s (task_at s.tasks k)) where
    moved_known : (p : Option ℕ) → names e ≡ p → (k : ℕ) → KnowsTask after (task_at (tasks_moved p e s) k)
    moved_known None named k = still_known (task_at s.tasks k) (before k)
    moved_known (Some j) named k =
        written_all (KnowsTask after) s.tasks j (task_moved (task_at s.tasks j) (transition e (inputs s j))) no_task (λ i. still_known (task_at s.tasks i) (before i))
        (moved_by j named (own j) (job s j).turn refl (transition_fits e (job s j) (slot_at s (slot_of s j)) (around s (slot_of s j)) (stage s j) (a.stages j)) (before j)) k

    all_known : (k : ℕ) → KnowsTask after (task_at after.tasks k)
    all_known k = appended_all (KnowsTask after) (tasks_moved (names e) e s) (tasks_brought e s) no_task (moved_known (names e) refl) (brought_known e refl) k

pub known : (h : History) (k : ℕ) → Knows (slot_of (seen h) k) (seen h).policy.confirm_after ((seen h).calls (slot_of (seen h) k)) (slot_at (seen h) (slot_of (seen h) k)).serial (stage (seen h) k)
unfolding seen
known (BeginsWith stored id policy) k = tt
known (Then h r) k = all_known r (seen h) (sound h) (is_told_of h) (known h) k

-- ---- a lease that is to notify

module _ (h : History) (k id : ℕ) (turn : Turn) where
  abbrev own_slot : ℕ
  own_slot = slot_of (seen h) k

  abbrev knows : Stage → Type 0
  knows st = Knows own_slot (seen h).policy.confirm_after ((seen h).calls own_slot) (slot_at (seen h) own_slot).serial st

  pub found_noticed : (t : Ticket) → stage (seen h) k ≡ ToTell turn (turns.ToNote (Some t) id) → noticed_for turn.number own_slot (seen h).policy.confirm_after ((seen h).calls own_slot) ≤ t.serial
  found_noticed t is = (subst knows is (known h k)).1

  pub none_missed : stage (seen h) k ≡ ToTell turn (turns.ToNote None id) → All (HasMissed turn.number) (watch (seen h) own_slot).held
  none_missed is = (subst knows is (known h k)).1
