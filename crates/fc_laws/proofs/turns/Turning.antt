-- The observer that gets a lease, the job of the lease, and the observer that loses one.
use Rattle.std.proofs.Common.{◌≡◌, ℕ, ◌+◌, ◌*◌, ◌%◌, ◌<◌, List, [], ◌∷◌, ◌++◌, map, Bool, true, false, cond, Option, Some, None, max, refl, sym, ap, ◌∙◌, arith, if◌then◌else◌}
use Rattle.std.specs.Prelude.{◌==◌, ◌&&◌, ◌||◌, find, is_some, nat_lt}
use Rattle.std.specs.List.{All, list_any}
use Rattle.std.specs.Option.{option_map, option_to_list}
use Rattle.std.proofs.lemmas.Bool.{and_from, and_parts, eq-eqb, false_from_ne_true, lt-ltb, ne_eqb}
use Rattle.std.proofs.lemmas.List.{append-nil}
use Rattle.std.proofs.lemmas.List.Elements.{All-head, All-tail, All-weaker}
use Rattle.coap_msg.specs.declared.types.Emission.{Emission}
use Rattle.fc_observe.specs.declared.entry.Entry.{Entry}
use Rattle.fc_observe.specs.declared.entry.Turn.{Turn}
use Rattle.fc_observe.specs.Calls.{NextDue, ObserverCall, observers}
use Rattle.fc_observe.specs.Entries.{has_turn, is_due, is_out_in, with_turn}
use Rattle.fc_observe.specs.Observers.{ObserverList, at_first, list_at_time, entry_out, gives_turn, next_turn, next_turn_by, turn_given, turn_given_by, turn_given_up}
use Rattle.fc_observe.specs.Views.{interest_of}
use Rattle.fc_observe.proofs.Serials.{OutBelow, all_below, out_phase}
use Rattle.fc_ticket.specs.declared.job.Job.{Job}
use Rattle.fc_registry.specs.Turns.{job_of_turn, turn_given_to, turn_job}
use Rattle.fc_registry.specs.Watches.{place_from}
use Rattle.fc_core.specs.declared.event.Event.TheVariants.{Due, Fresh, GiveUp, Lose}
use Rattle.fc_core.specs.Stage.{Stage}
use Rattle.fc_core.specs.Stage.{ToTell, Gone}
use Rattle.fc_core.specs.TurnStage.{TurnStage}
use Rattle.fc_core.specs.TurnStage as turns
use Rattle.fc_front.specs.Ids.{free_id}
use Rattle.fc_ticket.specs.Tickets.{Ticket}
use Rattle.fc_core.specs.History.{Seen, and_then, around, did, due_in, is_due_at, is_overdue_at, is_place_of, job, overdue_in, inputs, slot_at, stage, turn_at, watch}
use Rattle.fc_core.specs.Laws.{slot_of}
use Rattle.fc_laws.specs.ObserveLaws.{BringsTurn}
use Rattle.fc_core.specs.Stages.{new_task, with_id}
use Rattle.fc_core.specs.Transitions.{Inputs, transition}
use Rattle.fc_laws.proofs.jobs.Others.{is_here, named_stage}
use Rattle.fc_core.proofs.Places.{none_passes, place_first, place_passes}
use Rattle.fc_core.proofs.Watches.{called}

-- ---- the first place

first_by : (p : ℕ → Bool) (b : Bool) (k : ℕ) → (if b then place_from p 8 0 else None) ≡ Some k → (p k ≡ true) × ((j : ℕ) → j < k → p j ≡ false)
first_by p true k e = (place_passes p 8 0 k e, λ j lt. place_first p 8 0 k j e (omega arith) lt)
first_by p false k e = absurd (cc)

none_by : (p : ℕ → Bool) (i : ℕ) (b : Bool) → nat_lt i 8 ≡ b → i < 8 → (if b then place_from p 8 0 else None) ≡ None → (j : ℕ) → j < 8 → p j ≡ false
none_by p i true is low e j lt = none_passes p 8 0 j e (omega arith) lt
none_by p i false is low e j lt = absurd (cc (is, lt-ltb i 8 low))

pub due_first : (s : Seen) (i at k : ℕ) → due_in s i at ≡ Some k → (is_due_at s i at k ≡ true) × ((j : ℕ) → j < k → is_due_at s i at j ≡ false)
unfolding due_in
due_first s i at k e = first_by (is_due_at s i at) (nat_lt i 8) k e

pub due_none : (s : Seen) (i at : ℕ) → i < 8 → due_in s i at ≡ None → (j : ℕ) → j < 8 → is_due_at s i at j ≡ false
unfolding due_in
due_none s i at low e = none_by (is_due_at s i at) i (nat_lt i 8) refl low e

pub overdue_first : (s : Seen) (i at k : ℕ) → overdue_in s i at ≡ Some k → (is_overdue_at s i at k ≡ true) × ((j : ℕ) → j < k → is_overdue_at s i at j ≡ false)
unfolding overdue_in
overdue_first s i at k e = first_by (is_overdue_at s i at) (nat_lt i 8) k e

pub overdue_none : (s : Seen) (i at : ℕ) → i < 8 → overdue_in s i at ≡ None → (j : ℕ) → j < 8 → is_overdue_at s i at j ≡ false
unfolding overdue_in
overdue_none s i at low e = none_by (is_overdue_at s i at) i (nat_lt i 8) refl low e

-- ---- the lease that is granted is active

any_by : (p : Entry → Bool) (o : Entry) (os : List Entry) (b : Bool) → (list_any p os ≡ true → (x : Entry) × (find p os ≡ Some x)) → (b || list_any p os) ≡ true → (x : Entry) × (cond b (Some o) (find p os) ≡ Some x)
any_by p o os true rest e = (o, refl)
any_by p o os false rest e = rest e

any_found : (p : Entry → Bool) (os : List Entry) → list_any p os ≡ true → (x : Entry) × (find p os ≡ Some x)
any_found p [] e = absurd (cc)
any_found p (o ∷ os) e = any_by p o os (p o) (any_found p os) e

found_if : (p q : Entry → Bool) (g : Entry → Entry) (o x : Entry) (os : List Entry) (b : Bool) → q o ≡ false → ((y : Entry) → q (g y) ≡ true) → (find p os ≡ Some x → find q (at_first p (λ y. g y ∷ []) os) ≡ Some (g x)) → cond b (Some o) (find p os) ≡ Some x → find q (cond b (g o ∷ os) (o ∷ at_first p (λ y. g y ∷ []) os)) ≡ Some (g x)
found_if p q g o x os true not new rest e =
    let same : o ≡ x = cc in
    ap (λ (b : Bool). cond b (Some (g o)) (find q os)) (new o) ∙ ap (λ (y : Entry). Some (g y)) same
found_if p q g o x os false not new rest e = ap (λ (b : Bool). cond b (Some o) (find q (at_first p (λ y. g y ∷ []) os))) not ∙ rest e

-- if no element passes q, and the result for each does, q finds the result for the first element
-- that passes p.
first_found : (p q : Entry → Bool) (g : Entry → Entry) (x : Entry) (os : List Entry) → All (λ o. q o ≡ false) os → ((y : Entry) → q (g y) ≡ true) → find p os ≡ Some x → find q (at_first p (λ y. g y ∷ []) os) ≡ Some (g x)
first_found p q g x [] none new e = absurd (cc)
first_found p q g x (o ∷ os) none new e = found_if p q g o x os (p o) (All-head (λ y. q y ≡ false) o os none) new (first_found p q g x os (All-tail (λ y. q y ≡ false) o os none) new) e

module _ (n confirm_after at notify_serial : ℕ) (h : List ObserverCall) where
  abbrev w : ObserverList
  w = observers n confirm_after h

  abbrev m : ℕ
  m = max w.time at

  abbrev turn : Turn
  turn = record { slot = w.slot; number = w.turns }

  old_not_out : (o : Entry) → OutBelow n confirm_after h o → has_turn w.slot m turn o ≡ false
  old_not_out o below = false_from_ne_true (has_turn w.slot m turn o) (λ e.
      let p = out_phase m w.turns o.phase (and_parts (w.slot == w.slot) (is_out_in m w.turns o.phase) e).1 in
      let lt = (below w.turns p.0 p.1 p.2).0 in
      absurd (omega (arith, lt)))

  new_is_out : (o : Entry) → has_turn w.slot m turn (with_turn w.turns m o) ≡ true
  new_is_out o = and_from (w.slot == w.slot) ((w.turns == w.turns) && nat_lt m (m + 247000)) (eq-eqb w.slot w.slot refl) (and_from (w.turns == w.turns) (nat_lt m (m + 247000)) (eq-eqb w.turns w.turns refl) (lt-ltb m (m + 247000) (omega arith)))

  given_out : (x : Entry) → find (is_due m notify_serial) w.held ≡ Some x → entry_out turn (turn_given_by true notify_serial (list_at_time at w)) ≡ Some (with_turn w.turns m x)
  given_out x e = first_found (is_due m notify_serial) (has_turn w.slot m turn) (with_turn w.turns m) x w.held (All-weaker (OutBelow n confirm_after h) (λ o. has_turn w.slot m turn o ≡ false) old_not_out w.held (all_below n confirm_after h)) new_is_out e

  job_by : (b : Bool) (x : Entry) → b ≡ true → find (is_due m notify_serial) w.held ≡ Some x → job_of_turn n (next_turn_by b (list_at_time at w)) (turn_given_by b notify_serial (list_at_time at w)) ≡ Some (turn_job n w.turns (interest_of x))
  job_by true x gives e = ap (λ (o : Option Entry). option_map (turn_job n w.turns) (option_map interest_of o)) (given_out x e)
  job_by false x gives e = absurd (cc gives)

  gives_by : (b : Bool) → is_some (next_turn_by b (list_at_time at w)) ≡ true → b ≡ true
  gives_by true e = refl
  gives_by false e = absurd (cc e)

  -- if a lease is granted, its job is that of the first observer with a pending notification.
  given_job : is_some (next_turn notify_serial (list_at_time at w)) ≡ true → (x : Entry) × (find (is_due m notify_serial) w.held ≡ Some x) × (turn_given_to n at notify_serial w ≡ Some (turn_job n w.turns (interest_of x)))
  given_job e =
      let gives = gives_by (gives_turn notify_serial (list_at_time at w)) e in
      let any = (and_parts (nat_lt w.turns 18446744073709551615) (list_any (is_due m notify_serial) w.held) gives).1 in
      let found = any_found (is_due m notify_serial) w.held any in
      (found.0, found.1, job_by (gives_turn notify_serial (list_at_time at w)) found.0 gives found.1)

module _ (s : Seen) (i k now : ℕ) (o : Option Emission) where
  abbrev at : ℕ
  at = max (s.shard_time i) now

  abbrev place : ℕ
  place = 8 * k + i

  pub due_brings : due_in s i at ≡ Some k → BringsTurn s place at (and_then (did (Due i now) o) s)
  due_brings e =
      let given = given_job place s.policy.confirm_after at (slot_at s place).notify_serial (s.calls place) (due_first s i at k e).0 in
      let brought : turn_at (due_in s i at) s i at ≡ Some (turn_job place (watch s place).turns (interest_of given.0)) = ap (λ (p : Option ℕ). turn_at p s i at) e ∙ given.2 in
      record {
        entry = given.0;
        first = given.1;
        comes = ap (λ (j : Option Job). s.tasks ++ (map new_task (option_to_list j) ++ [])) brought;
      }

  -- the observers after a request for a lease are determined by the place of the slot with a
  -- pending notification.
  asked_by : (n : ℕ) (p q : Option ℕ) → p ≡ q → observers n s.policy.confirm_after ((if is_place_of p i n then NextDue at (slot_at s n).notify_serial ∷ [] else []) ++ s.calls n) ≡ observers n s.policy.confirm_after ((if is_place_of q i n then NextDue at (slot_at s n).notify_serial ∷ [] else []) ++ s.calls n)
  asked_by n p q is = ap (λ (x : Option ℕ). observers n s.policy.confirm_after ((if is_place_of x i n then NextDue at (slot_at s n).notify_serial ∷ [] else []) ++ s.calls n)) is

  pub due_gives : due_in s i at ≡ Some k → watch (and_then (did (Due i now) o) s) place ≡ turn_given (slot_at s place).notify_serial (list_at_time at (watch s place))
  due_gives e = asked_by place (due_in s i at) (Some k) e ∙ called s place (NextDue at (slot_at s place).notify_serial) (place == place) true (eq-eqb place place refl)

  pub due_others : (n : ℕ) → due_in s i at ≡ Some k → (n ≡ place → ⊥) → watch (and_then (did (Due i now) o) s) n ≡ watch s n
  due_others n e ne = asked_by n (due_in s i at) (Some k) e ∙ called s n (NextDue at (slot_at s n).notify_serial) (place == n) false (ne_eqb place n (λ q. ne (sym q)))

pub nobody_due : (s : Seen) (i now n : ℕ) (o : Option Emission) → due_in s i (max (s.shard_time i) now) ≡ None → watch (and_then (did (Due i now) o) s) n ≡ watch s n
nobody_due s i now n o e = asked_by s i 0 now o n (due_in s i (max (s.shard_time i) now)) None e

pub no_job_due : (s : Seen) (i now : ℕ) (o : Option Emission) → due_in s i (max (s.shard_time i) now) ≡ None → (and_then (did (Due i now) o) s).tasks ≡ s.tasks
no_job_due s i now o e =
    let at = max (s.shard_time i) now in
    ap (λ (p : Option ℕ). s.tasks ++ (map new_task (option_to_list (turn_at p s i at)) ++ [])) e ∙ append-nil s.tasks

-- ---- a lease that is released, or lost

abbrev pub at_stage : Seen → ℕ → Stage → Inputs
at_stage s k st = record { job = job s k; slot = slot_at s (slot_of s k); around = around s (slot_of s k); stage = st }

module _ (s : Seen) (k now : ℕ) (turn : Turn) (needs : TurnStage) (o : Option Emission) (is : stage s k ≡ ToTell turn needs) where
  pub given_up_here : watch (and_then (did (GiveUp k now) o) s) (slot_of s k) ≡ turn_given_up turn (list_at_time (max (s.shard_time (slot_of s k % 8)) now) (watch s (slot_of s k)))
  given_up_here =
      let n = slot_of s k in
      ap (λ (b : Bool). observers n s.policy.confirm_after ((if b then (transition (GiveUp k now) (inputs s k)).calls else []) ++ s.calls n)) (eq-eqb n n refl)
      ∙ ap (λ (st : Stage). observers n s.policy.confirm_after ((transition (GiveUp k now) (at_stage s k st)).calls ++ s.calls n)) is

  pub given_up_gone : stage (and_then (did (GiveUp k now) o) s) k ≡ Gone
  given_up_gone = named_stage (did (GiveUp k now) o) s k (is_here s k (ToTell turn needs) is (λ e. absurd (cc e))) refl
      ∙ ap (λ (st : Stage). (transition (GiveUp k now) (at_stage s k st)).stage) is

-- ---- a lease that draws a message ID

module _ (s : Seen) (k now : ℕ) (turn : Turn) (found : Option Ticket) (o : Option Emission) (is : stage s k ≡ ToTell turn (turns.ToDraw found)) where
  drew_stage : stage (and_then (did (Fresh k now) o) s) k ≡ ToTell turn (with_id found (free_id s.ids (max s.time now)))
  drew_stage = named_stage (did (Fresh k now) o) s k (is_here s k (ToTell turn (turns.ToDraw found)) is (λ e. absurd (cc e))) refl
      ∙ ap (λ (st : Stage). (transition (Fresh k now) (at_stage s k st)).stage) is

  pub drawn_stage : (id : ℕ) → free_id s.ids (max s.time now) ≡ Some id → stage (and_then (did (Fresh k now) o) s) k ≡ ToTell turn (turns.ToNote found id)
  drawn_stage id free = drew_stage ∙ ap (λ (f : Option ℕ). ToTell turn (with_id found f)) free

  pub undrawn_stage : free_id s.ids (max s.time now) ≡ None → stage (and_then (did (Fresh k now) o) s) k ≡ ToTell turn (turns.ToDraw found)
  undrawn_stage free = drew_stage ∙ ap (λ (f : Option ℕ). ToTell turn (with_id found f)) free

pub given_up_elsewhere : (s : Seen) (k now m : ℕ) (o : Option Emission) → (m ≡ slot_of s k → ⊥) → watch (and_then (did (GiveUp k now) o) s) m ≡ watch s m
given_up_elsewhere s k now m o ne = ap (λ (b : Bool). observers m s.policy.confirm_after ((if b then (transition (GiveUp k now) (inputs s k)).calls else []) ++ s.calls m)) (ne_eqb (slot_of s k) m (λ q. ne (sym q)))

none_called : (b : Bool) (n confirm_after : ℕ) (cs : List ObserverCall) → observers n confirm_after ((if b then [] else []) ++ cs) ≡ observers n confirm_after cs
none_called true n confirm_after cs = refl
none_called false n confirm_after cs = refl

pub lost_keeps : (s : Seen) (k n : ℕ) (o : Option Emission) → watch (and_then (did (Lose k) o) s) n ≡ watch s n
lost_keeps s k n o = none_called (slot_of s k == n) n s.policy.confirm_after (s.calls n)
