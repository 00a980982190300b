-- Entries with an active lease, and entries whose notification is retransmitted.
use Rattle.std.proofs.Common.{◌≡◌, ℕ, ◌+◌, ◌<◌, ◌≤◌, List, [], ◌∷◌, suc, Bool, true, false, cond, Option, Some, None, refl, sym, ap, ◌∙◌, subst, arith}
use Rattle.std.specs.Prelude.{find, max, nat_lt, ◌==◌, ◌&&◌, ◌||◌}
use Rattle.std.specs.List.{All, Any, Contains, list_any}
use Rattle.std.proofs.lemmas.Bool.{and_right, eqb-true, false_from_ne_true, ltb-true, lt-ltb}
use Rattle.std.proofs.lemmas.List.Elements.{All-cons, All-head, All-nil, All-tail}
use Rattle.arrayvec.specs.ArrayVec.{ArrayVec}
use Rattle.coap_msg.specs.declared.types.Emission.{Emission}
use Rattle.coap_msg.specs.declared.types.Endpoint.{Endpoint}
use Rattle.fc_observe.specs.declared.entry.Entry.{Entry}
use Rattle.fc_observe.specs.declared.entry.Phase.{Phase}
use Rattle.fc_observe.specs.declared.entry.Phase.TheVariants.{TurnOut, Outstanding}
use Rattle.fc_observe.specs.declared.entry.Turn.{Turn}
use Rattle.fc_observe.specs.declared.observers.Ticked.TheVariants.{Resend}
use Rattle.fc_observe.specs.Calls.{ObserverCall, Advance, Register, NextDue, MarkMissing, Notify, GiveUp, Acknowledge, Tick, after_calls, changed_by, is_registration_of, observers, observers_after}
use Rattle.fc_observe.specs.Entries.{acknowledged_phase, has_turn, is_entry_of, is_overdue, is_out_in, missed_phase, must_confirm, notified_by, retransmission, retransmitted_phase}
use Rattle.fc_observe.specs.Laws.{RegistersNone}
use Rattle.fc_observe.specs.Observers.{ObserverList, list_at_time, entry_out, gives_turn, is_out, overdue_entry, ticked, ticked_at, ticked_by, turn_given_by}
use Rattle.fc_observe.proofs.Counting.{kept_key}
use Rattle.fc_observe.proofs.Keeping.{IfRegisters, all_after, any_of}

-- ---- tests that no entry passes

fail_by : (p : Entry → Bool) (o : Entry) (os : List Entry) (b : Bool) → p o ≡ b → (list_any p os ≡ false → All (λ o. p o ≡ false) os) → (b || list_any p os) ≡ false → All (λ o. p o ≡ false) (o ∷ os)
fail_by p o os true e rest none = absurd (cc none)
fail_by p o os false e rest none = All-cons (λ o. p o ≡ false) o os e (rest none)

pub all_fail : (p : Entry → Bool) (os : List Entry) → list_any p os ≡ false → All (λ o. p o ≡ false) os
all_fail p [] none = All-nil (λ o. p o ≡ false)
all_fail p (o ∷ os) none = fail_by p o os (p o) refl (all_fail p os) none

pub none_any : (p : Entry → Bool) (os : List Entry) → All (λ o. p o ≡ false) os → list_any p os ≡ false
none_any p [] all = refl
none_any p (o ∷ os) all = λ i. All-head (λ o. p o ≡ false) o os all i || none_any p os (All-tail (λ o. p o ≡ false) o os all) i

unfound_by : (p : Entry → Bool) (o : Entry) (os : List Entry) (b : Bool) → p o ≡ b → (find p os ≡ None → All (λ o. p o ≡ false) os) → cond b (Some o) (find p os) ≡ None → All (λ o. p o ≡ false) (o ∷ os)
unfound_by p o os true e rest none = absurd (cc none)
unfound_by p o os false e rest none = All-cons (λ o. p o ≡ false) o os e (rest none)

all_unfound : (p : Entry → Bool) (os : List Entry) → find p os ≡ None → All (λ o. p o ≡ false) os
all_unfound p [] none = All-nil (λ o. p o ≡ false)
all_unfound p (o ∷ os) none = unfound_by p o os (p o) refl (all_unfound p os) none

pub none_found : (p : Entry → Bool) (os : List Entry) → All (λ o. p o ≡ false) os → find p os ≡ None
none_found p [] all = refl
none_found p (o ∷ os) all =
    ap (λ (b : Bool). cond b (Some o) (find p os)) (All-head (λ o. p o ≡ false) o os all) ∙ none_found p os (All-tail (λ o. p o ≡ false) o os all)

found_by : (p : Entry → Bool) (o x : Entry) (os : List Entry) (b : Bool) → (find p os ≡ Some x → Contains os x) → cond b (Some o) (find p os) ≡ Some x → Contains (o ∷ os) x
found_by p o x os true rest found = let same : o ≡ x = cc in (0, omega arith, same)
found_by p o x os false rest found = let there = rest found in let lt = there.1 in (suc there.0, omega (arith, lt), there.2)

-- an entry that a search finds is in the list
pub found_held : (p : Entry → Bool) (os : List Entry) (x : Entry) → find p os ≡ Some x → Contains os x
found_held p [] x found = absurd (cc found)
found_held p (o ∷ os) x found = found_by p o x os (p o) (found_held p os x) found

-- ---- no entry of an endpoint and token

unlike_new : (to : Endpoint) (token : List ℕ) (c : ObserverCall) (t : ObserverList) → is_registration_of to token c ≡ false → IfRegisters (λ o. is_entry_of to token o ≡ false) c t
unlike_new to token (Register now from own request szx serial) t not = not
unlike_new to token other t not = tt

gone_after : (to : Endpoint) (token : List ℕ) (c : ObserverCall) (t : ObserverList) → is_registration_of to token c ≡ false → All (λ o. is_entry_of to token o ≡ false) t.held → All (λ o. is_entry_of to token o ≡ false) (observers_after c t).held
gone_after to token c t not all = all_after (λ o. is_entry_of to token o ≡ false) (λ o. is_entry_of to token o ≡ false) c t (λ o here. here) (λ o here may. kept_key to token c t o ∙ here) (unlike_new to token c t not) all

all_gone : (to : Endpoint) (token : List ℕ) (h : List ObserverCall) (t : ObserverList) → RegistersNone to token h → All (λ o. is_entry_of to token o ≡ false) t.held → All (λ o. is_entry_of to token o ≡ false) (after_calls h t).held
all_gone to token [] t none all = all
all_gone to token (c ∷ h) t none all = gone_after to token c (after_calls h t) none.0 (all_gone to token h t none.1 all)

pub stays_gone : (to : Endpoint) (token : List ℕ) (h : List ObserverCall) (t : ObserverList) → RegistersNone to token h → list_any (is_entry_of to token) t.held ≡ false → list_any (is_entry_of to token) (after_calls h t).held ≡ false
stays_gone to token h t none gone = none_any (is_entry_of to token) (after_calls h t).held (all_gone to token h t none (all_fail (is_entry_of to token) t.held gone))

-- ---- a lease that is no longer active

-- the time of the list after a call
abbrev time_after : ObserverCall → ObserverList → ℕ
time_after (Advance now) t = max t.time now
time_after (Register now to token request szx serial) t = max t.time now
time_after (NextDue now notify_serial) t = max t.time now
time_after (Notify now turn id serial random bytes) t = max t.time now
time_after (GiveUp turn now) t = max t.time now
time_after (Tick now) t = max t.time now
time_after other t = t.time

-- the list after a call has the same slot, the same `confirm_after`, the time `now`, and at least
-- as many granted leases
record GoesOn (t after : ObserverList) (now : ℕ) : Type 0 where
  slot : after.slot ≡ t.slot
  confirm_after : after.confirm_after ≡ t.confirm_after
  time : after.time ≡ now
  turns : t.turns ≤ after.turns

goes_on_by : (t : ObserverList) (notify_serial : ℕ) (b : Bool) → GoesOn t (turn_given_by b notify_serial t) t.time
goes_on_by t notify_serial true = record { slot = refl; confirm_after = refl; time = refl; turns = omega arith }
goes_on_by t notify_serial false = record { slot = refl; confirm_after = refl; time = refl; turns = omega arith }

goes_on : (c : ObserverCall) (t : ObserverList) → GoesOn t (observers_after c t) (time_after c t)
goes_on (NextDue now notify_serial) t =
    let g = goes_on_by (list_at_time now t) notify_serial (gives_turn notify_serial (list_at_time now t)) in
    record { slot = g.slot; confirm_after = g.confirm_after; time = g.time; turns = g.turns }
goes_on other t = record { slot = refl; confirm_after = refl; time = refl; turns = omega arith }

-- after any calls, the list's slot is that of the new list
pub slot_is : (slot confirm_after : ℕ) (h : List ObserverCall) → (observers slot confirm_after h).slot ≡ slot
slot_is slot confirm_after [] = refl
slot_is slot confirm_after (c ∷ h) = let g = goes_on c (observers slot confirm_after h) in g.slot ∙ slot_is slot confirm_after h

-- after any calls, the list's `confirm_after` is that of the new list
pub confirm_after_is : (slot confirm_after : ℕ) (h : List ObserverCall) → (observers slot confirm_after h).confirm_after ≡ confirm_after
confirm_after_is slot confirm_after [] = refl
confirm_after_is slot confirm_after (c ∷ h) = let g = goes_on c (observers slot confirm_after h) in g.confirm_after ∙ confirm_after_is slot confirm_after h

pub time_is : (now notify_serial : ℕ) (t : ObserverList) → (observers_after (NextDue now notify_serial) t).time ≡ max t.time now
time_is now notify_serial t = let g = goes_on (NextDue now notify_serial) t in g.time

later_time : (c : ObserverCall) (t : ObserverList) → t.time ≤ time_after c t
later_time (Advance now) t = omega arith
later_time (Register now to token request szx serial) t = omega arith
later_time (NextDue now notify_serial) t = omega arith
later_time (Notify now turn id serial random bytes) t = omega arith
later_time (GiveUp turn now) t = omega arith
later_time (Tick now) t = omega arith
later_time other t = omega arith

lapsed : (m later x : ℕ) → m ≤ later → nat_lt m x ≡ false → nat_lt later x ≡ false
lapsed m later x le over = false_from_ne_true (nat_lt later x) (λ e. let lt = ltb-true later x e in let yes : nat_lt m x ≡ true = lt-ltb m x (omega (arith, lt, le)) in absurd (cc (over, yes)))

lapsed_if : (b : Bool) (m later x : ℕ) → m ≤ later → (b && nat_lt m x) ≡ false → (b && nat_lt later x) ≡ false
lapsed_if true m later x le over = lapsed m later x le over
lapsed_if false m later x le over = refl

stays_over : (m later k : ℕ) (p : Phase) → m ≤ later → is_out_in m k p ≡ false → is_out_in later k p ≡ false
stays_over m later k (TurnOut own at missing) le over = lapsed_if (own == k) m later (at + 247000) le over
stays_over m later k other le over = refl

over_if : (b : Bool) (x y : Bool) → (x ≡ false → y ≡ false) → (b && x) ≡ false → (b && y) ≡ false
over_if true x y f over = f over
over_if false x y f over = refl

-- if a phase doesn't have the active lease with a number, it doesn't have that lease after the mark
-- as missing
missed_over : (m k : ℕ) (p : Phase) → is_out_in m k p ≡ false → is_out_in m k (missed_phase p) ≡ false
missed_over m k (TurnOut own at missing) over = over
missed_over m k other over = over

acknowledged_over : (m k : ℕ) (p : Phase) → is_out_in m k p ≡ false → is_out_in m k (acknowledged_phase p) ≡ false
acknowledged_over m k (Outstanding sent_at timeout n bytes) over = refl
acknowledged_over m k other over = over

resent_over : (m now k : ℕ) (p : Phase) → is_out_in m k p ≡ false → is_out_in m k (retransmitted_phase now p) ≡ false
resent_over m now k (Outstanding sent_at timeout n bytes) over = refl
resent_over m now k other over = over

pub notified_in : (m k now id serial random : ℕ) (bytes : ArrayVec ℕ) (o : Entry) (b : Bool) → is_out_in m k (notified_by b now id serial random bytes o).phase ≡ false
notified_in m k now id serial random bytes o true = refl
notified_in m k now id serial random bytes o false = refl

another : (turns k m : ℕ) → k < turns → is_out_in m k (TurnOut turns m false) ≡ false
another turns k m lt =
    let other : (turns == k) ≡ false = false_from_ne_true (turns == k) (λ e. let same = eqb-true turns k e in absurd (omega (arith, same, lt))) in
    ap (λ (b : Bool). b && nat_lt m (m + 247000)) other

changed_over : (c : ObserverCall) (t : ObserverList) (k : ℕ) (o : Entry) → k < t.turns → is_out_in t.time k o.phase ≡ false → is_out_in (time_after c t) k (changed_by c t o).phase ≡ false
changed_over (NextDue now notify_serial) t k o lt over = another t.turns k (max t.time now) lt
changed_over (MarkMissing turn) t k o lt over = missed_over t.time k o.phase over
changed_over (Notify now turn id serial random bytes) t k o lt over = notified_in (max t.time now) k (max t.time now) id serial random bytes o (must_confirm t.confirm_after (max t.time now) o)
changed_over (GiveUp turn now) t k o lt over = refl
changed_over (Acknowledge to id) t k o lt over = acknowledged_over t.time k o.phase over
changed_over (Tick now) t k o lt over = resent_over (max t.time now) (max t.time now) k o.phase (stays_over t.time (max t.time now) k o.phase (omega arith) over)
changed_over (Advance now) t k o lt over = stays_over t.time (max t.time now) k o.phase (omega arith) over
changed_over (Register now to token request szx serial) t k o lt over = stays_over t.time (max t.time now) k o.phase (omega arith) over
changed_over other t k o lt over = over

new_over : (slot : ℕ) (turn : Turn) (c : ObserverCall) (t : ObserverList) → IfRegisters (λ o. has_turn slot (time_after c t) turn o ≡ false) c t
new_over slot turn (Register now to token request szx serial) t = and_right (turn.slot == slot) false refl
new_over slot turn other t = tt

over_after : (turn : Turn) (c : ObserverCall) (t : ObserverList) → turn.number < t.turns → entry_out turn t ≡ None → entry_out turn (observers_after c t) ≡ None
over_after turn c t lt none =
    let g = goes_on c t in
    let P = λ (o : Entry). has_turn t.slot t.time turn o ≡ false in
    let Q = λ (o : Entry). has_turn t.slot (time_after c t) turn o ≡ false in
    let all : All Q (observers_after c t).held = all_after P Q c t
    (λ o here. over_if (turn.slot == t.slot) (is_out_in t.time turn.number o.phase) (is_out_in (time_after c t) turn.number o.phase) (stays_over t.time (time_after c t) turn.number o.phase (later_time c t)) here)
    (λ o here may. over_if (turn.slot == t.slot) (is_out_in t.time turn.number o.phase) (is_out_in (time_after c t) turn.number (changed_by c t o).phase) (changed_over c t turn.number o lt) here)
    (new_over t.slot turn c t) (all_unfound (is_out turn t) t.held none) in
    none_found (is_out turn (observers_after c t)) (observers_after c t).held
    (subst (λ (m : ℕ). All (λ o. has_turn (observers_after c t).slot m turn o ≡ false) (observers_after c t).held) (sym g.time)
    (subst (λ (s : ℕ). All (λ o. has_turn s (time_after c t) turn o ≡ false) (observers_after c t).held) (sym g.slot) all))

pub more_turns : (h : List ObserverCall) (t : ObserverList) → t.turns ≤ (after_calls h t).turns
more_turns [] t = omega arith
more_turns (c ∷ h) t = let before = more_turns h t in let g = goes_on c (after_calls h t) in let after = g.turns in omega (arith, before, after)

pub stays_out : (turn : Turn) (h : List ObserverCall) (t : ObserverList) → turn.number < t.turns → entry_out turn t ≡ None → entry_out turn (after_calls h t) ≡ None
stays_out turn [] t lt none = none
stays_out turn (c ∷ h) t lt none = let more = more_turns h t in over_after turn c (after_calls h t) (omega (arith, lt, more)) (stays_out turn h t lt none)

-- ---- retransmissions

resend_is : (e : Emission) (o : Option Emission) → ticked_by o ≡ Resend e → o ≡ Some e
resend_is e None told = absurd (cc told)
resend_is e (Some own) told = let same : own ≡ e = cc in ap (λ (x : Emission). Some x) same

resend_by : (e : Emission) (t : ObserverList) (o : Option Entry) → overdue_entry t ≡ o → ticked_at o ≡ Resend e → Any (λ (o : Entry). retransmission o ≡ Some e) t.held
resend_by e t None found told = absurd (cc told)
resend_by e t (Some o) found told = any_of (λ (o : Entry). retransmission o ≡ Some e) t.held o (found_held (is_overdue t.time) t.held o found) (resend_is e (retransmission o) told)

pub resent_of_held : (t : ObserverList) (e : Emission) → ticked t ≡ Resend e → Any (λ (o : Entry). retransmission o ≡ Some e) t.held
resent_of_held t e told = resend_by e t (overdue_entry t) refl told
