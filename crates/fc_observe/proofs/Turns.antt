-- A lease belongs to one observer, and ends once.
use Rattle.std.proofs.Common.{◌≡◌, ℕ, ◌+◌, ◌<◌, ◌≤◌, List, [], ◌∷◌, ◌++◌, Bool, true, false, cond, Some, None, refl, ap, arith}
use Rattle.std.specs.Prelude.{count_by, find, max, nat_lt, sum_by, ◌==◌, ◌&&◌}
use Rattle.std.specs.List.{All}
use Rattle.std.proofs.lemmas.Bool.{and_right, eqb-true, false_from_ne_true}
use Rattle.std.proofs.lemmas.List.Elements.{All-head, All-tail}
use Rattle.std.proofs.lemmas.List.Sums.{sum_by-append, sum_by-cons, sum_by-le-sum_by}
use Rattle.arrayvec.specs.ArrayVec.{ArrayVec}
use Rattle.coap_msg.specs.declared.types.Endpoint.{Endpoint}
use Rattle.fc_observe.specs.declared.entry.Entry.{Entry}
use Rattle.fc_observe.specs.declared.entry.Phase.{Phase}
use Rattle.fc_observe.specs.declared.entry.Phase.TheVariants.{TurnOut, Outstanding}
use Rattle.fc_observe.specs.declared.entry.Turn.{Turn}
use Rattle.fc_observe.specs.declared.observers.Registered.{Registered}
use Rattle.fc_observe.specs.declared.observers.Registered.TheVariants.{Entered, Replaced, Full}
use Rattle.fc_observe.specs.Calls.{ObserverCall, Register, NextDue, MarkMissing, Notify, End, GiveUp, Acknowledge, Tick, changed_by, observers}
use Rattle.fc_observe.specs.Entries.{acknowledged_phase, given_up, has_turn, is_due, is_entry_of, is_out_in, missed_phase, must_confirm, new_entry, notified, notified_by, retransmitted_phase, with_turn}
use Rattle.fc_observe.specs.Laws.{has_number, has_number_in}
use Rattle.fc_observe.specs.Observers.{ObserverList, at_first, list_at_time, entered_by, entry_out, gives_turn, is_out, registration, turn_given_by, without_those}
use Rattle.fc_observe.proofs.Counting.{IfAdds, sum_after, sum_first, sum_left, unit}
use Rattle.fc_observe.proofs.Serials.{all_below}
use Rattle.fc_observe.proofs.Hearing.{notified_in}

-- 1 if the entry has a lease with the number, and else 0
abbrev pub turns_of : ℕ → Entry → ℕ
turns_of n o = unit (has_number n o)

-- ---- calls that grant no lease

notified_number : (n now id serial random : ℕ) (bytes : ArrayVec ℕ) (o : Entry) (b : Bool) → turns_of n (notified_by b now id serial random bytes o) ≤ turns_of n o
notified_number n now id serial random bytes o true = omega arith
notified_number n now id serial random bytes o false = omega arith

missed_number : (n : ℕ) (p : Phase) → unit (has_number_in n (missed_phase p)) ≤ unit (has_number_in n p)
missed_number n (TurnOut own at missing) = omega arith
missed_number n other = omega arith

acknowledged_number : (n : ℕ) (p : Phase) → unit (has_number_in n (acknowledged_phase p)) ≤ unit (has_number_in n p)
acknowledged_number n (Outstanding sent_at timeout k bytes) = omega arith
acknowledged_number n other = omega arith

resent_number : (n now : ℕ) (p : Phase) → unit (has_number_in n (retransmitted_phase now p)) ≤ unit (has_number_in n p)
resent_number n now (Outstanding sent_at timeout k bytes) = omega arith
resent_number n now other = omega arith

-- if the call grants no lease, no entry has a lease with number `n` only after the call
abbrev IfGivesNone : ℕ → ObserverCall → ObserverList → Type 0
IfGivesNone n (NextDue now notify_serial) t = Unit {0}
IfGivesNone n c t = (o : Entry) → turns_of n (changed_by c t o) ≤ turns_of n o

no_more_turns : (n : ℕ) (c : ObserverCall) (t : ObserverList) → IfGivesNone n c t
no_more_turns n (NextDue now notify_serial) t = tt
no_more_turns n (MarkMissing turn) t = λ o. missed_number n o.phase
no_more_turns n (Notify now turn id serial random bytes) t = λ o. notified_number n (max t.time now) id serial random bytes o (must_confirm t.confirm_after (max t.time now) o)
no_more_turns n (GiveUp turn now) t = λ o. omega arith
no_more_turns n (Acknowledge to id) t = λ o. acknowledged_number n o.phase
no_more_turns n (Tick now) t = λ o. resent_number n (max t.time now) o.phase
no_more_turns n other t = λ o. omega arith

entered_turns : (n : ℕ) (e : Registered) (to : Endpoint) (token : List ℕ) (o : Entry) (os : List Entry) → turns_of n o ≡ 0 → sum_by (turns_of n) os ≤ 1 → sum_by (turns_of n) (entered_by e to token o os) ≤ 1
entered_turns n Full to token o os none le = le
entered_turns n Entered to token o os none le = let few = sum_left (turns_of n) (is_entry_of to token) os in let joined = sum_by-append (turns_of n) (without_those (is_entry_of to token) os) (o ∷ []) in omega (arith, few, joined, none, le)
entered_turns n Replaced to token o os none le = let few = sum_left (turns_of n) (is_entry_of to token) os in let joined = sum_by-append (turns_of n) (without_those (is_entry_of to token) os) (o ∷ []) in omega (arith, few, joined, none, le)

turns_added : (n : ℕ) (c : ObserverCall) (t : ObserverList) → sum_by (turns_of n) t.held ≤ 1 → IfAdds (turns_of n) c t 1
turns_added n (Register now to token request szx serial) t le = entered_turns n (registration to token.items (list_at_time now t)) to token.items (new_entry (max t.time now) to token request szx serial) t.held refl le
turns_added n other t le = tt

-- ---- the call that grants a lease

zero_sum : (m : Entry → ℕ) (os : List Entry) → All (λ o. m o ≡ 0) os → sum_by m os ≡ 0
zero_sum m [] all = refl
zero_sum m (o ∷ os) all =
    let joined = sum_by-cons m o os in
    let this = All-head (λ o. m o ≡ 0) o os all in
    let rest = zero_sum m os (All-tail (λ o. m o ≡ 0) o os all) in
    omega (arith, joined, this, rest)

one_more_by : (m : Entry → ℕ) (p : Entry → Bool) (g : Entry → List Entry) (o : Entry) (os : List Entry) (b : Bool) → sum_by m (g o) ≤ 1 → sum_by m (at_first p g os) ≤ sum_by m os + 1 → sum_by m (cond b (g o ++ os) (o ∷ at_first p g os)) ≤ sum_by m (o ∷ os) + 1
one_more_by m p g o os true here rest = let joined = sum_by-append m (g o) os in let all = sum_by-cons m o os in omega (arith, joined, all, here)
one_more_by m p g o os false here rest = let joined = sum_by-cons m o (at_first p g os) in let all = sum_by-cons m o os in omega (arith, joined, all, rest)

one_more : (m : Entry → ℕ) (p : Entry → Bool) (g : Entry → List Entry) → ((o : Entry) → sum_by m (g o) ≤ 1) → (os : List Entry) → sum_by m (at_first p g os) ≤ sum_by m os + 1
one_more m p g here [] = omega arith
one_more m p g here (o ∷ os) = one_more_by m p g o os (p o) (here o) (one_more m p g here os)

unit_least : (b : Bool) → unit b ≤ 1
unit_least true = omega arith
unit_least false = omega arith

given_number : (n : ℕ) (t : ObserverList) (notify_serial : ℕ) (b same : Bool) → (t.turns == n) ≡ same → (same ≡ true → sum_by (turns_of n) t.held ≡ 0) → sum_by (turns_of n) t.held ≤ 1 → sum_by (turns_of n) (turn_given_by b notify_serial t).held ≤ 1
given_number n t notify_serial false same e none le = le
given_number n t notify_serial true true e none le =
    let before = none refl in
    let after = one_more (turns_of n) (is_due t.time notify_serial) (λ o. with_turn t.turns t.time o ∷ []) (λ o. let l = unit_least (t.turns == n) in omega (arith, l)) t.held in
    omega (arith, before, after)
given_number n t notify_serial true false e none le =
    let other : unit (t.turns == n) ≡ 0 = ap unit e in
    let after = sum_first (turns_of n) (is_due t.time notify_serial) (λ o. with_turn t.turns t.time o ∷ []) (λ o. omega (arith, other)) t.held in
    omega (arith, after, le)

number_below : (n turns : ℕ) (p : Phase) → ((k at : ℕ) (missing : Bool) → p ≡ TurnOut k at missing → k < turns) → turns ≡ n → unit (has_number_in n p) ≡ 0
number_below n turns (TurnOut own at missing) below same =
    let lt = below own at missing refl in
    ap unit (false_from_ne_true (own == n) (λ e. let is = eqb-true own n e in absurd (omega (arith, is, lt, same))))
number_below n turns other below same = refl

one_after : (n slot confirm_after : ℕ) (h : List ObserverCall) (c : ObserverCall) → count_by (has_number n) (observers slot confirm_after h).held ≤ 1 → count_by (has_number n) (observers slot confirm_after (c ∷ h)).held ≤ 1
one_after n slot confirm_after h (NextDue now notify_serial) le =
    let t = list_at_time now (observers slot confirm_after h) in
    given_number n t notify_serial (gives_turn notify_serial t) (t.turns == n) refl
    (λ e. zero_sum (turns_of n) t.held (λ k d lt. number_below n t.turns _ (λ m at missing out. (all_below slot confirm_after h k d lt m at missing out).0) (eqb-true t.turns n e))) le
one_after n slot confirm_after h other le = sum_after (turns_of n) other (observers slot confirm_after h) 1 (no_more_turns n other (observers slot confirm_after h)) (turns_added n other (observers slot confirm_after h) le) le

pub one_turn : (slot confirm_after number : ℕ) (h : List ObserverCall) → count_by (has_number number) (observers slot confirm_after h).held ≤ 1
one_turn slot confirm_after number [] = omega arith
one_turn slot confirm_after number (c ∷ h) = one_after number slot confirm_after h c (one_turn slot confirm_after number h)

-- ---- a lease that ends

first_gone_by : (p : Entry → Bool) (g : Entry → List Entry) (o : Entry) (os : List Entry) (b : Bool) → p o ≡ b → count_by p (g o) ≡ 0 → (count_by p os ≤ 1 → count_by p (at_first p g os) ≡ 0) → count_by p (o ∷ os) ≤ 1 → count_by p (cond b (g o ++ os) (o ∷ at_first p g os)) ≡ 0
first_gone_by p g o os true e none rest le =
    let joined = sum_by-append (λ (x : Entry). unit (p x)) (g o) os in
    let all = sum_by-cons (λ (x : Entry). unit (p x)) o os in
    let this = ap unit e in
    omega (arith, joined, all, this, none, le)
first_gone_by p g o os false e none rest le =
    let joined = sum_by-cons (λ (x : Entry). unit (p x)) o (at_first p g os) in
    let all = sum_by-cons (λ (x : Entry). unit (p x)) o os in
    let this = ap unit e in
    let few : count_by p os ≤ 1 = omega (arith, all, le) in
    let gone = rest few in
    omega (arith, joined, this, gone)

first_gone : (p : Entry → Bool) (g : Entry → List Entry) → ((o : Entry) → count_by p (g o) ≡ 0) → (os : List Entry) → count_by p os ≤ 1 → count_by p (at_first p g os) ≡ 0
first_gone p g none [] le = refl
first_gone p g none (o ∷ os) le = first_gone_by p g o os (p o) refl (none o) (first_gone p g none os) le

unfound_by : (p : Entry → Bool) (o : Entry) (os : List Entry) (b : Bool) → p o ≡ b → (count_by p os ≡ 0 → find p os ≡ None) → count_by p (o ∷ os) ≡ 0 → cond b (Some o) (find p os) ≡ None
unfound_by p o os true e rest none = let all = sum_by-cons (λ (x : Entry). unit (p x)) o os in let this = ap unit e in absurd (omega (arith, all, this, none))
unfound_by p o os false e rest none = let all = sum_by-cons (λ (x : Entry). unit (p x)) o os in rest (omega (arith, all, none))

unfound : (p : Entry → Bool) (os : List Entry) → count_by p os ≡ 0 → find p os ≡ None
unfound p [] none = refl
unfound p (o ∷ os) none = unfound_by p o os (p o) refl (unfound p os) none

-- if a phase has the active lease with a number, the phase has that number
out_numbered : (m k : ℕ) (p : Phase) (b : Bool) → unit (b && is_out_in m k p) ≤ unit (has_number_in k p)
out_numbered m k p false = omega arith
out_numbered m k (TurnOut own at missing) true = both (own == k)
  where
    both : (b : Bool) → unit (b && nat_lt m (at + 247000)) ≤ unit b
    both true = unit_least (nat_lt m (at + 247000))
    both false = omega arith
out_numbered m k other true = omega arith

one_out : (turn : Turn) (slot m : ℕ) (os : List Entry) → count_by (has_number turn.number) os ≤ 1 → count_by (has_turn slot m turn) os ≤ 1
one_out turn slot m os le = let fewer = sum_by-le-sum_by (λ (o : Entry). unit (has_turn slot m turn o)) (turns_of turn.number) os (λ o. out_numbered m turn.number o.phase (turn.slot == slot)) in omega (arith, fewer, le)

pub notified_over : (slot confirm_after now id serial random : ℕ) (turn : Turn) (bytes : ArrayVec ℕ) (h : List ObserverCall) → entry_out turn (observers slot confirm_after (Notify now turn id serial random bytes ∷ h)) ≡ None
notified_over slot confirm_after now id serial random turn bytes h =
    let t = list_at_time now (observers slot confirm_after h) in
    unfound (is_out turn t) (observers slot confirm_after (Notify now turn id serial random bytes ∷ h)).held
    (first_gone (is_out turn t) (λ o. notified t.confirm_after t.time id serial random bytes o ∷ [])
    (λ o. let out = ap unit (and_right (turn.slot == t.slot) (is_out_in t.time turn.number (notified t.confirm_after t.time id serial random bytes o).phase) (notified_in t.time turn.number t.time id serial random bytes o (must_confirm t.confirm_after t.time o))) in omega (arith, out))
    t.held (one_out turn t.slot t.time t.held (one_turn slot confirm_after turn.number h)))

pub ended_over : (slot confirm_after : ℕ) (turn : Turn) (h : List ObserverCall) → entry_out turn (observers slot confirm_after (End turn ∷ h)) ≡ None
ended_over slot confirm_after turn h =
    let t = observers slot confirm_after h in
    unfound (is_out turn t) (observers slot confirm_after (End turn ∷ h)).held
    (first_gone (is_out turn t) (λ o. []) (λ o. refl) t.held (one_out turn t.slot t.time t.held (one_turn slot confirm_after turn.number h)))

pub given_up_over : (slot confirm_after now : ℕ) (turn : Turn) (h : List ObserverCall) → entry_out turn (observers slot confirm_after (GiveUp turn now ∷ h)) ≡ None
given_up_over slot confirm_after now turn h =
    let t = list_at_time now (observers slot confirm_after h) in
    unfound (is_out turn t) (observers slot confirm_after (GiveUp turn now ∷ h)).held
    (first_gone (is_out turn t) (λ o. given_up t.time o ∷ [])
    (λ o. let out = ap unit (and_right (turn.slot == t.slot) false refl) in omega (arith, out))
    t.held (one_out turn t.slot t.time t.held (one_turn slot confirm_after turn.number h)))
