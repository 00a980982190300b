-- Leases whose snapshot found the slot empty.
use Rattle.std.proofs.Common.{◌≡◌, ℕ, List, [], ◌∷◌, Bool, true, false, cond, Some, refl, ap, ◌∙◌, subst, arith}
use Rattle.std.specs.Prelude.{find, is_some, ◌==◌, ◌&&◌}
use Rattle.std.specs.List.{All}
use Rattle.std.proofs.lemmas.Bool.{and_parts}
use Rattle.std.proofs.lemmas.List.Elements.{All-head, All-tail, All-weaker}
use Rattle.fc_observe.specs.declared.entry.Entry.{Entry}
use Rattle.fc_observe.specs.declared.entry.Phase.{Phase}
use Rattle.fc_observe.specs.declared.entry.Phase.TheVariants.{TurnOut}
use Rattle.fc_observe.specs.declared.entry.Turn.{Turn}
use Rattle.fc_observe.specs.Calls.{ObserverCall, NextDue, MarkMissing, observers, observers_after}
use Rattle.fc_observe.specs.Entries.{has_missed, has_missed_in, has_turn, is_out_in, missed, missed_phase}
use Rattle.fc_observe.specs.Observers.{ObserverList, at_first, list_at_time, entry_out, gives_turn, is_missing, is_missing_by, next_turn, next_turn_by}
use Rattle.fc_observe.proofs.Keeping.{all_after}
use Rattle.fc_observe.proofs.Serials.{OutBelow, all_below, out_phase}

-- ---- a snapshot that found the slot empty

still_out : (m k : ℕ) (p : Phase) → is_out_in m k (missed_phase p) ≡ is_out_in m k p
still_out m k (TurnOut own at missing) = refl
still_out m k other = refl

now_missed : (m k : ℕ) (p : Phase) → is_out_in m k p ≡ true → has_missed_in (missed_phase p) ≡ true
now_missed m k (TurnOut own at missing) out = refl
now_missed m k other out = absurd (cc out)

missed_by : (slot m : ℕ) (turn : Turn) (o : Entry) (os : List Entry) (b : Bool) → has_turn slot m turn o ≡ b →
    (is_some (find (has_turn slot m turn) os) ≡ true → is_missing_by (find (has_turn slot m turn) (at_first (has_turn slot m turn) (λ o. missed o ∷ []) os)) ≡ true) →
    is_some (cond b (Some o) (find (has_turn slot m turn) os)) ≡ true →
    is_missing_by (find (has_turn slot m turn) (cond b (missed o ∷ os) (o ∷ at_first (has_turn slot m turn) (λ o. missed o ∷ []) os))) ≡ true
missed_by slot m turn o os true e rest out =
    let p = has_turn slot m turn in
    let parts = and_parts (turn.slot == slot) (is_out_in m turn.number o.phase) e in
    let passes : p (missed o) ≡ true = ap (λ (b : Bool). (turn.slot == slot) && b) (still_out m turn.number o.phase) ∙ e in
    ap (λ (b : Bool). is_missing_by (cond b (Some (missed o)) (find p os))) passes ∙ now_missed m turn.number o.phase parts.1
missed_by slot m turn o os false e rest out =
    let p = has_turn slot m turn in
    ap (λ (b : Bool). is_missing_by (cond b (Some o) (find p (at_first p (λ o. missed o ∷ []) os)))) e ∙ rest out

first_missed : (slot m : ℕ) (turn : Turn) (os : List Entry) → is_some (find (has_turn slot m turn) os) ≡ true → is_missing_by (find (has_turn slot m turn) (at_first (has_turn slot m turn) (λ o. missed o ∷ []) os)) ≡ true
first_missed slot m turn [] out = absurd (cc out)
first_missed slot m turn (o ∷ os) out = missed_by slot m turn o os (has_turn slot m turn o) refl (first_missed slot m turn os) out

pub missing_after : (turn : Turn) (t : ObserverList) → is_some (entry_out turn t) ≡ true → is_missing turn (observers_after (MarkMissing turn) t) ≡ true
missing_after turn t out = first_missed t.slot t.time turn t.held out

-- ---- a new lease isn't marked as missing

found_new_by : (p : Entry → Bool) (o : Entry) (os : List Entry) (b : Bool) → p o ≡ b → (p o ≡ true → has_missed o ≡ false) → is_missing_by (find p os) ≡ false → is_missing_by (cond b (Some o) (find p os)) ≡ false
found_new_by p o os true e here rest = here e
found_new_by p o os false e here rest = rest

found_new : (p : Entry → Bool) (os : List Entry) → All (λ (o : Entry). p o ≡ true → has_missed o ≡ false) os → is_missing_by (find p os) ≡ false
found_new p [] all = refl
found_new p (o ∷ os) all =
    let P = λ (o : Entry). p o ≡ true → has_missed o ≡ false in
    found_new_by p o os (p o) refl (All-head P o os all) (found_new p os (All-tail P o os all))

-- if the entry has the lease with this number, that lease isn't marked as missing
abbrev NewIn : ℕ → Entry → Type 0
NewIn n o = (at : ℕ) (missing : Bool) → o.phase ≡ TurnOut n at missing → missing ≡ false

all_new : (slot confirm_after now notify_serial : ℕ) (h : List ObserverCall) → All (NewIn (observers slot confirm_after h).turns) (observers slot confirm_after (NextDue now notify_serial ∷ h)).held
all_new slot confirm_after now notify_serial h =
    let n = (observers slot confirm_after h).turns in
    all_after (OutBelow slot confirm_after h) (NewIn n) (NextDue now notify_serial) (observers slot confirm_after h)
    (λ o below at missing out. let lt = (below n at missing out).0 in absurd (omega (arith, lt)))
    (λ o below may at missing out. cc out)
    tt (all_below slot confirm_after h)

new_found : (slot m : ℕ) (turn : Turn) (os : List Entry) → All (NewIn turn.number) os → is_missing_by (find (has_turn slot m turn) os) ≡ false
new_found slot m turn os all = found_new (has_turn slot m turn) os
    (All-weaker (NewIn turn.number) (λ (o : Entry). has_turn slot m turn o ≡ true → has_missed o ≡ false)
    (λ o new out.
    let w = and_parts (turn.slot == slot) (is_out_in m turn.number o.phase) out in
    let p = out_phase m turn.number o.phase w.1 in
    ap has_missed_in p.2 ∙ new p.0 p.1 p.2)
    os all)

number_of : (turn : Turn) (t : ObserverList) (b : Bool) → next_turn_by b t ≡ Some turn → t.turns ≡ turn.number
number_of turn t true told = cc told
number_of turn t false told = absurd (cc told)

pub new_present : (slot confirm_after now notify_serial : ℕ) (turn : Turn) (h : List ObserverCall) → next_turn notify_serial (list_at_time now (observers slot confirm_after h)) ≡ Some turn → is_missing turn (observers slot confirm_after (NextDue now notify_serial ∷ h)) ≡ false
new_present slot confirm_after now notify_serial turn h told =
    let before = list_at_time now (observers slot confirm_after h) in
    let after = observers slot confirm_after (NextDue now notify_serial ∷ h) in
    let number = number_of turn before (gives_turn notify_serial before) told in
    new_found after.slot after.time turn after.held (subst (λ (n : ℕ). All (NewIn n) after.held) number (all_new slot confirm_after now notify_serial h))
