-- A lease whose snapshot found the slot empty stays marked as missing while it is active.
use Rattle.std.proofs.Common.{◌≡◌, ℕ, ◌<◌, ◌≤◌, List, [], ◌∷◌, Bool, true, false, cond, Option, Some, refl, ap, ◌∙◌, arith}
use Rattle.std.specs.Prelude.{count_by, find, is_some, max, ◌==◌}
use Rattle.std.specs.List.{All}
use Rattle.std.proofs.lemmas.Bool.{and_parts, eq-eqb}
use Rattle.std.proofs.lemmas.List.Elements.{All-cons, All-head, All-nil, All-tail}
use Rattle.std.proofs.lemmas.List.Sums.{sum_by-cons}
use Rattle.fc_observe.specs.declared.entry.Entry.{Entry}
use Rattle.fc_observe.specs.declared.entry.Phase.{Phase}
use Rattle.fc_observe.specs.declared.entry.Phase.TheVariants.{TurnOut}
use Rattle.fc_observe.specs.declared.entry.Turn.{Turn}
use Rattle.fc_observe.specs.Calls.{ObserverCall, Register, NextDue, MarkMissing, Notify, GiveUp, Acknowledge, Tick, after_calls, changed_by, may_change, observers}
use Rattle.fc_observe.specs.Entries.{has_missed_in, has_turn, is_out_in, missed, missed_phase, must_confirm}
use Rattle.fc_observe.specs.Laws.{has_number, has_number_in}
use Rattle.fc_observe.specs.Observers.{ObserverList, at_first, entry_out, is_missing, is_missing_by}
use Rattle.fc_observe.proofs.Counting.{unit}
use Rattle.fc_observe.proofs.Hearing.{more_turns}
use Rattle.fc_observe.proofs.Keeping.{IfRegisters, all_after}
use Rattle.fc_observe.proofs.Serials.{acknowledged_out, notified_out, out_phase, resent_out}
use Rattle.fc_observe.proofs.Turns.{one_turn, turns_of}

-- if the entry has the lease with this number, that lease is marked as missing
abbrev pub HasMissed : ℕ → Entry → Type 0
HasMissed n o = (at : ℕ) (missing : Bool) → o.phase ≡ TurnOut n at missing → missing ≡ true

-- ---- calls after the mark

missed_true : (n at : ℕ) (missing : Bool) (p : Phase) → missed_phase p ≡ TurnOut n at missing → missing ≡ true
missed_true n at missing (TurnOut own since before) is = cc is
missed_true n at missing other is = absurd (cc is)

changed_missed : (c : ObserverCall) (t : ObserverList) (n : ℕ) (o : Entry) → n < t.turns → HasMissed n o → may_change c t o ≡ true → HasMissed n (changed_by c t o)
changed_missed (NextDue now notify_serial) t n o lt w may = λ at missing is. let number : t.turns ≡ n = cc is in absurd (omega (arith, number, lt))
changed_missed (MarkMissing turn) t n o lt w may = λ at missing is. missed_true n at missing o.phase is
changed_missed (Notify now turn id serial random bytes) t n o lt w may = λ at missing is. absurd (notified_out (max t.time now) id serial random n at missing bytes o (must_confirm t.confirm_after (max t.time now) o) is)
changed_missed (GiveUp turn now) t n o lt w may = λ at missing is. absurd (cc is)
changed_missed (Acknowledge to id) t n o lt w may = λ at missing is. w at missing (acknowledged_out n at missing o.phase is)
changed_missed (Tick now) t n o lt w may = λ at missing is. w at missing (resent_out (max t.time now) n at missing o.phase is)
changed_missed other t n o lt w may = absurd (cc may)

new_missed : (n : ℕ) (c : ObserverCall) (t : ObserverList) → IfRegisters (HasMissed n) c t
new_missed n (Register now to token request szx serial) t = λ at missing is. absurd (cc is)
new_missed n other t = tt

-- if each lease with this number is marked as missing, each still is after any calls
pub missed_last : (n : ℕ) (h : List ObserverCall) (t : ObserverList) → n < t.turns → All (HasMissed n) t.held → All (HasMissed n) (after_calls h t).held
missed_last n [] t lt all = all
missed_last n (c ∷ h) t lt all =
    let more = more_turns h t in
    let given : n < (after_calls h t).turns = omega (arith, lt, more) in
    all_after (HasMissed n) (HasMissed n) c (after_calls h t) (λ o w. w) (λ o w may. changed_missed c (after_calls h t) n o given w may) (new_missed n c (after_calls h t)) (missed_last n h t lt all)

-- ---- the snapshot that found the slot empty

numbered : (n at : ℕ) (missing : Bool) (o : Entry) → o.phase ≡ TurnOut n at missing → has_number n o ≡ true
numbered n at missing o is = ap (has_number_in n) is ∙ eq-eqb n n refl

unnumbered : (n : ℕ) (o : Entry) → unit (has_number n o) ≡ 0 → HasMissed n o
unnumbered n o none = λ at missing is. let one = ap unit (numbered n at missing o is) in absurd (omega (arith, one, none))

out_numbered : (slot m : ℕ) (turn : Turn) (o : Entry) → has_turn slot m turn o ≡ true → unit (has_number turn.number o) ≡ 1
out_numbered slot m turn o out =
    let parts = and_parts (turn.slot == slot) (is_out_in m turn.number o.phase) out in
    let p = out_phase m turn.number o.phase parts.1 in
    ap unit (numbered turn.number p.0 p.1 o p.2)

none_numbered : (n : ℕ) (os : List Entry) → count_by (has_number n) os ≡ 0 → All (HasMissed n) os
none_numbered n [] none = All-nil (HasMissed n)
none_numbered n (o ∷ os) none =
    let all = sum_by-cons (turns_of n) o os in
    All-cons (HasMissed n) o os (unnumbered n o (omega (arith, all, none))) (none_numbered n os (omega (arith, all, none)))

one_numbered_by : (slot m : ℕ) (turn : Turn) (o : Entry) (os : List Entry) (b : Bool) → has_turn slot m turn o ≡ b → (is_some (find (has_turn slot m turn) os) ≡ true → 1 ≤ count_by (has_number turn.number) os) → is_some (cond b (Some o) (find (has_turn slot m turn) os)) ≡ true → 1 ≤ count_by (has_number turn.number) (o ∷ os)
one_numbered_by slot m turn o os true e rest out = let all = sum_by-cons (turns_of turn.number) o os in let one = out_numbered slot m turn o e in omega (arith, all, one)
one_numbered_by slot m turn o os false e rest out = let all = sum_by-cons (turns_of turn.number) o os in let one = rest out in omega (arith, all, one)

one_numbered : (slot m : ℕ) (turn : Turn) (os : List Entry) → is_some (find (has_turn slot m turn) os) ≡ true → 1 ≤ count_by (has_number turn.number) os
one_numbered slot m turn [] out = absurd (cc out)
one_numbered slot m turn (o ∷ os) out = one_numbered_by slot m turn o os (has_turn slot m turn o) refl (one_numbered slot m turn os) out

-- if at most one entry has a lease with this number, and the lease is active, each lease with this
-- number is marked as missing after the call
all_missed_by : (slot m : ℕ) (turn : Turn) (o : Entry) (os : List Entry) (b : Bool) → has_turn slot m turn o ≡ b →
    count_by (has_number turn.number) (o ∷ os) ≤ 1 →
    (count_by (has_number turn.number) os ≤ 1 → is_some (find (has_turn slot m turn) os) ≡ true → All (HasMissed turn.number) (at_first (has_turn slot m turn) (λ o. missed o ∷ []) os)) →
    is_some (cond b (Some o) (find (has_turn slot m turn) os)) ≡ true →
    All (HasMissed turn.number) (cond b (missed o ∷ os) (o ∷ at_first (has_turn slot m turn) (λ o. missed o ∷ []) os))
all_missed_by slot m turn o os true e le rest out =
    let all = sum_by-cons (turns_of turn.number) o os in
    let one = out_numbered slot m turn o e in
    All-cons (HasMissed turn.number) (missed o) os (λ at missing is. missed_true turn.number at missing o.phase is) (none_numbered turn.number os (omega (arith, all, one, le)))
all_missed_by slot m turn o os false e le rest out =
    let all = sum_by-cons (turns_of turn.number) o os in
    let one = one_numbered slot m turn os out in
    All-cons (HasMissed turn.number) o (at_first (has_turn slot m turn) (λ o. missed o ∷ []) os) (unnumbered turn.number o (omega (arith, all, one, le))) (rest (omega (arith, all, le)) out)

all_missed : (slot m : ℕ) (turn : Turn) (os : List Entry) → count_by (has_number turn.number) os ≤ 1 → is_some (find (has_turn slot m turn) os) ≡ true → All (HasMissed turn.number) (at_first (has_turn slot m turn) (λ o. missed o ∷ []) os)
all_missed slot m turn [] le out = absurd (cc out)
all_missed slot m turn (o ∷ os) le out = all_missed_by slot m turn o os (has_turn slot m turn o) refl le (all_missed slot m turn os) out

pub missed_begin : (turn : Turn) (slot confirm_after : ℕ) (h : List ObserverCall) → is_some (entry_out turn (observers slot confirm_after h)) ≡ true → All (HasMissed turn.number) (observers slot confirm_after (MarkMissing turn ∷ h)).held
missed_begin turn slot confirm_after h out =
    let t = observers slot confirm_after h in
    all_missed t.slot t.time turn t.held (one_turn slot confirm_after turn.number h) out

-- ---- the result for a marked lease

missing_by : (slot m : ℕ) (turn : Turn) (o : Entry) (x : Option Entry) (b : Bool) → has_turn slot m turn o ≡ b → HasMissed turn.number o → is_missing_by x ≡ is_some x → is_missing_by (cond b (Some o) x) ≡ is_some (cond b (Some o) x)
missing_by slot m turn o x true e here rest =
    let parts = and_parts (turn.slot == slot) (is_out_in m turn.number o.phase) e in
    let p = out_phase m turn.number o.phase parts.1 in
    ap has_missed_in p.2 ∙ here p.0 p.1 p.2
missing_by slot m turn o x false e here rest = rest

missing_first : (slot m : ℕ) (turn : Turn) (os : List Entry) → All (HasMissed turn.number) os → is_missing_by (find (has_turn slot m turn) os) ≡ is_some (find (has_turn slot m turn) os)
missing_first slot m turn [] all = refl
missing_first slot m turn (o ∷ os) all = missing_by slot m turn o (find (has_turn slot m turn) os) (has_turn slot m turn o) refl (All-head (HasMissed turn.number) o os all) (missing_first slot m turn os (All-tail (HasMissed turn.number) o os all))

pub missing_where_out : (turn : Turn) (t : ObserverList) → All (HasMissed turn.number) t.held → is_missing turn t ≡ is_some (entry_out turn t)
missing_where_out turn t all = missing_first t.slot t.time turn t.held all
