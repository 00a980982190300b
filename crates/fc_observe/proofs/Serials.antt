-- The last revisions sent to observers, and the revisions `notify_serial` for which the observers'
-- leases were granted.
use Rattle.std.proofs.Common.{◌≡◌, ℕ, ◌+◌, ◌<◌, ◌≤◌, List, [], ◌∷◌, Bool, true, false, cond, refl, sym, ap, subst, inl, inr, arith}
use Rattle.std.specs.Prelude.{max, nat_lt, ◌==◌, ◌&&◌, ◌⊎◌}
use Rattle.std.specs.List.{All, Any}
use Rattle.std.proofs.lemmas.Bool.{and_parts, eqb-true, eq-eqb, false_from_ne_true, ltb-true}
use Rattle.std.proofs.lemmas.List.Elements.{All-nil, All-weaker}
use Rattle.arrayvec.specs.ArrayVec.{ArrayVec}
use Rattle.fc_observe.specs.declared.entry.Entry.{Entry}
use Rattle.fc_observe.specs.declared.entry.Phase.{Phase}
use Rattle.fc_observe.specs.declared.entry.Phase.TheVariants.{TurnOut, Outstanding}
use Rattle.fc_observe.specs.declared.entry.Turn.{Turn}
use Rattle.fc_observe.specs.Calls.{ComesFrom, IsRegisteredBy, ObserverCall, Register, NextDue, MarkMissing, Notify, GiveUp, Acknowledge, Tick, changed_by, may_change, observers, observers_after}
use Rattle.fc_observe.specs.Entries.{acknowledged_phase, is_due, is_free, is_out_in, missed_phase, must_confirm, notified_by, retransmitted_phase}
use Rattle.fc_observe.specs.Laws.{HandsInUpTo, KeepsSerial, noticed_for}
use Rattle.fc_observe.specs.Observers.{ObserverList, list_at_time, gives_turn, is_out, turn_given_by}
use Rattle.fc_observe.specs.Views.{interest_of}
use Rattle.fc_observe.proofs.Keeping.{IfRegisters, all_after, come_from}

-- lease `n` was granted, and the last revision sent to its observer, `serial`, is below the
-- revision `notify_serial` for which the lease was granted
abbrev pub IsGivenFor : ℕ → ℕ → ℕ → ℕ → Type 0
IsGivenFor turns notify_serial n serial = (n < turns) × (serial < notify_serial)

abbrev pub OutBelow : ℕ → ℕ → List ObserverCall → Entry → Type 0
OutBelow slot confirm_after h o = (n at : ℕ) (missing : Bool) → o.phase ≡ TurnOut n at missing → IsGivenFor (observers slot confirm_after h).turns (noticed_for n slot confirm_after h) n o.serial

-- what `IsGivenFor` says of an older lease still holds after a call that may grant a further lease
older_by : (t : ObserverList) (notify_serial n old serial : ℕ) (b : Bool) → n < t.turns → serial < old → IsGivenFor (turn_given_by b notify_serial t).turns (cond (b && (t.turns == n)) notify_serial old) n serial
older_by t notify_serial n old serial true lt below =
    let other : (t.turns == n) ≡ false = false_from_ne_true (t.turns == n) (λ e. let same = eqb-true t.turns n e in absurd (omega (arith, same, lt))) in
    (omega (arith, lt), subst (λ (b : Bool). serial < cond b notify_serial old) (sym other) below)
older_by t notify_serial n old serial false lt below = (lt, below)

stays_below : (slot confirm_after : ℕ) (h : List ObserverCall) (c : ObserverCall) (o : Entry) → OutBelow slot confirm_after h o → OutBelow slot confirm_after (c ∷ h) o
stays_below slot confirm_after h (NextDue now notify_serial) o below = λ n at missing out.
    let w = below n at missing out in
    older_by (list_at_time now (observers slot confirm_after h)) notify_serial n (noticed_for n slot confirm_after h) o.serial (gives_turn notify_serial (list_at_time now (observers slot confirm_after h))) w.0 w.1
stays_below slot confirm_after h other o below = below

-- what `IsGivenFor` says holds for a new lease
newest : (t : ObserverList) (notify_serial old serial : ℕ) (b : Bool) → b ≡ true → serial < notify_serial → IsGivenFor (turn_given_by b notify_serial t).turns (cond (b && (t.turns == t.turns)) notify_serial old) t.turns serial
newest t notify_serial old serial true e below =
    let same : (t.turns == t.turns) ≡ true = eq-eqb t.turns t.turns refl in
    (omega arith, subst (λ (b : Bool). serial < cond b notify_serial old) (sym same) below)
newest t notify_serial old serial false e below = absurd (cc e)

-- a phase that has a lease after the mark as missing had the same lease before
missed_out : (n at : ℕ) (missing : Bool) (p : Phase) → missed_phase p ≡ TurnOut n at missing → (before : Bool) × (p ≡ TurnOut n at before)
missed_out n at missing (TurnOut own given before) out = let number : own ≡ n = cc out in let since : given ≡ at = cc out in (before, λ i. TurnOut (number i) (since i) before)
missed_out n at missing other out = (missing, out)

pub acknowledged_out : (n at : ℕ) (missing : Bool) (p : Phase) → acknowledged_phase p ≡ TurnOut n at missing → p ≡ TurnOut n at missing
acknowledged_out n at missing (Outstanding sent_at timeout k bytes) out = absurd (cc out)
acknowledged_out n at missing other out = out

pub resent_out : (now n at : ℕ) (missing : Bool) (p : Phase) → retransmitted_phase now p ≡ TurnOut n at missing → p ≡ TurnOut n at missing
resent_out now n at missing (Outstanding sent_at timeout k bytes) out = absurd (cc out)
resent_out now n at missing other out = out

pub notified_out : (now id serial random n at : ℕ) (missing : Bool) (bytes : ArrayVec ℕ) (o : Entry) (b : Bool) → (notified_by b now id serial random bytes o).phase ≡ TurnOut n at missing → ⊥
notified_out now id serial random n at missing bytes o true out = cc out
notified_out now id serial random n at missing bytes o false out = cc out

changed_below : (slot confirm_after : ℕ) (h : List ObserverCall) (c : ObserverCall) (o : Entry) → OutBelow slot confirm_after h o → may_change c (observers slot confirm_after h) o ≡ true → OutBelow slot confirm_after (c ∷ h) (changed_by c (observers slot confirm_after h) o)
changed_below slot confirm_after h (NextDue now notify_serial) o below may = λ n at missing out.
    let t = list_at_time now (observers slot confirm_after h) in
    let w = and_parts (gives_turn notify_serial t) (is_due t.time notify_serial o) may in
    let due = and_parts (nat_lt o.serial notify_serial) (is_free t.time o.phase) w.1 in
    let lt = ltb-true o.serial notify_serial due.0 in
    let number : t.turns ≡ n = cc out in
    subst (λ (k : ℕ). IsGivenFor (turn_given_by (gives_turn notify_serial t) notify_serial t).turns (cond (gives_turn notify_serial t && (t.turns == k)) notify_serial (noticed_for k slot confirm_after h)) k o.serial) number
    (newest t notify_serial (noticed_for t.turns slot confirm_after h) o.serial (gives_turn notify_serial t) w.0 lt)
changed_below slot confirm_after h (MarkMissing turn) o below may = λ n at missing out. let w = missed_out n at missing o.phase out in below n at w.0 w.1
changed_below slot confirm_after h (Notify now turn id serial random bytes) o below may = λ n at missing out. absurd (notified_out (max (observers slot confirm_after h).time now) id serial random n at missing bytes o (must_confirm (observers slot confirm_after h).confirm_after (max (observers slot confirm_after h).time now) o) out)
changed_below slot confirm_after h (GiveUp turn now) o below may = λ n at missing out. absurd (cc out)
changed_below slot confirm_after h (Acknowledge to id) o below may = λ n at missing out. below n at missing (acknowledged_out n at missing o.phase out)
changed_below slot confirm_after h (Tick now) o below may = λ n at missing out. below n at missing (resent_out (max (observers slot confirm_after h).time now) n at missing o.phase out)
changed_below slot confirm_after h other o below may = absurd (cc may)

new_below : (slot confirm_after : ℕ) (h : List ObserverCall) (c : ObserverCall) → IfRegisters (OutBelow slot confirm_after (c ∷ h)) c (observers slot confirm_after h)
new_below slot confirm_after h (Register now to token request szx serial) = λ n at missing out. absurd (cc out)
new_below slot confirm_after h other = tt

pub all_below : (slot confirm_after : ℕ) (h : List ObserverCall) → All (OutBelow slot confirm_after h) (observers slot confirm_after h).held
all_below slot confirm_after [] = All-nil (OutBelow slot confirm_after [])
all_below slot confirm_after (c ∷ h) = all_after (OutBelow slot confirm_after h) (OutBelow slot confirm_after (c ∷ h)) c (observers slot confirm_after h) (stays_below slot confirm_after h c) (changed_below slot confirm_after h c) (new_below slot confirm_after h c) (all_below slot confirm_after h)

out_phase_by : (m k own at : ℕ) (b : Bool) → (own == k) ≡ b → (b && nat_lt m (at + 247000)) ≡ true → own ≡ k
out_phase_by m k own at true e out = eqb-true own k e
out_phase_by m k own at false e out = absurd (cc out)

-- if a phase has the active lease with a number, the phase is that lease
pub out_phase : (m k : ℕ) (p : Phase) → is_out_in m k p ≡ true → (at : ℕ) × (missing : Bool) × (p ≡ TurnOut k at missing)
out_phase m k (TurnOut own at missing) out = (at, missing, ap (λ (n : ℕ). TurnOut n at missing) (out_phase_by m k own at (own == k) refl out))
out_phase m k other out = absurd (cc out)

pub sent_above : (slot confirm_after now : ℕ) (turn : Turn) (serial : ℕ) (h : List ObserverCall) → noticed_for turn.number slot confirm_after h ≤ serial → All (λ (o : Entry). is_out turn (list_at_time now (observers slot confirm_after h)) o ≡ true → o.serial < serial) (observers slot confirm_after h).held
sent_above slot confirm_after now turn serial h le =
    let t = list_at_time now (observers slot confirm_after h) in
    All-weaker (OutBelow slot confirm_after h) (λ (o : Entry). is_out turn t o ≡ true → o.serial < serial)
    (λ o below out.
    let w = and_parts (turn.slot == t.slot) (is_out_in t.time turn.number o.phase) out in
    let p = out_phase t.time turn.number o.phase w.1 in
    let lt = (below turn.number p.0 p.1 p.2).1 in
    omega (arith, lt, le))
    (observers slot confirm_after h).held (all_below slot confirm_after h)

-- ---- the effect of a call on the last sent revision

pub notified_keeps : (now id serial random : ℕ) (bytes : ArrayVec ℕ) (o : Entry) (b : Bool) → (interest_of (notified_by b now id serial random bytes o) ≡ interest_of o) × ((notified_by b now id serial random bytes o).serial ≡ serial)
notified_keeps now id serial random bytes o true = (refl, refl)
notified_keeps now id serial random bytes o false = (refl, refl)

changed_keeps : (c : ObserverCall) (t : ObserverList) (o : Entry) → may_change c t o ≡ true → KeepsSerial c t (changed_by c t o) o
changed_keeps (Notify now turn id serial random bytes) t o may =
    let w = notified_keeps (max t.time now) id serial random bytes o (must_confirm t.confirm_after (max t.time now) o) in
    (w.0, inr (may, w.1))
changed_keeps other t o may = (refl, inl refl)

keeps_by : (c : ObserverCall) (t : ObserverList) (o before : Entry) → (o ≡ before) ⊎ ((may_change c t before ≡ true) × (o ≡ changed_by c t before)) → KeepsSerial c t o before
keeps_by c t o before (inl same) = (ap interest_of same, inl (ap (λ (x : Entry). x.serial) same))
keeps_by c t o before (inr w) = subst (λ (x : Entry). KeepsSerial c t x before) (sym w.1) (changed_keeps c t before w.0)

keeps : (c : ObserverCall) (t : ObserverList) (o : Entry) → ComesFrom c t o → IsRegisteredBy c t o ⊎ Any (KeepsSerial c t o) t.held
keeps c t o (inl new) = inl new
keeps c t o (inr w) = inr (w.0, w.1, w.2, w.3, keeps_by c t o w.1 w.4)

pub serials_kept : (c : ObserverCall) (t : ObserverList) → All (λ (o : Entry). IsRegisteredBy c t o ⊎ Any (KeepsSerial c t o) t.held) (observers_after c t).held
serials_kept c t = All-weaker (ComesFrom c t) (λ (o : Entry). IsRegisteredBy c t o ⊎ Any (KeepsSerial c t o) t.held) (keeps c t) (observers_after c t).held (come_from c t)

-- ---- revisions stay below a bound

registered_below : (n : ℕ) (c : ObserverCall) (t : ObserverList) → HandsInUpTo n c → IfRegisters (λ (o : Entry). o.serial ≤ n) c t
registered_below n (Register now to token request szx serial) t le = le
registered_below n other t le = tt

notified_serial : (n now id serial random : ℕ) (bytes : ArrayVec ℕ) (o : Entry) (b : Bool) → serial ≤ n → (notified_by b now id serial random bytes o).serial ≤ n
notified_serial n now id serial random bytes o true le = le
notified_serial n now id serial random bytes o false le = le

changed_serial : (n : ℕ) (c : ObserverCall) (t : ObserverList) (o : Entry) → HandsInUpTo n c → o.serial ≤ n → (changed_by c t o).serial ≤ n
changed_serial n (Notify now turn id serial random bytes) t o le below = notified_serial n (max t.time now) id serial random bytes o (must_confirm t.confirm_after (max t.time now) o) le
changed_serial n other t o le below = below

pub serials_below : (n : ℕ) (c : ObserverCall) (t : ObserverList) → HandsInUpTo n c → All (λ (o : Entry). o.serial ≤ n) t.held → All (λ (o : Entry). o.serial ≤ n) (observers_after c t).held
serials_below n c t le all = all_after (λ (o : Entry). o.serial ≤ n) (λ (o : Entry). o.serial ≤ n) c t (λ o below. below) (λ o below may. changed_serial n c t o le below) (registered_below n c t le) all
