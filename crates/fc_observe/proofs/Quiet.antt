-- The time until which a list of observers is idle.
use Rattle.std.proofs.Common.{◌≡◌, ℕ, ◌<◌, ◌≤◌, List, [], ◌∷◌, ◌++◌, Bool, true, false, None, refl, sym, ap, ◌∙◌, arith}
use Rattle.std.specs.Prelude.{is_none, max, nat_lt, not, ◌&&◌}
use Rattle.std.specs.List.{All, list_any}
use Rattle.std.proofs.lemmas.Bool.{and_right, ltb-true, lt-ltb}
use Rattle.std.proofs.lemmas.List.Elements.{All-append, All-cons, All-filter, All-nil, All-weaker}
use Rattle.fc_observe.specs.declared.entry.Entry.{Entry}
use Rattle.fc_observe.specs.Entries.{changed_if, is_due, is_free, is_overdue}
use Rattle.fc_observe.specs.Observers.{ObserverList, at_each, list_at_time, overdue_entry, next_turn, next_turn_by, without_those}
use Rattle.fc_observe.specs.Quiet.{AreIdleUntil, IsIdle, IsIdleUntil}
use Rattle.fc_observe.proofs.First.{or_false}
use Rattle.fc_observe.proofs.Hearing.{none_any, none_found}

-- entries are idle until time 0, since no time is before 0
pub never : (notify_serial : ℕ) (held : List Entry) → AreIdleUntil 0 notify_serial held
never notify_serial [] = All-nil (IsIdleUntil 0 notify_serial)
never notify_serial (o ∷ os) = All-cons (IsIdleUntil 0 notify_serial) o os (λ now lt. absurd (omega (arith, lt))) (never notify_serial os)

-- if entries are idle until a time, the list without some of them is too
pub idle_without : (until notify_serial : ℕ) (p : Entry → Bool) (held : List Entry) → AreIdleUntil until notify_serial held →
    AreIdleUntil until notify_serial (without_those p held)
idle_without until notify_serial p held idle = All-filter (λ (o : Entry). not (p o)) (IsIdleUntil until notify_serial) held idle

-- if an entry is idle until a time, it is idle until an earlier time
pub idle_before : (early overdue notify_serial : ℕ) (o : Entry) → early ≤ overdue → IsIdleUntil overdue notify_serial o → IsIdleUntil early notify_serial o
idle_before early overdue notify_serial o le idle now lt = idle now (omega (arith, lt, le))

-- if entries are idle until one time and a further entry until another, all are until the earlier
-- one
pub idle_more : (early overdue until notify_serial : ℕ) (os : List Entry) (o : Entry) → until ≤ early → until ≤ overdue → AreIdleUntil early notify_serial os →
    IsIdleUntil overdue notify_serial o → AreIdleUntil until notify_serial (os ++ o ∷ [])
idle_more early overdue until notify_serial os o first second idle next =
    All-append (IsIdleUntil until notify_serial) os (o ∷ []) (All-weaker (IsIdleUntil early notify_serial) (IsIdleUntil until notify_serial)
    (λ x. idle_before until early notify_serial x first) os idle)
    (All-cons (IsIdleUntil until notify_serial) o [] (idle_before until overdue notify_serial o second next) (All-nil (IsIdleUntil until notify_serial)))

-- if no notification is pending about a revision, none is pending about a lower revision
fewer_due : (now less notify_serial : ℕ) (o : Entry) (b : Bool) → less ≤ notify_serial → nat_lt o.serial less ≡ b →
    (nat_lt o.serial notify_serial && is_free now o.phase) ≡ false → (b && is_free now o.phase) ≡ false
fewer_due now less notify_serial o false le e none = refl
fewer_due now less notify_serial o true le e none =
    let low = ltb-true o.serial less e in
    let lt : o.serial < notify_serial = omega (arith, low, le) in
    ap (λ (b : Bool). b && is_free now o.phase) (sym (lt-ltb o.serial notify_serial lt)) ∙ none

-- if entries are idle until `until`, for a revision, they are idle at each earlier time for each
-- lower revision
pub at_rest : (until notify_serial now less : ℕ) (held : List Entry) → now < until → less ≤ notify_serial → AreIdleUntil until notify_serial held → All (IsIdle now less) held
at_rest until notify_serial now less held lt le idle =
    All-weaker (IsIdleUntil until notify_serial) (IsIdle now less)
    (λ o q. let here = q now lt in (here.0, fewer_due now less notify_serial o (nat_lt o.serial less) le refl here.1)) held idle

-- if all entries are idle, no notification has timed out
pub none_overdue : (now notify_serial : ℕ) (t : ObserverList) → All (IsIdle (max t.time now) notify_serial) t.held → overdue_entry (list_at_time now t) ≡ None
none_overdue now notify_serial t idle =
    none_found (is_overdue (max t.time now)) t.held (All-weaker (IsIdle (max t.time now) notify_serial) (λ (o : Entry). is_overdue (max t.time now) o ≡ false)
    (λ o q. q.0) t.held idle)

pub none_due : (now notify_serial : ℕ) (t : ObserverList) → All (IsIdle (max t.time now) notify_serial) t.held → next_turn notify_serial (list_at_time now t) ≡ None
none_due now notify_serial t idle =
    let due = is_due (max t.time now) notify_serial in
    let none : list_any due t.held ≡ false = none_any due t.held (All-weaker (IsIdle (max t.time now) notify_serial) (λ (o : Entry). due o ≡ false)
    (λ o q. q.1) t.held idle) in
    ap (λ (b : Bool). next_turn_by b (list_at_time now t)) (and_right (nat_lt t.turns 18446744073709551615) (list_any due t.held) none)

pub is_idle : (now notify_serial : ℕ) (t : ObserverList) → All (IsIdle (max t.time now) notify_serial) t.held →
    (is_none (overdue_entry (list_at_time now t)) && is_none (next_turn notify_serial (list_at_time now t))) ≡ true
is_idle now notify_serial t idle = λ i. is_none (none_overdue now notify_serial t idle i) && is_none (none_due now notify_serial t idle i)

-- if no entry passes the test, no entry is changed
pub none_each : (p : Entry → Bool) (f : Entry → Entry) (held : List Entry) → list_any p held ≡ false → at_each p f held ≡ held
none_each p f [] none = refl
none_each p f (o ∷ os) none =
    let parts = or_false (p o) (list_any p os) none in
    (λ i. changed_if (parts.0 i) f o ∷ none_each p f os parts.1 i)
