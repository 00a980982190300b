-- The condition for a pending notification of an observer.
use Rattle.std.proofs.Common.{◌≡◌, ◌↔◌, ℕ, ◌+◌, ◌<◌, ◌≤◌, true, refl, arith}
use Rattle.std.specs.Prelude.{nat_lt, ◌&&◌}
use Rattle.std.proofs.lemmas.Bool.{and_parts, ltb-true, lt-ltb}
use Rattle.fc_observe.specs.declared.entry.Entry.{Entry}
use Rattle.fc_observe.specs.declared.entry.Phase.{Phase}
use Rattle.fc_observe.specs.declared.entry.Phase.TheVariants.{Idle, GivenUp, TurnOut, Outstanding}
use Rattle.fc_observe.specs.Entries.{is_due, is_free}
use Rattle.fc_observe.specs.Laws.{IsGivenUpNow, IsOutstanding, IsTurnOut}

free_to : (now : ℕ) (p : Phase) → is_free now p ≡ true → (IsOutstanding p → ⊥) × (IsTurnOut now p → ⊥) × (IsGivenUpNow now p → ⊥)
free_to now Idle e = (λ x. x, λ x. x, λ x. x)
free_to now (GivenUp at) e = let lt = ltb-true at now e in (λ x. x, λ x. x, λ le. absurd (omega (arith, lt, le)))
free_to now (TurnOut number at missing) e = let lt = ltb-true (at + 247000) now e in (λ x. x, λ out. absurd (omega (arith, lt, out)), λ same. absurd (omega (arith, lt, same)))
free_to now (Outstanding sent_at timeout n bytes) e = absurd (cc e)

free_from : (now : ℕ) (p : Phase) → (IsOutstanding p → ⊥) → (IsTurnOut now p → ⊥) → (IsGivenUpNow now p → ⊥) → is_free now p ≡ true
free_from now Idle idle back later = refl
free_from now (GivenUp at) idle back later = let f : now ≤ at → ⊥ = later in lt-ltb at now (omega (arith, f))
free_from now (TurnOut number at missing) idle back later =
    let f : now < at + 247000 → ⊥ = back in
    let g : now ≡ at + 247000 → ⊥ = later in
    lt-ltb (at + 247000) now (omega (arith, f, g))
free_from now (Outstanding sent_at timeout n bytes) idle back later = absurd (idle tt)

pub due_just : (now notify_serial : ℕ) (o : Entry) → (is_due now notify_serial o ≡ true) ↔ ((o.serial < notify_serial) × (IsOutstanding o.phase → ⊥) × (IsTurnOut now o.phase → ⊥) × (IsGivenUpNow now o.phase → ⊥))
due_just now notify_serial o = (
  λ due.
      let w = and_parts (nat_lt o.serial notify_serial) (is_free now o.phase) due in
      let f = free_to now o.phase w.1 in
      (ltb-true o.serial notify_serial w.0, f.0, f.1, f.2),
  λ w.
      let below : nat_lt o.serial notify_serial ≡ true = lt-ltb o.serial notify_serial w.0 in
      let free = free_from now o.phase w.1 w.2 w.3 in
      λ i. below i && free i,
)
