-- The first place at which a function has a value: as a relation, and as the function `first_some`.
use Rattle.std.proofs.Common.{◌≡◌, ◌⊎◌, inl, inr, ℕ, zero, suc, ◌+◌, ◌*◌, ◌/◌, ◌<◌, ◌≤◌, Option, Some, None, List, length, refl, sym, ap, ◌∙◌, arith}
use Rattle.std.proofs.lemmas.Bool.{cases_lt, cases_eq}
use Rattle.std.proofs.lemmas.Option.{some_pair_parts}
use Rattle.fc_isa.specs.declared.rule.Rule.{Rule}
use Rattle.fc_isa.specs.Encoding.{first_some, or_at, first_fault, fault_at, IsFirstFault}
use Rattle.fc_isa.proofs.Slots.{fault_at_past}

or_at_none : {A : Type 0} (r : Option (ℕ × A)) (n : ℕ) (o : Option A) → or_at r n o ≡ None → (r ≡ None) × (o ≡ None)
or_at_none (Some x) n o h = absurd (cc h)
or_at_none None n None h = (refl, refl)
or_at_none None n (Some a) h = absurd (cc h)

pub none_below : {A : Type 0} (f : ℕ → Option A) (n : ℕ) → first_some f n ≡ None → (k : ℕ) → k < n → f k ≡ None
none_below f zero h k l = absurd (omega arith)
none_below f (suc n) h k l =
    let p = or_at_none (first_some f n) n (f n) h in
    elim (cases_eq k n) [ inl e ↦ ap f e ∙ p.1 | inr ne ↦ none_below f n p.0 k (omega arith) ]

pub first_some_none : {A : Type 0} (f : ℕ → Option A) (n : ℕ) → ((k : ℕ) → k < n → f k ≡ None) → first_some f n ≡ None
first_some_none f zero h = refl
first_some_none f (suc n) h = rw (first_some_none f n (λ k l. h k (omega arith)), h n (omega arith)) refl

-- k is the first place at which f has a value, and a is that value
pub record IsFirst {A : Type 0} (f : ℕ → Option A) (k : ℕ) (a : A) : Type 0 where
  pub found : f k ≡ Some a
  pub before : (j : ℕ) → j < k → f j ≡ None

first_or_at : {A : Type 0} (f : ℕ → Option A) (n : ℕ) (r : Option (ℕ × A)) (o : Option A) (k : ℕ) (a : A) → first_some f n ≡ r → f n ≡ o → or_at r n o ≡ Some (k, a)
    → ((k : ℕ) (a : A) → first_some f n ≡ Some (k, a) → IsFirst f k a) → IsFirst f k a
first_or_at f n (Some x) o k a er eo h below = below k a (er ∙ h)
first_or_at f n None None k a er eo h below = absurd (cc h)
first_or_at f n None (Some b) k a er eo h below =
    let p = some_pair_parts n k b a h in
    record { found = ap f (sym p.0) ∙ eo ∙ ap Some p.1; before = λ j l. none_below f n er j (omega (arith, p.0)) }

pub first_of_some : {A : Type 0} (f : ℕ → Option A) (n k : ℕ) (a : A) → first_some f n ≡ Some (k, a) → IsFirst f k a
first_of_some f zero k a h = absurd (cc h)
first_of_some f (suc n) k a h = first_or_at f n (first_some f n) (f n) k a refl refl h (first_of_some f n)

pub some_of_first : {A : Type 0} (f : ℕ → Option A) (n k : ℕ) (a : A) → k < n → IsFirst f k a → first_some f n ≡ Some (k, a)
some_of_first f zero k a l h = absurd (omega arith)
some_of_first f (suc n) k a l h = elim (cases_eq k n) [
  | inl e ↦ rw (first_some_none f n (λ j lt. h.before j (omega arith)), sym (ap f e) ∙ h.found) (ap (λ i. Some (i, a)) (sym e))
  | inr ne ↦ rw (some_of_first f n k a (omega arith) h) refl
]

-- ---- the first fault of bytes

-- a slot that breaks a rule begins within the bytes
within : (bytes : List ℕ) (slot : ℕ) (rule : Rule) → fault_at bytes slot ≡ Some rule → (8 * slot < length bytes) ⊎ (length bytes ≤ 8 * slot) → slot < length bytes / 8 + 1
within bytes slot rule e (inr h) = absurd (cc (e, fault_at_past bytes slot h))
within bytes slot rule e (inl h) = omega arith

pub first_fault_is : (bytes : List ℕ) (rule : Rule) (slot : ℕ) → IsFirstFault bytes rule slot → first_fault bytes ≡ Some (slot, rule)
unfolding first_fault
first_fault_is bytes rule slot h =
    some_of_first (fault_at bytes) (length bytes / 8 + 1) slot rule (within bytes slot rule h.broken (cases_lt (8 * slot) (length bytes))) (record { found = h.broken; before = h.before })

pub is_first_fault : (bytes : List ℕ) (rule : Rule) (slot : ℕ) → first_fault bytes ≡ Some (slot, rule) → IsFirstFault bytes rule slot
unfolding first_fault
is_first_fault bytes rule slot h =
    let f = first_of_some (fault_at bytes) (length bytes / 8 + 1) slot rule h in
    record { broken = f.found; before = f.before }

pub faultless_none : (bytes : List ℕ) → ((k : ℕ) → fault_at bytes k ≡ None) → first_fault bytes ≡ None
unfolding first_fault
faultless_none bytes h = first_some_none (fault_at bytes) (length bytes / 8 + 1) (λ k l. h k)

none_anywhere : (bytes : List ℕ) (k : ℕ) → ((j : ℕ) → j < length bytes / 8 + 1 → fault_at bytes j ≡ None) → (k < length bytes / 8 + 1) ⊎ (length bytes / 8 + 1 ≤ k) → fault_at bytes k ≡ None
none_anywhere bytes k h (inl l) = h k l
none_anywhere bytes k h (inr l) = fault_at_past bytes k (omega arith)

pub none_faultless : (bytes : List ℕ) → first_fault bytes ≡ None → (k : ℕ) → fault_at bytes k ≡ None
unfolding first_fault
none_faultless bytes h k = none_anywhere bytes k (none_below (fault_at bytes) (length bytes / 8 + 1) h) (cases_lt k (length bytes / 8 + 1))
