-- The result of a search for the first place that passes a test.
use Rattle.std.proofs.Common.{◌≡◌, ℕ, zero, suc, ◌+◌, ◌*◌, ◌<◌, ◌≤◌, arith, Bool, true, false, Option, Some, None, refl, sym, ap, ◌∙◌, ⊎_elim, if◌then◌else◌}
use Rattle.std.proofs.lemmas.Bool.{cases_lt, eqb-true}
use Rattle.fc_registry.specs.Watches.{place_from}
use Rattle.fc_core.specs.History.{is_place_of}

below_by : (p : ℕ → Bool) (n k j : ℕ) (b : Bool) → (place_from p n (k + 1) ≡ Some j → j < (k + 1) + n) → (if b then Some k else place_from p n (k + 1)) ≡ Some j → j < k + suc n
below_by p n k j true later e = let is : k ≡ j = cc in omega (arith, is)
below_by p n k j false later e = omega (arith, later e)

-- a place that is found is among the places that are searched.
pub place_below : (p : ℕ → Bool) (n k j : ℕ) → place_from p n k ≡ Some j → j < k + n
place_below p zero k j e = absurd (cc)
place_below p (suc n) k j e = below_by p n k j (p k) (place_below p n (k + 1) j) e

passes_by : (p : ℕ → Bool) (n k j : ℕ) (b : Bool) → p k ≡ b → (place_from p n (k + 1) ≡ Some j → p j ≡ true) → (if b then Some k else place_from p n (k + 1)) ≡ Some j → p j ≡ true
passes_by p n k j true here later e = let is : k ≡ j = cc in ap p (sym is) ∙ here
passes_by p n k j false here later e = later e

-- a place that is found passes the test.
pub place_passes : (p : ℕ → Bool) (n k j : ℕ) → place_from p n k ≡ Some j → p j ≡ true
place_passes p zero k j e = absurd (cc)
place_passes p (suc n) k j e = passes_by p n k j (p k) refl (place_passes p n (k + 1) j) e

before_by : (p : ℕ → Bool) (n k j m : ℕ) (b : Bool) → p k ≡ b → (place_from p n (k + 1) ≡ Some j → k + 1 ≤ m → p m ≡ false) → (if b then Some k else place_from p n (k + 1)) ≡ Some j → k ≤ m → m < j → p m ≡ false
before_by p n k j m true here later e le lt = let is : k ≡ j = cc in absurd (omega (arith, is, le, lt))
before_by p n k j m false here later e le lt = ⊎_elim
    (λ (same : m < k + 1). let is : m ≡ k = omega (arith, le, same) in ap p is ∙ here)
    (λ (above : k + 1 ≤ m). later e above)
    (cases_lt m (k + 1))

-- no place before the one that is found passes the test.
pub place_first : (p : ℕ → Bool) (n k j m : ℕ) → place_from p n k ≡ Some j → k ≤ m → m < j → p m ≡ false
place_first p zero k j m e le lt = absurd (cc)
place_first p (suc n) k j m e le lt = before_by p n k j m (p k) refl (λ later above. place_first p n (k + 1) j m later above lt) e le lt

none_by : (p : ℕ → Bool) (n k m : ℕ) (b : Bool) → p k ≡ b → (place_from p n (k + 1) ≡ None → k + 1 ≤ m → m < (k + 1) + n → p m ≡ false) → (if b then Some k else place_from p n (k + 1)) ≡ None → k ≤ m → m < k + suc n → p m ≡ false
none_by p n k m true here later e le lt = absurd (cc)
none_by p n k m false here later e le lt = ⊎_elim
    (λ (same : m < k + 1). let is : m ≡ k = omega (arith, le, same) in ap p is ∙ here)
    (λ (above : k + 1 ≤ m). later e above (omega (arith, lt)))
    (cases_lt m (k + 1))

-- if no place is found, none passes the test.
pub none_passes : (p : ℕ → Bool) (n k m : ℕ) → place_from p n k ≡ None → k ≤ m → m < k + n → p m ≡ false
none_passes p zero k m e le lt = absurd (omega (arith, le, lt))
none_passes p (suc n) k m e le lt = none_by p n k m (p k) refl (none_passes p n (k + 1) m) e le lt

-- if a place is that of slot n, slot n is at this place of the shard.
pub place_is : (p : Option ℕ) (i n : ℕ) → is_place_of p i n ≡ true → (k : ℕ) × (p ≡ Some k) × (8 * k + i ≡ n)
place_is None i n is = absurd (cc is)
place_is (Some k) i n is = (k, refl, eqb-true (8 * k + i) n is)
