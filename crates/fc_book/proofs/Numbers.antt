-- If numbers of a range are different and as many as the range, each number of the range is among
-- them.
use Rattle.std.proofs.Common.{◌≡◌, ◌≢◌, ◌⊎◌, ℕ, ◌+◌, ◌-◌, ◌<◌, ◌≤◌, true, false, List, [], ◌∷◌, length, map, sym, ◌∙◌, ⊎_elim, inl, inr, arith}
use Rattle.std.specs.Prelude.{eqb}
use Rattle.std.specs.List.{AllByRecursion, IsDistinct, list_any}
use Rattle.std.proofs.lemmas.Bool.{cases_Bool}
use Rattle.std.proofs.lemmas.Bool.Decides.{nat_tests}
use Rattle.std.proofs.lemmas.List.{length-map}
use Rattle.std.proofs.lemmas.Map.Steps.{length-le_from_distinct_below}

abbrev pub HasNumber : ℕ → List ℕ → Type 0
HasNumber k [] = ⊥
HasNumber k (m ∷ ms) = (m ≡ k) ⊎ HasNumber k ms

abbrev pub AreApart : List ℕ → Type 0
AreApart [] = Unit {0}
AreApart (m ∷ ms) = (HasNumber m ms → ⊥) × AreApart ms

-- each of the numbers is at least a and below n.
abbrev pub AreBetween : ℕ → ℕ → List ℕ → Type 0
AreBetween a n [] = Unit {0}
AreBetween a n (m ∷ ms) = (a ≤ m) × (m < n) × AreBetween a n ms

module _ (a n : ℕ) where
  abbrev lowered : List ℕ → List ℕ
  lowered ms = map (λ m. m - a) ms

  far : (k : ℕ) (ms : List ℕ) → a ≤ k → AreBetween a n ms → (HasNumber k ms → ⊥) → AllByRecursion (λ y. eqb (k - a) y ≡ false) (lowered ms)
  far k [] le b none = tt
  far k (m ∷ ms) le b none =
      let low = b.0 in
      let apart : m ≢ k = λ e. none (inl e) in
      (grind (low, le, apart, arith, nat_tests), far k ms le b.2 (λ h. none (inr h)))

  distinct : (ms : List ℕ) → AreBetween a n ms → AreApart ms → IsDistinct eqb (lowered ms)
  unfolding IsDistinct
  distinct [] b s = tt
  distinct (m ∷ ms) b s = (far m ms b.0 b.2 s.0, distinct ms b.2 s.1)

  below : (q : ℕ) (ms : List ℕ) → AreBetween a n ms → list_any (eqb q) (lowered ms) ≡ true → q < n - a
  below q [] b h = absurd (cc h)
  below q (m ∷ ms) b h = ⊎_elim
      (λ (t : eqb q (m - a) ≡ true). let e : q ≡ m - a = grind (t, arith, nat_tests) in let low = b.0 in let high = b.1 in omega (arith, e, low, high))
      (λ (f : eqb q (m - a) ≡ false). below q ms b.2 (rw f at h))
      (cases_Bool (eqb q (m - a)))

  pub at_most : (ms : List ℕ) → AreBetween a n ms → AreApart ms → length ms ≤ n - a
  at_most ms b s =
      let most = length-le_from_distinct_below (lowered ms) (n - a) (distinct ms b s) (λ q h. below q ms b h) in
      omega (arith, most, length-map ms (λ (m : ℕ). m - a))

  has_or_not : (k : ℕ) (ms : List ℕ) → HasNumber k ms ⊎ (HasNumber k ms → ⊥)
  has_or_not k [] = inr (λ h. h)
  has_or_not k (m ∷ ms) = ⊎_elim
      (λ (t : eqb m k ≡ true). let e : m ≡ k = grind (t, arith, nat_tests) in inl (inl e))
      (λ (f : eqb m k ≡ false). ⊎_elim
      (λ (h : HasNumber k ms). inl (inr h))
      (λ (none : HasNumber k ms → ⊥). inr (λ h. ⊎_elim (λ (e : m ≡ k). let t : eqb m k ≡ true = grind (e, arith, nat_tests) in absurd (cc (sym t ∙ f))) none h))
      (has_or_not k ms))
      (cases_Bool (eqb m k))

  -- if the numbers are different and as many as the range from a to n, each number of the range is
  -- among them.
  pub all_among : (ms : List ℕ) (k : ℕ) → AreBetween a n ms → AreApart ms → a + length ms ≡ n → a ≤ k → k < n → HasNumber k ms
  all_among ms k b s count low high = ⊎_elim
      (λ (h : HasNumber k ms). h)
      (λ (none : HasNumber k ms → ⊥). let most = at_most (k ∷ ms) (low, high, b) (none, s) in absurd (omega (arith, most, count)))
      (has_or_not k ms)
