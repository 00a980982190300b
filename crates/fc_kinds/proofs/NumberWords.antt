-- The results of the code's shifts.
use Rattle.std.proofs.Common.{◌%◌, ◌≡◌, Option, Some, None, inl, inr, ℕ, zero, suc, ◌+◌, ◌-◌, ◌*◌, ◌/◌, ◌^◌, ◌<◌, ◌≤◌, Bool, true, false, nat_lt, if◌then◌else◌, refl, ap, ◌∙◌, arith}
use native.Mathlib.Numerals.{unary_clauses}
use Rattle.std.proofs.lemmas.Bool.{cases_lt}
use Rattle.std.proofs.lemmas.Bool.Decides.{nat_tests}
use Rattle.std.proofs.lemmas.Nat.{pow_pos, pow-add, shr_high, le-div}
use Rattle.std.proofs.Math.Nat.{suc-mul, div-mul-le_self, mul-le-mul_right}
use Rattle.std.specs.Int.Count.{count_leading_zeros, leading_unique}
use Rattle.std.specs.Option.{SomeIff, unwrap_or}
use Rattle.fc_kinds.specs.declared.interval.Interval.{Interval}
use Rattle.fc_kinds.specs.Intervals.{all, shifted_left, bits_needed}
use Rattle.fc_kinds.proofs.IntervalsGrow.{needed_enough}

needed_below : (w n : ℕ) → bits_needed w n ≤ w
needed_below zero n = omega arith
needed_below (suc w) n = go (nat_lt n (2 ^ w)) (needed_below w n)
  where
    go : (t : Bool) → bits_needed w n ≤ w → (if t then bits_needed w n else suc w) ≤ suc w
    go true h = omega (arith, h)
    go false h = omega arith

-- the power of two that `bits_needed` gives isn't greater than twice the number plus one
needed_tight : (w n : ℕ) → 2 ^ bits_needed w n ≤ 2 * n + 1
needed_tight zero n = omega arith
needed_tight (suc w) n = go (nat_lt n (2 ^ w)) refl (needed_tight w n)
  where
    go : (t : Bool) → nat_lt n (2 ^ w) ≡ t → 2 ^ bits_needed w n ≤ 2 * n + 1 → 2 ^ (if t then bits_needed w n else suc w) ≤ 2 * n + 1
    go true e h = h
    go false e h = let above : 2 ^ w ≤ n = grind (arith, nat_tests, e) in let twice : 2 ^ suc w ≡ 2 * 2 ^ w = simp unary_clauses (omega arith) in omega (arith, above, twice)

pub leading_needed : (w n : ℕ) → w ≤ 64 → n < 2 ^ w → count_leading_zeros 64 n + bits_needed w n ≡ 64
leading_needed w n le h =
    let b = needed_below w n in
    let same = leading_unique 64 n (64 - bits_needed w n) (bits_needed w n) (omega (arith, b, le)) (needed_enough w n h) (needed_tight w n) in
    omega (arith, same, b, le)

-- 64 ones, shifted to the right until m bits are left, are m ones
pub ones_shifted : (r m : ℕ) → r + m ≡ 64 → (2 ^ 64 - 1) / 2 ^ r ≡ 2 ^ m - 1
ones_shifted r m e =
    let p = pow_pos r in
    let q = pow_pos m in
    let turned : 64 ≡ m + r = omega (arith, e) in
    let whole : 2 ^ 64 ≡ 2 ^ m * 2 ^ r = ap (λ k. 2 ^ k) turned ∙ pow-add 2 m r in
    ap (λ k. (k - 1) / 2 ^ r) whole ∙ ap (λ k. k / 2 ^ r) (split (2 ^ m) (2 ^ r) q p) ∙ shr_high (2 ^ m - 1) r (2 ^ r - 1) (omega (arith, p))
  where
    split : (a b : ℕ) → 0 < a → 0 < b → a * b - 1 ≡ (a - 1) * b + (b - 1)
    split zero b h i = absurd (omega (arith, h))
    split (suc a) b h i = let e : suc a * b ≡ a * b + b = suc-mul a b in let f : suc a - 1 ≡ a = omega arith in rw (e, f) (omega (arith, i))

-- a number of at most (m - 1) / 2 ^ k, shifted to the left by k bits, stays below m
pub fits_shifted : (a k m : ℕ) → 0 < m → a ≤ (m - 1) / 2 ^ k → a * 2 ^ k < m
fits_shifted a k m p h =
    let up : a * 2 ^ k ≤ (m - 1) / 2 ^ k * 2 ^ k = mul-le-mul_right (2 ^ k) h in
    let low : (m - 1) / 2 ^ k * 2 ^ k ≤ m - 1 = div-mul-le_self (m - 1) (2 ^ k) in
    omega (arith, up, low, p)

pub shifted_fits : (a k m : ℕ) → a * 2 ^ k < m → a ≤ (m - 1) / 2 ^ k
shifted_fits a k m h = le-div a (m - 1) (2 ^ k) (pow_pos k) (omega (arith, h))

-- if the greatest number of an interval is shifted out of the width, the result is all numbers of
-- the width
pub shifted_out : (w by : ℕ) (a b : Interval) → by ≡ b.lo % w → (2 ^ w - 1) / 2 ^ by < a.hi → shifted_left w a b ≡ all w
shifted_out w by a b e h =
    let no : a.hi * 2 ^ by < 2 ^ w → ⊥ = λ lt. let f = shifted_fits a.hi by (2 ^ w) lt in omega (arith, f, h) in
    grind (arith, nat_tests, e, no)

pub shifted_several : (w : ℕ) (a b : Interval) → (b.lo ≡ b.hi → ⊥) → shifted_left w a b ≡ all w
shifted_several w a b h = grind (arith, nat_tests, h)

-- 64 ones, shifted by the leading zeros of n, are as many ones as n needs bits
pub ones_needed : (w n : ℕ) (o : Option ℕ) → w ≤ 64 → n < 2 ^ w → SomeIff o (count_leading_zeros 64 n < 64) ((2 ^ 64 - 1) / 2 ^ count_leading_zeros 64 n) → unwrap_or o 0 ≡ 2 ^ bits_needed w n - 1
ones_needed w n (Some x) le h s = let e = leading_needed w n le h in s.1 ∙ ones_shifted (count_leading_zeros 64 n) (bits_needed w n) e
ones_needed w n None le h s =
    let e = leading_needed w n le h in
    let none : bits_needed w n ≡ 0 = elim (cases_lt (count_leading_zeros 64 n) 64) [
      | inl lt ↦ absurd (s lt)
      | inr ge ↦ omega (arith, e, ge)
    ] in
    rw none refl
