-- The tallies of eight shards after a change of one of them.
use Rattle.std.proofs.Common.{◌≡◌, ℕ, zero, suc, ◌+◌, ◌<◌, List, [], ◌∷◌, if◌then◌else◌, arith, ap, subst, ◌∙◌}
use Rattle.std.specs.Prelude.{◌==◌, slice_index}

eight : (P : ℕ → Type 0) → P 0 → P 1 → P 2 → P 3 → P 4 → P 5 → P 6 → P 7 → (k : ℕ) → k < 8 → P k
eight P p0 p1 p2 p3 p4 p5 p6 p7 zero lt = p0
eight P p0 p1 p2 p3 p4 p5 p6 p7 (suc zero) lt = p1
eight P p0 p1 p2 p3 p4 p5 p6 p7 (suc (suc zero)) lt = p2
eight P p0 p1 p2 p3 p4 p5 p6 p7 (suc (suc (suc zero))) lt = p3
eight P p0 p1 p2 p3 p4 p5 p6 p7 (suc (suc (suc (suc zero)))) lt = p4
eight P p0 p1 p2 p3 p4 p5 p6 p7 (suc (suc (suc (suc (suc zero))))) lt = p5
eight P p0 p1 p2 p3 p4 p5 p6 p7 (suc (suc (suc (suc (suc (suc zero)))))) lt = p6
eight P p0 p1 p2 p3 p4 p5 p6 p7 (suc (suc (suc (suc (suc (suc (suc zero))))))) lt = p7
eight P p0 p1 p2 p3 p4 p5 p6 p7 (suc (suc (suc (suc (suc (suc (suc (suc k)))))))) lt = absurd (omega (arith, lt))

-- the tally of shard i has risen by n, in lists of eight tallies.
abbrev HaveRisen : List ℕ → List ℕ → ℕ → ℕ → Type 0
HaveRisen xs ys i n = (k : ℕ) → k < 8 → slice_index ys k ≡ slice_index xs k + (if k == i then n else 0)

still : (a : ℕ) → a ≡ a + 0
still a = omega arith

module _ (a0 a1 a2 a3 a4 a5 a6 a7 b n : ℕ) where
  abbrev eight_before : List ℕ
  eight_before = a0 ∷ a1 ∷ a2 ∷ a3 ∷ a4 ∷ a5 ∷ a6 ∷ a7 ∷ []

  rises_0 : b ≡ a0 + n → HaveRisen eight_before (b ∷ a1 ∷ a2 ∷ a3 ∷ a4 ∷ a5 ∷ a6 ∷ a7 ∷ []) 0 n
  rises_0 up = eight (λ k. slice_index (b ∷ a1 ∷ a2 ∷ a3 ∷ a4 ∷ a5 ∷ a6 ∷ a7 ∷ []) k ≡ slice_index eight_before k + (if k == 0 then n else 0)) up (still a1) (still a2) (still a3) (still a4) (still a5) (still a6) (still a7)

  rises_1 : b ≡ a1 + n → HaveRisen eight_before (a0 ∷ b ∷ a2 ∷ a3 ∷ a4 ∷ a5 ∷ a6 ∷ a7 ∷ []) 1 n
  rises_1 up = eight (λ k. slice_index (a0 ∷ b ∷ a2 ∷ a3 ∷ a4 ∷ a5 ∷ a6 ∷ a7 ∷ []) k ≡ slice_index eight_before k + (if k == 1 then n else 0)) (still a0) up (still a2) (still a3) (still a4) (still a5) (still a6) (still a7)

  rises_2 : b ≡ a2 + n → HaveRisen eight_before (a0 ∷ a1 ∷ b ∷ a3 ∷ a4 ∷ a5 ∷ a6 ∷ a7 ∷ []) 2 n
  rises_2 up = eight (λ k. slice_index (a0 ∷ a1 ∷ b ∷ a3 ∷ a4 ∷ a5 ∷ a6 ∷ a7 ∷ []) k ≡ slice_index eight_before k + (if k == 2 then n else 0)) (still a0) (still a1) up (still a3) (still a4) (still a5) (still a6) (still a7)

  rises_3 : b ≡ a3 + n → HaveRisen eight_before (a0 ∷ a1 ∷ a2 ∷ b ∷ a4 ∷ a5 ∷ a6 ∷ a7 ∷ []) 3 n
  rises_3 up = eight (λ k. slice_index (a0 ∷ a1 ∷ a2 ∷ b ∷ a4 ∷ a5 ∷ a6 ∷ a7 ∷ []) k ≡ slice_index eight_before k + (if k == 3 then n else 0)) (still a0) (still a1) (still a2) up (still a4) (still a5) (still a6) (still a7)

  rises_4 : b ≡ a4 + n → HaveRisen eight_before (a0 ∷ a1 ∷ a2 ∷ a3 ∷ b ∷ a5 ∷ a6 ∷ a7 ∷ []) 4 n
  rises_4 up = eight (λ k. slice_index (a0 ∷ a1 ∷ a2 ∷ a3 ∷ b ∷ a5 ∷ a6 ∷ a7 ∷ []) k ≡ slice_index eight_before k + (if k == 4 then n else 0)) (still a0) (still a1) (still a2) (still a3) up (still a5) (still a6) (still a7)

  rises_5 : b ≡ a5 + n → HaveRisen eight_before (a0 ∷ a1 ∷ a2 ∷ a3 ∷ a4 ∷ b ∷ a6 ∷ a7 ∷ []) 5 n
  rises_5 up = eight (λ k. slice_index (a0 ∷ a1 ∷ a2 ∷ a3 ∷ a4 ∷ b ∷ a6 ∷ a7 ∷ []) k ≡ slice_index eight_before k + (if k == 5 then n else 0)) (still a0) (still a1) (still a2) (still a3) (still a4) up (still a6) (still a7)

  rises_6 : b ≡ a6 + n → HaveRisen eight_before (a0 ∷ a1 ∷ a2 ∷ a3 ∷ a4 ∷ a5 ∷ b ∷ a7 ∷ []) 6 n
  rises_6 up = eight (λ k. slice_index (a0 ∷ a1 ∷ a2 ∷ a3 ∷ a4 ∷ a5 ∷ b ∷ a7 ∷ []) k ≡ slice_index eight_before k + (if k == 6 then n else 0)) (still a0) (still a1) (still a2) (still a3) (still a4) (still a5) up (still a7)

  rises_7 : b ≡ a7 + n → HaveRisen eight_before (a0 ∷ a1 ∷ a2 ∷ a3 ∷ a4 ∷ a5 ∷ a6 ∷ b ∷ []) 7 n
  rises_7 up = eight (λ k. slice_index (a0 ∷ a1 ∷ a2 ∷ a3 ∷ a4 ∷ a5 ∷ a6 ∷ b ∷ []) k ≡ slice_index eight_before k + (if k == 7 then n else 0)) (still a0) (still a1) (still a2) (still a3) (still a4) (still a5) (still a6) up

  -- the same for the list that a server's tallies have, and a slot of that shard.
  pub tallied_0 : (xs : List ℕ) (i : ℕ) → eight_before ≡ xs → 0 ≡ i → b ≡ a0 + n → HaveRisen xs (b ∷ a1 ∷ a2 ∷ a3 ∷ a4 ∷ a5 ∷ a6 ∷ a7 ∷ []) i n
  tallied_0 xs i are at up = subst (λ (l : List ℕ). HaveRisen l (b ∷ a1 ∷ a2 ∷ a3 ∷ a4 ∷ a5 ∷ a6 ∷ a7 ∷ []) i n) are (subst (λ (j : ℕ). HaveRisen eight_before (b ∷ a1 ∷ a2 ∷ a3 ∷ a4 ∷ a5 ∷ a6 ∷ a7 ∷ []) j n) at (rises_0 up))

  pub tallied_1 : (xs : List ℕ) (i : ℕ) → eight_before ≡ xs → 1 ≡ i → b ≡ a1 + n → HaveRisen xs (a0 ∷ b ∷ a2 ∷ a3 ∷ a4 ∷ a5 ∷ a6 ∷ a7 ∷ []) i n
  tallied_1 xs i are at up = subst (λ (l : List ℕ). HaveRisen l (a0 ∷ b ∷ a2 ∷ a3 ∷ a4 ∷ a5 ∷ a6 ∷ a7 ∷ []) i n) are (subst (λ (j : ℕ). HaveRisen eight_before (a0 ∷ b ∷ a2 ∷ a3 ∷ a4 ∷ a5 ∷ a6 ∷ a7 ∷ []) j n) at (rises_1 up))

  pub tallied_2 : (xs : List ℕ) (i : ℕ) → eight_before ≡ xs → 2 ≡ i → b ≡ a2 + n → HaveRisen xs (a0 ∷ a1 ∷ b ∷ a3 ∷ a4 ∷ a5 ∷ a6 ∷ a7 ∷ []) i n
  tallied_2 xs i are at up = subst (λ (l : List ℕ). HaveRisen l (a0 ∷ a1 ∷ b ∷ a3 ∷ a4 ∷ a5 ∷ a6 ∷ a7 ∷ []) i n) are (subst (λ (j : ℕ). HaveRisen eight_before (a0 ∷ a1 ∷ b ∷ a3 ∷ a4 ∷ a5 ∷ a6 ∷ a7 ∷ []) j n) at (rises_2 up))

  pub tallied_3 : (xs : List ℕ) (i : ℕ) → eight_before ≡ xs → 3 ≡ i → b ≡ a3 + n → HaveRisen xs (a0 ∷ a1 ∷ a2 ∷ b ∷ a4 ∷ a5 ∷ a6 ∷ a7 ∷ []) i n
  tallied_3 xs i are at up = subst (λ (l : List ℕ). HaveRisen l (a0 ∷ a1 ∷ a2 ∷ b ∷ a4 ∷ a5 ∷ a6 ∷ a7 ∷ []) i n) are (subst (λ (j : ℕ). HaveRisen eight_before (a0 ∷ a1 ∷ a2 ∷ b ∷ a4 ∷ a5 ∷ a6 ∷ a7 ∷ []) j n) at (rises_3 up))

  pub tallied_4 : (xs : List ℕ) (i : ℕ) → eight_before ≡ xs → 4 ≡ i → b ≡ a4 + n → HaveRisen xs (a0 ∷ a1 ∷ a2 ∷ a3 ∷ b ∷ a5 ∷ a6 ∷ a7 ∷ []) i n
  tallied_4 xs i are at up = subst (λ (l : List ℕ). HaveRisen l (a0 ∷ a1 ∷ a2 ∷ a3 ∷ b ∷ a5 ∷ a6 ∷ a7 ∷ []) i n) are (subst (λ (j : ℕ). HaveRisen eight_before (a0 ∷ a1 ∷ a2 ∷ a3 ∷ b ∷ a5 ∷ a6 ∷ a7 ∷ []) j n) at (rises_4 up))

  pub tallied_5 : (xs : List ℕ) (i : ℕ) → eight_before ≡ xs → 5 ≡ i → b ≡ a5 + n → HaveRisen xs (a0 ∷ a1 ∷ a2 ∷ a3 ∷ a4 ∷ b ∷ a6 ∷ a7 ∷ []) i n
  tallied_5 xs i are at up = subst (λ (l : List ℕ). HaveRisen l (a0 ∷ a1 ∷ a2 ∷ a3 ∷ a4 ∷ b ∷ a6 ∷ a7 ∷ []) i n) are (subst (λ (j : ℕ). HaveRisen eight_before (a0 ∷ a1 ∷ a2 ∷ a3 ∷ a4 ∷ b ∷ a6 ∷ a7 ∷ []) j n) at (rises_5 up))

  pub tallied_6 : (xs : List ℕ) (i : ℕ) → eight_before ≡ xs → 6 ≡ i → b ≡ a6 + n → HaveRisen xs (a0 ∷ a1 ∷ a2 ∷ a3 ∷ a4 ∷ a5 ∷ b ∷ a7 ∷ []) i n
  tallied_6 xs i are at up = subst (λ (l : List ℕ). HaveRisen l (a0 ∷ a1 ∷ a2 ∷ a3 ∷ a4 ∷ a5 ∷ b ∷ a7 ∷ []) i n) are (subst (λ (j : ℕ). HaveRisen eight_before (a0 ∷ a1 ∷ a2 ∷ a3 ∷ a4 ∷ a5 ∷ b ∷ a7 ∷ []) j n) at (rises_6 up))

  pub tallied_7 : (xs : List ℕ) (i : ℕ) → eight_before ≡ xs → 7 ≡ i → b ≡ a7 + n → HaveRisen xs (a0 ∷ a1 ∷ a2 ∷ a3 ∷ a4 ∷ a5 ∷ a6 ∷ b ∷ []) i n
  tallied_7 xs i are at up = subst (λ (l : List ℕ). HaveRisen l (a0 ∷ a1 ∷ a2 ∷ a3 ∷ a4 ∷ a5 ∷ a6 ∷ b ∷ []) i n) are (subst (λ (j : ℕ). HaveRisen eight_before (a0 ∷ a1 ∷ a2 ∷ a3 ∷ a4 ∷ a5 ∷ a6 ∷ b ∷ []) j n) at (rises_7 up))
