-- The period of reports that the texts of `--log` give, one after the other.
use Rattle.std.proofs.Common.{◌≡◌, ℕ, zero, suc, ◌+◌, ◌<◌, List, [], ◌∷◌, Option, arith, length, map, refl, subst, take, Bor}
use Rattle.std.specs.Prelude.{slice_index_or}
use Rattle.fc_config.specs.Logs.{ArePeriods, IsPeriodAfter}

period_suc : (texts : List (Bor (List ℕ))) (k : ℕ) (first mid next : Option ℕ) (d : Bor (List ℕ)) → k < length texts
    → ArePeriods (map (λ text. text.now) (take k texts)) first mid → IsPeriodAfter (slice_index_or texts k d).now mid next
    → ArePeriods (map (λ text. text.now) (take (suc k) texts)) first next
period_suc [] k first mid next d lt are is = absurd (omega (arith, lt))
period_suc (text ∷ texts) zero first mid next d lt are is = (next, subst (λ (p : Option ℕ). IsPeriodAfter text.now p next) are is, refl)
period_suc (text ∷ texts) (suc k) first mid next d lt are is = (are.0, are.1, period_suc texts k are.0 mid next d (omega (arith, lt)) are.2 is)

one_more : (k : ℕ) → suc k ≡ k + 1
one_more k = omega arith

-- if the first k texts give the period `mid`, and the next text changes `mid` to `next`, the first
-- k + 1 texts give `next`.
pub period_next : (texts : List (Bor (List ℕ))) (k : ℕ) (first mid next : Option ℕ) (d : Bor (List ℕ)) → k < length texts
    → ArePeriods (map (λ text. text.now) (take k texts)) first mid → IsPeriodAfter (slice_index_or texts k d).now mid next
    → ArePeriods (map (λ text. text.now) (take (k + 1) texts)) first next
period_next texts k first mid next d lt are is =
    subst (λ (n : ℕ). ArePeriods (map (λ text. text.now) (take n texts)) first next) (one_more k) (period_suc texts k first mid next d lt are is)
