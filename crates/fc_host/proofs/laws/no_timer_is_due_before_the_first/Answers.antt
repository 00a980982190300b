use Rattle.std.proofs.Common.{ℕ, ◌≤◌, ◌<◌, zero, suc, length, List, [], ◌∷◌, arith}
use Rattle.std.specs.Prelude.{fold, min, slice_index_or}
use Rattle.fc_host.specs.declared.timer.Timer.{Timer}
use Rattle.fc_host.proofs.laws.no_timer_is_due_before_the_first.Goals as goal

abbrev due_of : ℕ → List Timer → ℕ
due_of most ts = fold (λ due t. min due t.due) most ts

-- further timers are due no earlier.
no_later : (most : ℕ) (ts : List Timer) → due_of most ts ≤ most
no_later most [] = omega arith
no_later most (t ∷ ts) = let le = no_later (min most t.due) ts in omega (arith, le)

within : (most : ℕ) (ts : List Timer) (k : ℕ) (d : Timer) → k < length ts → due_of most ts ≤ (slice_index_or ts k d).due
within most [] k d lt = absurd (omega (arith, lt))
within most (t ∷ ts) zero d lt = let le = no_later (min most t.due) ts in omega (arith, le)
within most (t ∷ ts) (suc k) d lt = within (min most t.due) ts k d (omega (arith, lt))

pub returns-clause-all : goal.returns-clause-all
returns-clause-all c = λ ts k d lt. within 18446744073709551615 ts k d lt
