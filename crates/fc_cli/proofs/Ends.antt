-- Lemmas on the exit status of a program.
use Rattle.std.proofs.Common.{◌≡◌, ◌⊎◌, ℕ, Err, IfErr, IfOk, Ok, Result, inl, inr, refl}
use Rattle.fc_cli.specs.Ending.{Ends, MayReturn, status_number}
use Rattle.fc_cli.specs.declared.status.Status.{Status}
use Rattle.fc_cli.specs.declared.status.Status.TheVariants.{Bad, Failed}

-- the status of a call is one that the call may return.
pub MayReturn-from_call : {Writer Words E : Type 0}
    (post : Writer → Words → Result Status E → Writer → Type 0)
    (before : Writer) (words : Words) (r : Result Status E) (after : Writer)
    → post before words r after → IfOk r (λ status. (status ≡ Bad) ⊎ MayReturn post status)
MayReturn-from_call post before words (Ok status) after called =
    inr (before, words, after, called)
MayReturn-from_call post before words (Err error) after called = tt

-- the exit status of a result is that of a status of the work, or of an early end.
pub Ends-from_result : {E : Type 0} (Works : Status → Type 0) (r : Result Status E) (code : ℕ)
    → IfOk r (λ status. (status ≡ Bad) ⊎ Works status)
    → IfOk r (λ status. code ≡ status_number status) → IfErr r (λ _. code ≡ 3)
    → Ends Works code
Ends-from_result Works (Ok status) code worked numbered failed =
    (status, elim worked [ inl bad ↦ inl bad | inr works ↦ inr (inr works) ], numbered)
Ends-from_result Works (Err error) code worked numbered failed =
    (Failed, inr (inl refl), failed)
