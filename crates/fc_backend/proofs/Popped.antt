-- Lists of which the last item was popped.
use Rattle.std.proofs.Common.{◌≡◌, ◌∙◌, ℕ, ◌+◌, List, [], ◌∷◌, ◌++◌, length, take, sym, arith}
use Rattle.std.specs.Prelude.{get_or}
use Rattle.std.proofs.lemmas.List.{take_all, take_more}

pub last_popped : {X : Type 0} (xs : List X) (n : ℕ) (x : X) {ys : List X} → ys ≡ take n xs → n + 1 ≡ length xs → x ≡ get_or xs n x → xs ≡ ys ++ x ∷ []
last_popped xs n x {ys} rest count is =
    sym (take_all (n + 1) xs (omega (arith, count))) ∙ (take_more xs n x (omega (arith, count)) ∙ (λ i. sym rest i ++ sym is i ∷ []))
