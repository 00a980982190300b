-- A property of all items of a list also holds for the first items.
use Rattle.std.proofs.Common.{◌≡◌, ℕ, List, take, subst, sym}
use Rattle.std.specs.List.{All}
use Rattle.std.proofs.lemmas.List.Elements.{All-take}

pub all_before : {X : Type 0} (P : X → Type 0) (n : ℕ) (xs : List X) {ys : List X} → ys ≡ take n xs → All P xs → All P ys
all_before {X} P n xs {ys} e all = subst (λ (l : List X). All P l) (sym e) (All-take P n xs all)
