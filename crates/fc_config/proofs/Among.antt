-- A test over texts by reference.
use Rattle.std.proofs.Common.{◌≡◌, ℕ, Bool, List, [], ◌∷◌, ap, map, refl, Bor}
use Rattle.std.specs.Prelude.{◌||◌}
use Rattle.std.specs.List.{list_any}

-- whether a text passes a test is the same for a list of texts and for references to those texts.
pub any_map : (test : List ℕ → Bool) (texts : List (Bor (List ℕ))) → list_any test (map (λ text. text.now) texts) ≡ list_any (λ text. test text.now) texts
any_map test [] = refl
any_map test (text ∷ texts) = ap (λ (b : Bool). test text.now || b) (any_map test texts)
