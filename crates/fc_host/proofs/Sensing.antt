-- The sensor readings are the bytes that a reader gave, and zeros follow them.
use Rattle.std.proofs.Common.{◌≡◌, ℕ, ◌≤◌, List, ◌++◌, length, take, drop, Option, arith, ap, ◌∙◌}
use Rattle.std.specs.Prelude.{replicate}
use Rattle.std.specs.Io.KnownBytes.{Consumes}
use Rattle.std.proofs.lemmas.List.{drop-replicate, length-take}
use Rattle.fc_host.specs.Clocks.{AreSensed}

pub given_first : (had left : Option (List ℕ)) (count : ℕ) (buffer first : List ℕ) → count ≤ length buffer → length buffer ≡ 56 → first ≡ take count buffer →
    Consumes had left (take count buffer) → AreSensed had left count (first ++ drop count (replicate 56 0))
given_first had left count buffer first few long is consumes = record {
  given = take count buffer;
  count_is = omega (arith, length-take count buffer, few);
  few = omega (arith, few, long);
  first = consumes;
  padded = ap (λ xs. xs ++ drop count (replicate 56 0)) is ∙ ap (λ xs. take count buffer ++ xs) (drop-replicate count 56 0);
}
