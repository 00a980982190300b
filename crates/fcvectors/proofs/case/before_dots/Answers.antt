use Rattle.std.proofs.Common.{◌≡◌, ◌++◌, List, ℕ, Bor, Option, Some, None, IfSome, MatchOption, ap, ◌∙◌}
use Rattle.std.proofs.lemmas.Bool.Decides.{Decides-eqb}
use Rattle.std.proofs.lemmas.Slice.Eq.{strip_suffix_is}
use Rattle.fcvectors.specs.Cases.{dots}
use Rattle.fcvectors.proofs.case.before_dots.Goals as goal

-- if a text was split before an end, and that end is the dots, the split is before the dots.
front_of : (said end : List ℕ) (r : Option (Bor (List ℕ))) → end ≡ dots
    → MatchOption r ((front : List ℕ) → said ≡ front ++ end → ⊥) (λ start. said ≡ start.now ++ end) → IfSome r (λ start. said ≡ start.now ++ dots)
front_of said end None ends is = tt
front_of said end (Some start) ends is = is ∙ ap (λ xs. start.now ++ xs) ends

pub returns : goal.returns
returns c =
    front_of c.args.said.now c.as_slice.result.now c.strip_suffix.result c.as_slice.ensures
    (strip_suffix_is Decides-eqb c.args.said.now c.as_slice.result.now c.strip_suffix.result c.strip_suffix.ensures.cases)
