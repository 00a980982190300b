use Rattle.std.proofs.Common.{◌≡◌, ◌++◌, inl, inr, List, ℕ, Option, Some, None, IfSome, true, false, [], ◌∷◌, ap, sym, ◌∙◌}
use Rattle.std.proofs.lemmas.Bool.Decides.{Decides-eqb}
use Rattle.std.proofs.lemmas.Slice.Eq.{strip_suffix_is}
use Rattle.fcvectors.specs.Lines.{IsCounted, IsPiece, backslash}
use Rattle.fcvectors.specs.declared.line.Copies.{Copies}
use Rattle.fcvectors.proofs.line.copies_of.Goals as goal

-- if a piece ends with a backslash, copies of the text before it, without line feeds, are the
-- copies of the piece.
cut_piece : (piece text end : List ℕ) (r : Option Copies) → piece ≡ text ++ end → end ≡ backslash ∷ []
    → IfSome r (λ copies. IsCounted text copies.count copies.text.now) → IfSome r (λ copies. copies.ends_line ≡ false) → IfSome r (IsPiece piece)
cut_piece piece text end None is ends counted bare = tt
cut_piece piece text end (Some copies) is ends counted bare = inl (text, is ∙ ap (λ xs. text ++ xs) ends, counted, bare)

-- if a piece doesn't end with a backslash, copies of the whole piece, with line feeds, are the
-- copies of the piece.
whole_piece : (piece end : List ℕ) (r : Option Copies) → ((front : List ℕ) → piece ≡ front ++ end → ⊥) → end ≡ backslash ∷ []
    → IfSome r (λ copies. IsCounted piece copies.count copies.text.now) → IfSome r (λ copies. copies.ends_line ≡ true) → IfSome r (IsPiece piece)
whole_piece piece end None unended ends counted feeds = tt
whole_piece piece end (Some copies) unended ends counted feeds = inr (counted, (λ front is. unended front (is ∙ ap (λ xs. front ++ xs) (sym ends))), feeds)

pub returns-in-Some : goal.returns-in-Some
returns-in-Some c =
    let found = strip_suffix_is Decides-eqb c.args.piece.now c.as_slice.result.now c.strip_suffix.result c.strip_suffix.ensures.cases in
    cut_piece c.args.piece.now c.in-Some.text.now c.as_slice.result.now c.counted.result (rw c.in-Some.is at found) c.as_slice.ensures
    c.counted.ensures.copies c.counted.ensures.ends_line

pub returns-in-None : goal.returns-in-None
returns-in-None c =
    let found = strip_suffix_is Decides-eqb c.args.piece.now c.as_slice.result.now c.strip_suffix.result c.strip_suffix.ensures.cases in
    whole_piece c.args.piece.now c.as_slice.result.now c.counted-in-None.result (rw c.in-None.is at found) c.as_slice.ensures
    c.counted-in-None.ensures.copies c.counted-in-None.ensures.ends_line
