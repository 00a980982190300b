use Rattle.std.proofs.Common.{rules, tests, ◌++◌, List, ℕ, Bor, [], ◌∷◌, map, sym, subst}
use Rattle.std.proofs.lemmas.Iterator.Consumers.{YieldsList-at, YieldsList-end}
use Rattle.std.proofs.lemmas.Iterator.Splits.{YieldsList-from_slice_split}
use Rattle.fcvectors.specs.Lines.{IsCaseLine}
use Rattle.fcvectors.specs.Cases.{AreWritten}
use Rattle.fcvectors.specs.declared.line.CaseLine.{CaseLine}
use Rattle.fcvectors.proofs.case.lines_of.Goals as goal

-- lines that have the forms of their texts may be followed by a line with the form of its text.
written_snoc : (texts : List (Bor (List ℕ))) (lines : List CaseLine) (text : Bor (List ℕ)) (line : CaseLine)
    → AreWritten (map (λ (b : Bor (List ℕ)). b.now) texts) lines → IsCaseLine text.now line
    → AreWritten (map (λ (b : Bor (List ℕ)). b.now) (texts ++ (text ∷ []))) (lines ++ (line ∷ []))
written_snoc [] [] text line are is = (is, tt)
written_snoc (first ∷ texts) (its ∷ lines) text line are is = (are.0, written_snoc texts lines text line are.1 is)
written_snoc [] (its ∷ lines) text line are is = absurd are
written_snoc (first ∷ texts) [] text line are is = absurd are

pub loop-line-preserved : goal.loop-line-preserved
loop-line-preserved c =
    subst (λ lines. AreWritten (map (λ (b : Bor (List ℕ)). b.now) (c.loop-line.yielded ++ (c.in-Some.line ∷ []))) lines) (sym c.in_ok-append_line-in-Some-parse.ensures)
    (written_snoc c.loop-line.yielded c.loop-line.lines.items c.in-Some.line c.in-Some-parse.line c.loop-line.invariant c.in-Some-parse.ensures)

pub returns : goal.returns
returns c =
    let road = YieldsList-at c.into_iter-line-iterator.ensures.into_iter_gives (YieldsList-from_slice_split _ _ c.args.text.now c.split-line-items.ensures.rest c.split-line-items.ensures.done c.split-line-items.ensures.closure (λ x r q k. search (rules, tests))) in
    let end = YieldsList-end road c.loop-line.yielded _ c.loop-line.yielded_by _ _ c.in-None.is c.next.ensures.steps in
    subst (λ texts. AreWritten texts c.loop-line.lines.items) end.0 c.loop-line.invariant
