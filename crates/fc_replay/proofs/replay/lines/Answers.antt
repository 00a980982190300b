use Rattle.std.proofs.Common.{rules, tests, Bor, List, ℕ, map, ap, sym, ◌∙◌}
use Rattle.std.proofs.lemmas.Iterator.Consumers.{YieldsList-at, YieldsList-end}
use Rattle.std.proofs.lemmas.Iterator.Splits.{YieldsList-from_slice_split}
use Rattle.std.proofs.lemmas.Simd.{map-map}
use Rattle.fc_replay.specs.Listed.{line_words}
use Rattle.fc_replay.proofs.replay.lines.Goals as goal

pub returns : goal.returns
returns c =
    let road = YieldsList-at c.into_iter-line-iterator.ensures.into_iter_gives (YieldsList-from_slice_split _ _ c.args.list.now c.split-line-items.ensures.rest c.split-line-items.ensures.done c.split-line-items.ensures.closure (λ x r q k. search (rules, tests))) in
    let end = YieldsList-end road c.loop-line.yielded _ c.loop-line.yielded_by _ _ c.in-None.is c.next.ensures.steps in
    c.loop-line.invariant ∙ (sym (map-map line_words (λ (b : Bor (List ℕ)). b.now) c.loop-line.yielded) ∙ ap (map line_words) end.0)
