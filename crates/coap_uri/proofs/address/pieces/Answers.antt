use Rattle.std.proofs.Common.{ap, map, ◌∙◌}
use Rattle.std.proofs.lemmas.Iterator.Consumers.{YieldsList-at, YieldsList-end}
use Rattle.std.proofs.lemmas.Iterator.Splits.{YieldsList-from_str_split}
use Rattle.percent_encoding.specs.Percent.{percent_decode}
use Rattle.coap_uri.proofs.Segments.{pieces_of}
use Rattle.coap_uri.proofs.address.pieces.Goals as goal

pub returns : goal.returns
returns c =
    let split = c.split-piece-items.ensures in
    let road = YieldsList-at c.into_iter-piece-iterator.ensures.into_iter_gives
    (YieldsList-from_str_split c.args.parting c.args.text.now c.requires split.text split.has_more split.pattern) in
    let end = YieldsList-end road c.loop-piece.yielded _ c.loop-piece.yielded_by _ _ c.in-None.is c.next.ensures.steps in
    c.loop-piece.invariant ∙ ap (map percent_decode) end.0 ∙ pieces_of c.args.parting c.args.text.now c.if-is_empty.ensures
