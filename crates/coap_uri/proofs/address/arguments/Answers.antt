use Rattle.std.proofs.Common.{lit<, ◌∙◌}
use Rattle.std.proofs.lemmas.Iterator.Consumers.{YieldsList-at, YieldsList-end}
use Rattle.std.proofs.lemmas.Iterator.Splits.{YieldsList-from_str_split}
use Rattle.coap_uri.specs.Addresses.{ampersand}
use Rattle.coap_uri.proofs.Segments.{plain_pieces_of}
use Rattle.coap_uri.proofs.address.arguments.Goals as goal

pub returns : goal.returns
returns c =
    let split = c.split-argument-items.ensures in
    let road = YieldsList-at c.into_iter-argument-iterator.ensures.into_iter_gives
    (YieldsList-from_str_split ampersand c.args.query.now (lit< tt) split.text split.has_more split.pattern) in
    let end = YieldsList-end road c.loop-argument.yielded _ c.loop-argument.yielded_by _ _ c.in-None.is c.next.ensures.steps in
    c.loop-argument.invariant ∙ end.0 ∙ plain_pieces_of ampersand c.args.query.now c.if-is_empty.ensures
