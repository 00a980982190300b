use Rattle.std.proofs.Common.{ap, sym, ◌∙◌}
use Rattle.coap_block.specs.Cuts.{cut_of}
use Rattle.coap_block.specs.Views.{cut_seen}
use Rattle.coap_reply.proofs.Within1024.{cut_within}
use Rattle.coap_reply.proofs.block.BodyBlock.cut.Goals as goal

-- src/block.rt:43:24
pub invariant_of-result : goal.invariant_of-result
invariant_of-result c = cut_within c.args.asked c.args.body.now _ (ap (cut_of c.args.body.now) (sym c.asked_block.ensures) ∙ (sym c.slice.ensures ∙ ap cut_seen c.in-Ok.is))
