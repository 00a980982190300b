use Rattle.std.proofs.Common.{◌≡◌, ◌+◌, ◌∙◌, Some, ap, sym, subst, arith, rules}
use Rattle.std.specs.Prelude.{slice_get}
use Rattle.std.proofs.lemmas.Option.{slice_get-get_or}
use Rattle.fc_image.specs.Spans.{AreSpans, widened}
use Rattle.fc_image.proofs.Spanned.{none_in, spans_more, spans_none}
use Rattle.fc_image.proofs.spans.spans.Goals as goal

pub loop-slot-init : goal.loop-slot-init
loop-slot-init c = spans_none c.args.code.now _ (search rules) (none_in 1024)

pub loop-slot-preserved : goal.loop-slot-preserved
loop-slot-preserved c =
    let code = c.args.code.now in
    let slot = c.loop-slot.slot in
    let insn = c.index-code-slot.result in
    let stands : slice_get code slot ≡ Some insn = slice_get-get_or code slot insn (omega arith) ∙ ap Some (sym c.index-code-slot.is) in
    subst (AreSpans code (slot + 1)) (sym (c.widen.ensures ∙ ap (widened c.loop-slot.spans slot) c.jumps_to.ensures)) (spans_more code slot insn c.loop-slot.spans stands c.loop-slot.invariant)
