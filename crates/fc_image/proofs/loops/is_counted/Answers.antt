use Rattle.std.proofs.Common.{◌∙◌, sym, subst, arith}
use Rattle.fc_image.specs.Tables.{AreLow}
use Rattle.fc_image.proofs.HeadTable.{at_low}
use Rattle.fc_image.proofs.loops.is_counted.Goals as goal

pub is_undisturbed-requires-clause-order : goal.is_undisturbed-requires-clause-order
is_undisturbed-requires-clause-order c =
    (subst (AreLow c.args.slot) (sym c.loop_at.ensures ∙ c.in-Some.is) (at_low c.args.code.now c.args.slot c.args.insn.now)).order

pub is_undisturbed-requires-clause-last : goal.is_undisturbed-requires-clause-last
is_undisturbed-requires-clause-last c =
    let last = (subst (AreLow c.args.slot) (sym c.loop_at.ensures ∙ c.in-Some.is) (at_low c.args.code.now c.args.slot c.args.insn.now)).last in
    omega (arith, last, c.requires.slot)
