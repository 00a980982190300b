use Rattle.std.proofs.Common.{◌≡◌, None, Some, sym, ◌∙◌, subst}
use Rattle.std.proofs.lemmas.List.{get_or-set_same}
use Rattle.fc_kinds.specs.Containing.{AreKinds, AreShallow}
use Rattle.fc_verify.proofs.PassLaws.{settled_fit}
use Rattle.fc_verify.proofs.Levels.{settled_shallow}
use Rattle.fc_verify.proofs.pass.pass_head.Goals as goal

pub meet_demands-requires-clause-kinds : goal.meet_demands-requires-clause-kinds
meet_demands-requires-clause-kinds c = subst AreKinds (sym c.copy_from_slice.ensures.after)
    (settled_fit c.args.point.now.code.now (Some c.args.head.now) c.args.regs.now c.in-Some.kinds c.requires.counted c.requires.kinds
    (sym c.settled.ensures ∙ c.in-Some.is))

pub spread-requires-clause-levels : goal.spread-requires-clause-levels
spread-requires-clause-levels c = λ before e.
    let same : c.in-Some.kinds ≡ before = cc (get_or-set_same c.args.states.now c.args.point.now.slot (Some c.in-Some.kinds) None c.requires.here, e) in
    subst (AreShallow 1023) same
    (settled_shallow 1023 c.args.point.now.code.now (Some c.args.head.now) c.args.regs.now c.in-Some.kinds (sym c.settled.ensures ∙ c.in-Some.is)
    c.requires.levels)
