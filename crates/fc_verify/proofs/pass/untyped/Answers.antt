use Rattle.std.proofs.Common.{Option, Some, sym, ◌∙◌, ap, subst}
use Rattle.fc_image.specs.declared.loops.Loop.{Loop}
use Rattle.fc_verify.specs.Heads.{IsLoopOf, settled}
use Rattle.fc_verify.specs.Pass.{passed_by}
use Rattle.fc_verify.specs.Stages.{Stops}
use Rattle.fc_verify.proofs.PassLaws.{settled_fit}
use Rattle.fc_verify.proofs.Stopping.{passed_none, settled_none, stops_at}
use Rattle.fc_verify.proofs.pass.untyped.Goals as goal

pub at_insn-requires-clause-kinds : goal.at_insn-requires-clause-kinds
at_insn-requires-clause-kinds c =
    let w = c.in-Some in
    settled_fit c.args.point.now.code.now (Some w.counted) c.args.regs.now c.in-Some-settled.kinds (subst (IsLoopOf c.args.point.now.code.now) w.is c.requires.counted)
    c.requires.kinds (sym c.settled.ensures ∙ c.in-Some-settled.is)

pub at_insn-requires-in-None-clause-refused : goal.at_insn-requires-in-None-clause-refused
at_insn-requires-in-None-clause-refused c =
    let r = c.requires.refused in
    let by : Option Loop → _ = λ o. passed_by c.args.point.now.vars_size c.args.point.now.code.now o c.args.point.now.inside c.args.point.now.slot c.args.point.now.insn.now c.args.regs.now r.0 in (
      r.0,
      sym (passed_none c.args.point.now.vars_size c.args.point.now.code.now c.args.point.now.inside c.args.point.now.slot c.args.point.now.insn.now c.args.regs.now r.0)
          ∙ sym (ap by c.in-None.is) ∙ r.1,
    )

pub returns-in-Some-settled-clause-stops : goal.returns-in-Some-settled-clause-stops
returns-in-Some-settled-clause-stops c =
    let u = c.at_insn.result in
    stops_at c.args.point.now.vars_size c.args.point.now.code.now c.args.point.now.beginning.now c.args.point.now.inside c.args.point.now.insn.now c.args.regs.now c.in-Some-settled.kinds u.known u.demand
    (ap (λ (o : Option Loop). settled c.args.point.now.code.now o c.args.regs.now) c.in-Some.is ∙ sym c.settled.ensures ∙ c.in-Some-settled.is)
    c.at_insn.ensures.known c.at_insn.ensures.fails

pub returns-in-None-settled-clause-stops : goal.returns-in-None-settled-clause-stops
returns-in-None-settled-clause-stops c =
    let u = c.at_head.result in
    subst (λ (o : Option Loop). Stops c.args.point.now.vars_size c.args.point.now.code.now o c.args.point.now.inside c.args.point.now.insn.now c.args.regs.now u.known u.demand)
    (sym c.in-Some.is) (c.at_head.ensures.stops c.args.point.now.inside)

pub returns-in-None-clause-stops : goal.returns-in-None-clause-stops
returns-in-None-clause-stops c =
    let at = c.at_insn-in-None in
    let u = at.result in
    stops_at c.args.point.now.vars_size c.args.point.now.code.now c.args.point.now.beginning.now c.args.point.now.inside c.args.point.now.insn.now c.args.regs.now c.args.regs.now u.known u.demand
    (ap (λ (o : Option Loop). settled c.args.point.now.code.now o c.args.regs.now) c.in-None.is ∙ settled_none c.args.point.now.code.now c.args.regs.now)
    at.ensures.known at.ensures.fails
