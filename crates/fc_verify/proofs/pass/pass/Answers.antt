use Rattle.std.proofs.Common.{Option, ◌∙◌, ap}
use Rattle.fc_image.specs.declared.loops.Loop.{Loop}
use Rattle.fc_verify.specs.Pass.{passed_by}
use Rattle.fc_verify.proofs.Stopping.{passed_none}
use Rattle.fc_verify.proofs.pass.pass.Goals as goal

pub returns-in-None-clause-met : goal.returns-in-None-clause-met
returns-in-None-clause-met c = λ t.
    let a = c.args.point.now in
    let by : Option Loop → _ = λ o. passed_by a.vars_size a.code.now o a.inside a.slot a.insn.now c.args.regs.now c.args.states.now in
    ap by c.in-None.is ∙ passed_none a.vars_size a.code.now a.inside a.slot a.insn.now c.args.regs.now c.args.states.now ∙ c.pass_on.ensures.met t

pub returns-in-None-clause-refused : goal.returns-in-None-clause-refused
returns-in-None-clause-refused c = λ t.
    let a = c.args.point.now in
    let by : Option Loop → _ = λ o. passed_by a.vars_size a.code.now o a.inside a.slot a.insn.now c.args.regs.now c.args.states.now in
    ap by c.in-None.is ∙ passed_none a.vars_size a.code.now a.inside a.slot a.insn.now c.args.regs.now c.args.states.now ∙ c.pass_on.ensures.refused t
