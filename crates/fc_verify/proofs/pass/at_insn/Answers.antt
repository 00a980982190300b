use Rattle.std.proofs.Common.{sym, subst}
use Rattle.fc_verify.specs.Stages.{GivesNoNumber, NoNumber}
use Rattle.fc_verify.proofs.pass.at_insn.Goals as goal

pub returns-in-Some-clause-fails : goal.returns-in-Some-clause-fails
returns-in-Some-clause-fails c = NoNumber c.checked.new.regs c.in-Ok.ensures.after
    (subst (GivesNoNumber c.args.point.now.inside c.args.point.now.insn.now c.checked.new.regs) (sym c.against_loop.ensures.demand) c.in-Some.ensures)
