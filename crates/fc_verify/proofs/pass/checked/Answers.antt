use Rattle.fc_verify.proofs.pass.checked.Goals as goal

pub returns-in-Ok-clause-kinds : goal.returns-in-Ok-clause-kinds
returns-in-Ok-clause-kinds c = c.effects_keep_kinds.ensures c.args.point.now.vars_size c.args.point.now.insn.now c.args.regs.now c.after.new.regs c.requires.insn c.requires.kinds
    c.in-Ok.ensures.after
