use Rattle.std.proofs.Common.{◌≡◌, None, Some, refl, sym, ◌∙◌, subst}
use Rattle.fc_kinds.specs.Containing.{AreKinds}
use Rattle.fc_kinds.specs.Transfer.{transfer}
use Rattle.fc_verify.specs.Stages.{AtHead, AtEntry}
use Rattle.fc_verify.proofs.Heads.{formed_kinds}
use Rattle.fc_verify.proofs.PassLaws.{sound_of}
use Rattle.fc_verify.proofs.pass.at_head.Goals as goal

pub checked-requires-clause-kinds : goal.checked-requires-clause-kinds
checked-requires-clause-kinds c = subst AreKinds (sym c.formed-turned.ensures) (formed_kinds c.args.point.now.code.now c.args.counted.now c.args.regs.now
    (sound_of c.args.point.now.code.now c.args.counted.now c.requires.counted) c.requires.kinds)

pub returns-in-Ok-clause-stops : goal.returns-in-Ok-clause-stops
returns-in-Ok-clause-stops c = λ inside. AtEntry c.args.counted.now c.checked.new.regs refl c.requires.outside c.against_loop.ensures.known
    (subst (λ ks. transfer c.args.point.now.vars_size c.args.point.now.insn.now ks ≡ Some c.checked.new.regs) c.formed-turned.ensures c.in-Ok.ensures.after)
    c.against_loop.ensures.demand

pub returns-in-Err-clause-stops : goal.returns-in-Err-clause-stops
returns-in-Err-clause-stops c = λ inside. AtHead c.args.counted.now refl c.requires.outside (c.in-Err.ensures.known ∙ c.formed-turned.ensures)
    (subst (λ ks. transfer c.args.point.now.vars_size c.args.point.now.insn.now ks ≡ None) (sym c.in-Err.ensures.known) c.in-Err.ensures.refused) c.in-Err.ensures.demand
