use Rattle.std.proofs.Common.{sym, ap, subst, ◌∙◌, Ok}
use Rattle.std.specs.Prelude.{FitsSigned}
use Rattle.std.proofs.lemmas.Int.{to_z-of_z}
use Rattle.fc_asm.proofs.Numbers.{imm_no, imm_parsed, imm_unparsed}
use Rattle.fc_asm.proofs.operand.imm.Goals as goal
use mir.Syntax.{w32}

pub returns-then-not-writes_number : goal.returns-then-not-writes_number
returns-then-not-writes_number c = sym (imm_no c.args.word.now (sym c.if-not-writes_number.ensures))

pub returns-in-Ok : goal.returns-in-Ok
returns-in-Ok c =
    let read = c.in-Ok.ensures.value.0 in
    ap Ok (to_z-of_z w32 c.in-Ok.value (subst (λ z. FitsSigned w32 z) (sym read.1) read.0.1))
    ∙ sym (imm_parsed c.args.word.now c.parse.result c.in-Ok.value (sym c.if-not-writes_number.ensures) c.parse.ensures.value.0 c.in-Ok.is)

pub returns-in-Err : goal.returns-in-Err
returns-in-Err c = sym (imm_unparsed c.args.word.now c.parse.result c.in-Err.field-0 (sym c.if-not-writes_number.ensures) c.parse.ensures.value.0 c.in-Err.is)
