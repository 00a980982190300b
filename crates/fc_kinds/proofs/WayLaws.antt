-- If a conditional jump's preconditions hold, both its operands are numbers.
use Rattle.std.proofs.Common.{◌≡◌, ℕ, Bool, true, false, Some, List, refl, subst}
use Rattle.std.proofs.lemmas.Bool.{and_parts}
use Rattle.fc_isa.specs.declared.insn.Insn.{Insn}
use Rattle.fc_isa.specs.declared.insn.Insn.TheVariants.{JumpIf}
use Rattle.fc_isa.specs.declared.insn.Width.{Width}
use Rattle.fc_isa.specs.declared.insn.Width.TheVariants.{W64}
use Rattle.fc_isa.specs.declared.insn.Operand.{Operand}
use Rattle.fc_isa.specs.declared.insn.Operand.TheVariants.{Imm, Reg}
use Rattle.fc_kinds.specs.declared.kind.Kind.{Kind}
use Rattle.fc_kinds.specs.Kinds.{kind_at}
use Rattle.fc_kinds.specs.Transfer.{is_number, operand_kind, where_met, transfer}

abbrev pub AreNumbers : Insn → List Kind → Type 0
AreNumbers (JumpIf j) ks = (is_number (kind_at ks j.left) ≡ true) × (is_number (operand_kind W64 j.right ks) ≡ true)
AreNumbers insn ks = Unit {0}

pub met_is : (t : Bool) (ks after : List Kind) → where_met t ks ≡ Some after → (t ≡ true) × (ks ≡ after)
met_is true ks after e = (refl, cc e)
met_is false ks after e = absurd (cc e)

-- an operand that is a number at one width is a number at 64 bits
number_at : (w : Width) (o : Operand) (ks : List Kind) → is_number (operand_kind w o ks) ≡ true → is_number (operand_kind W64 o ks) ≡ true
number_at w (Imm k) ks e = refl
number_at w (Reg r) ks e = e

pub are_numbers : (vars : ℕ) (insn : Insn) (ks after : List Kind) → transfer vars insn ks ≡ Some after → AreNumbers insn after
unfolding transfer
are_numbers vars (JumpIf j) ks after e =
    let m = met_is _ ks after e in
    let b = and_parts (is_number (kind_at ks j.left)) (is_number (operand_kind j.width j.right ks)) m.0 in
    subst (AreNumbers (JumpIf j)) m.1 (b.0, number_at j.width j.right ks b.1)
are_numbers vars insn ks after e = tt
