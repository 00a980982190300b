-- The printed form of a line's operands.
use Rattle.std.specs.Prelude.{List, [], ◌∷◌}
use Rattle.std.specs.Fmt.{decimal, signed_decimal}
use Rattle.fc_isa.specs.declared.insn.Operand.{Operand}
use Rattle.fc_isa.specs.declared.insn.Operand.TheVariants.{Imm, Reg}
use Rattle.fc_asm.specs.declared.disassembler.ShownOperand.{ShownOperand}
use Rattle.fc_asm.specs.declared.disassembler.ShownOperand.TheVariants.{Register, Number, Wide}
use Rattle.fc_asm.specs.declared.disassembler.Operands.{Operands}
use Rattle.fc_asm.specs.declared.disassembler.Operands.TheVariants.{Zero, One, Two, Three}
use Rattle.fc_asm.specs.Names.{Text}
use Rattle.fc_asm.specs.Listing.{register}

abbrev pub shown_text : ShownOperand → Text
shown_text (Register r) = register r
shown_text (Number k) = signed_decimal k
shown_text (Wide n) = decimal n

abbrev pub shown_operand : Operand → ShownOperand
shown_operand (Imm k) = Number k
shown_operand (Reg r) = Register r

abbrev pub shown_texts : Operands → List Text
shown_texts Zero = []
shown_texts (One a) = shown_text a ∷ []
shown_texts (Two a b) = shown_text a ∷ shown_text b ∷ []
shown_texts (Three a b c) = shown_text a ∷ shown_text b ∷ shown_text c ∷ []
