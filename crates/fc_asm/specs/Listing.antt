-- The disassembly of a program: a line for each instruction, with the mnemonic, a space, and the
-- operands separated by `, `.
use Rattle.std.specs.Prelude.{ℕ, pos, List, [], ◌∷◌, ◌++◌, Option, Some, None, codes}
use Rattle.std.specs.Fmt.{decimal, signed_decimal}
use Rattle.std.specs.List.{flat_map}
use Rattle.fc_isa.specs.declared.insn.Insn.{Insn}
use Rattle.fc_isa.specs.declared.insn.Insn.TheVariants.{Alu, Unary, SignExtend, LoadWide, WideSecond, Load, StoreImm, Store, JumpAlways, JumpAlwaysLong, JumpIf, CallHelper, CallLocal, Exit}
use Rattle.fc_isa.specs.declared.insn.Operand.{Operand}
use Rattle.fc_isa.specs.declared.insn.Operand.TheVariants.{Imm, Reg}
use Rattle.fc_isa.specs.Encoding.{extended_bits, extended_width}
use Rattle.fc_asm.specs.declared.mnemonic.Mnemonic.{Mnemonic}
use Rattle.fc_asm.specs.declared.mnemonic.Mnemonic.TheVariants as mnemonic
use Rattle.fc_asm.specs.Names.{Text, name_of}

-- the name of a register, `r0` to `r10`.
abbrev pub register : ℕ → Text
register r = codes "r" ++ decimal r

abbrev pub operand_text : Operand → Text
operand_text (Imm k) = signed_decimal k
operand_text (Reg r) = register r

-- the mnemonic of an instruction. The second half of a wide load has none, and no line.
abbrev pub mnemonic_of : Insn → Option Mnemonic
mnemonic_of (Alu op width dst operand) = Some (mnemonic.Alu op width)
mnemonic_of (Unary op dst) = Some (mnemonic.Unary op)
mnemonic_of (SignExtend extension dst src) = Some (mnemonic.SignExtend (extended_width extension))
mnemonic_of (LoadWide dst value) = Some mnemonic.LoadWide
mnemonic_of WideSecond = None
mnemonic_of (Load loaded dst base offset) = Some (mnemonic.Load loaded)
mnemonic_of (StoreImm size base offset imm) = Some (mnemonic.StoreImm size)
mnemonic_of (Store size base offset src) = Some (mnemonic.Store size)
mnemonic_of (JumpAlways offset) = Some mnemonic.JumpAlways
mnemonic_of (JumpAlwaysLong offset) = Some mnemonic.JumpAlwaysLong
mnemonic_of (JumpIf j) = Some (mnemonic.JumpIf j.relation j.width)
mnemonic_of (CallHelper number) = Some mnemonic.CallHelper
mnemonic_of (CallLocal offset) = Some mnemonic.CallLocal
mnemonic_of Exit = Some mnemonic.Exit

-- an instruction's operands, in the order of the line.
abbrev pub operands_of : Insn → List Text
operands_of (Alu op width dst operand) = register dst ∷ operand_text operand ∷ []
operands_of (Unary op dst) = register dst ∷ []
operands_of (SignExtend extension dst src) = register dst ∷ register src ∷ signed_decimal (pos (extended_bits extension)) ∷ []
operands_of (LoadWide dst value) = register dst ∷ decimal value ∷ []
operands_of WideSecond = []
operands_of (Load loaded dst base offset) = register dst ∷ register base ∷ signed_decimal offset ∷ []
operands_of (StoreImm size base offset imm) = register base ∷ signed_decimal offset ∷ signed_decimal imm ∷ []
operands_of (Store size base offset src) = register base ∷ signed_decimal offset ∷ register src ∷ []
operands_of (JumpAlways offset) = signed_decimal offset ∷ []
operands_of (JumpAlwaysLong offset) = signed_decimal offset ∷ []
operands_of (JumpIf j) = register j.left ∷ operand_text j.right ∷ signed_decimal j.offset ∷ []
operands_of (CallHelper number) = signed_decimal number ∷ []
operands_of (CallLocal offset) = signed_decimal offset ∷ []
operands_of Exit = []

-- the text of a line after an operand.
abbrev pub rest_of_line : List Text → Text
rest_of_line [] = codes "\n"
rest_of_line (operand ∷ more) = codes ", " ++ (operand ++ rest_of_line more)

-- a line with a mnemonic and operands, including its line feed.
abbrev pub line : Mnemonic → List Text → Text
line mnemonic [] = name_of mnemonic ++ codes "\n"
line mnemonic (operand ∷ more) = name_of mnemonic ++ (codes " " ++ (operand ++ rest_of_line more))

abbrev pub line_if : Option Mnemonic → List Text → Text
line_if None operands = []
line_if (Some mnemonic) operands = line mnemonic operands

abbrev pub line_of : Insn → Text
line_of i = line_if (mnemonic_of i) (operands_of i)

unfoldable pub listing : List Insn → Text
listing program = flat_map line_of program
