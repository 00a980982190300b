-- The registers that an instruction reads: their abstract values decide its preconditions.
use Rattle.std.specs.Prelude.{◌≡◌, ℕ, ℤ, List, [], ◌∷◌, Option, Some, None, is_some}
use Rattle.fc_isa.specs.declared.insn.Insn.{Insn}
use Rattle.fc_isa.specs.declared.insn.Insn.TheVariants.{Alu, Unary, SignExtend, Load, StoreImm, Store, JumpIf, CallHelper, Exit}
use Rattle.fc_isa.specs.declared.insn.AluOp.{AluOp}
use Rattle.fc_isa.specs.declared.insn.AluOp.TheVariants.{Mov}
use Rattle.fc_isa.specs.declared.insn.Operand.{Operand}
use Rattle.fc_isa.specs.declared.insn.Operand.TheVariants.{Imm, Reg}
use Rattle.fc_help.specs.declared.helper.Helper.{Helper}
use Rattle.fc_help.specs.declared.helper.Arguments.{Arguments}
use Rattle.fc_help.specs.declared.helper.Arguments.TheVariants.{NoArgument, OneNumber, TwoNumbers, Bytes}
use Rattle.fc_help.specs.Helpers.{helper_of, signature_of}
use Rattle.fc_kinds.specs.declared.kind.Kind.{Kind}
use Rattle.fc_kinds.specs.Kinds.{kind_at}
use Rattle.fc_kinds.specs.Transfer.{transfer}
use Rattle.fc_tools.specs.declared.reads.Reads.{Reads}
use Rattle.fc_tools.specs.declared.reads.Reads.TheVariants.{Nothing, One, Two}

abbrev pub registers_in : Reads → List ℕ
registers_in Nothing = []
registers_in (One a) = a ∷ []
registers_in (Two a b) = a ∷ b ∷ []

abbrev pub operand_read : Operand → List ℕ
operand_read (Imm k) = []
operand_read (Reg r) = r ∷ []

abbrev pub read_with : ℕ → Operand → List ℕ
read_with first operand = first ∷ operand_read operand

-- R1, or R1 and R2, for a helper's arguments.
abbrev pub argument_list : Arguments → List ℕ
argument_list NoArgument = []
argument_list OneNumber = 1 ∷ []
argument_list TwoNumbers = 1 ∷ 2 ∷ []
argument_list Bytes = 1 ∷ 2 ∷ []

abbrev pub helper_reads : Option Helper → List ℕ
helper_reads None = []
helper_reads (Some helper) = argument_list (signature_of helper).arguments

abbrev pub arguments_read : ℤ → List ℕ
arguments_read number = helper_reads (helper_of number)

-- a move reads only its operand.
abbrev pub arithmetic_reads : AluOp → ℕ → Operand → List ℕ
arithmetic_reads Mov dst operand = operand_read operand
arithmetic_reads op dst operand = read_with dst operand

-- the registers that an instruction reads.
abbrev pub read_by : Insn → List ℕ
read_by (Alu op width dst operand) = arithmetic_reads op dst operand
read_by (Unary op dst) = dst ∷ []
read_by (SignExtend extension dst src) = src ∷ []
read_by (Load loaded dst base offset) = base ∷ []
read_by (StoreImm size base offset imm) = base ∷ []
read_by (Store size base offset src) = base ∷ src ∷ []
read_by (JumpIf j) = read_with j.left j.right
read_by (CallHelper number) = arguments_read number
read_by Exit = 0 ∷ []
read_by other = []

-- these registers have the same abstract values in both states.
abbrev pub AreSame : List ℕ → List Kind → List Kind → Type 0
AreSame [] before other = Unit {0}
AreSame (r ∷ more) before other = (kind_at before r ≡ kind_at other r) × AreSame more before other

-- the abstract values of the registers that an instruction reads decide whether its preconditions
-- hold.
abbrev pub ReadsDecide : Type 0
ReadsDecide =
    (vars : ℕ) (insn : Insn) (before other : List Kind) → AreSame (read_by insn) before other
    → is_some (transfer vars insn before) ≡ is_some (transfer vars insn other)
