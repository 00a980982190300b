-- The opcodes and the fields that each uses (RFC 9669, sections 3 to 5): class, code and source
-- bit, or class, size and mode.
use Rattle.std.specs.Prelude.{ℕ, ◌+◌, ◌*◌, ◌==◌, not, Bool, true, false, List, [], ◌∷◌, ◌++◌, map, Option, Some, None}
use Rattle.std.specs.List.{flat_map, find}
use Rattle.fc_isa.specs.declared.insn.Width.{Width}
use Rattle.fc_isa.specs.declared.insn.Width.TheVariants.{W32, W64}
use Rattle.fc_isa.specs.declared.insn.AluOp.{AluOp}
use Rattle.fc_isa.specs.declared.insn.AluOp.TheVariants.{Add, Sub, Mul, Div, Or, And, Lsh, Rsh, Mod, Xor, Mov, Arsh, Sdiv, Smod}
use Rattle.fc_isa.specs.declared.insn.Relation.{Relation}
use Rattle.fc_isa.specs.declared.insn.Relation.TheVariants.{Eq, Gt, Ge, Set, Ne, Sgt, Sge, Lt, Le, Slt, Sle}
use Rattle.fc_isa.specs.declared.insn.Size.{Size}
use Rattle.fc_isa.specs.declared.insn.Size.TheVariants.{Byte, HalfWord, Word, DoubleWord}
use Rattle.fc_isa.specs.declared.insn.LoadType.{LoadType}
use Rattle.fc_isa.specs.declared.insn.LoadType.TheVariants.{Unsigned, SignedByte, SignedHalfWord, SignedWord}
use Rattle.fc_isa.specs.declared.insn.ByteOrder.{ByteOrder}
use Rattle.fc_isa.specs.declared.insn.ByteOrder.TheVariants.{Little, Big, Swapped}
use Rattle.fc_isa.specs.declared.shape.SourceOperand.{SourceOperand}
use Rattle.fc_isa.specs.declared.shape.SourceOperand.TheVariants.{K, X}
use Rattle.fc_isa.specs.declared.shape.Shape.{Shape}
use Rattle.fc_isa.specs.declared.shape.Uses.{Uses}
use Rattle.fc_isa.specs.declared.shape.Shape.TheVariants.{Unknown, Alu, Neg, End, LoadWide, Load, StoreImm, Store, JumpAlways, JumpAlwaysLong, JumpIf, Call, Exit}

-- ---- the opcode of a form

-- the classes of arithmetic: ALU and ALU64 (3.3).
abbrev pub alu_class : Width → ℕ
alu_class W32 = 4
alu_class W64 = 7

-- the classes of jumps: JMP32 and JMP.
abbrev pub jump_class : Width → ℕ
jump_class W32 = 6
jump_class W64 = 5

-- the codes of arithmetic (4.1); the offset distinguishes signed division and modulo.
abbrev pub alu_code : AluOp → ℕ
alu_code Add = 0
alu_code Sub = 1
alu_code Mul = 2
alu_code Div = 3
alu_code Sdiv = 3
alu_code Or = 4
alu_code And = 5
alu_code Lsh = 6
alu_code Rsh = 7
alu_code Mod = 9
alu_code Smod = 9
alu_code Xor = 10
alu_code Mov = 11
alu_code Arsh = 12

-- the codes of conditional jumps (4.3).
abbrev pub jump_code : Relation → ℕ
jump_code Eq = 1
jump_code Gt = 2
jump_code Ge = 3
jump_code Set = 4
jump_code Ne = 5
jump_code Sgt = 6
jump_code Sge = 7
jump_code Lt = 10
jump_code Le = 11
jump_code Slt = 12
jump_code Sle = 13

-- the source bit (4).
abbrev pub source_bit : SourceOperand → ℕ
source_bit K = 0
source_bit X = 8

-- an opcode of arithmetic or a jump: code, source bit, class.
abbrev pub coded : ℕ → SourceOperand → ℕ → ℕ
coded code source class = 16 * code + source_bit source + class

-- the sizes of loads and stores (5).
abbrev pub size_bits : Size → ℕ
size_bits Word = 0
size_bits HalfWord = 8
size_bits Byte = 16
size_bits DoubleWord = 24

-- an opcode of a load or store: mode (0 IMM, 3 MEM, 4 MEMSX), size, class (0 LD, 1 LDX, 2 ST, 3
-- STX).
abbrev pub sized : ℕ → Size → ℕ → ℕ
sized mode size class = 32 * mode + size_bits size + class

abbrev pub load_opcode : LoadType → ℕ
load_opcode (Unsigned size) = sized 3 size 1
load_opcode SignedByte = sized 4 Byte 1
load_opcode SignedHalfWord = sized 4 HalfWord 1
load_opcode SignedWord = sized 4 Word 1

-- a byte swap has code 13: its source bit is the byte order, and class ALU64 always swaps (4.2).
abbrev pub end_opcode : ByteOrder → ℕ
end_opcode Little = coded 13 K (alu_class W32)
end_opcode Big = coded 13 X (alu_class W32)
end_opcode Swapped = coded 13 K (alu_class W64)

-- the opcode of each form; the unknown form has an opcode that no known form has.
abbrev pub opcode_of : Shape → ℕ
opcode_of (Alu op width source) = coded (alu_code op) source (alu_class width)
opcode_of (Neg width) = coded 8 K (alu_class width)
opcode_of (End order) = end_opcode order
opcode_of LoadWide = sized 0 DoubleWord 0
opcode_of (Load loaded) = load_opcode loaded
opcode_of (StoreImm size) = sized 3 size 2
opcode_of (Store size) = sized 3 size 3
opcode_of JumpAlways = coded 0 K (jump_class W64)
opcode_of JumpAlwaysLong = coded 0 K (jump_class W32)
opcode_of (JumpIf width relation source) = coded (jump_code relation) source (jump_class width)
opcode_of Call = coded 8 K (jump_class W64)
opcode_of Exit = coded 9 K (jump_class W64)
opcode_of Unknown = 255

-- ---- the form of an opcode

abbrev pub operations : List AluOp
operations = Add ∷ Sub ∷ Mul ∷ Div ∷ Or ∷ And ∷ Lsh ∷ Rsh ∷ Mod ∷ Xor ∷ Mov ∷ Arsh ∷ []

abbrev pub relations : List Relation
relations = Eq ∷ Gt ∷ Ge ∷ Set ∷ Ne ∷ Sgt ∷ Sge ∷ Lt ∷ Le ∷ Slt ∷ Sle ∷ []

abbrev pub sizes : List Size
sizes = Byte ∷ HalfWord ∷ Word ∷ DoubleWord ∷ []

-- a form with both widths and both sources.
abbrev pub of_both : (Width → SourceOperand → Shape) → List Shape
of_both form = form W32 K ∷ form W32 X ∷ form W64 K ∷ form W64 X ∷ []

-- all forms of instructions.
unfoldable pub known_shapes : List Shape
known_shapes =
    flat_map (λ op. of_both (λ width source. Alu op width source)) operations
    ++ flat_map (λ relation. of_both (λ width source. JumpIf width relation source)) relations
    ++ map (λ size. Load (Unsigned size)) sizes
    ++ map Load (SignedByte ∷ SignedHalfWord ∷ SignedWord ∷ [])
    ++ map StoreImm sizes
    ++ map Store sizes
    ++ map Neg (W32 ∷ W64 ∷ [])
    ++ map End (Little ∷ Big ∷ Swapped ∷ [])
    ++ LoadWide ∷ JumpAlways ∷ JumpAlwaysLong ∷ Call ∷ Exit ∷ []

abbrev pub or_unknown : Option Shape → Shape
or_unknown (Some shape) = shape
or_unknown None = Unknown

-- the form with this opcode, or `Unknown` if no form has it.
unfoldable pub shape_of : ℕ → Shape
shape_of opcode = or_unknown (find (λ shape. opcode_of shape == opcode) known_shapes)

abbrev pub is_known : Shape → Bool
is_known Unknown = false
is_known shape = true

-- a wide load occupies two slots.
abbrev pub is_wide : Shape → Bool
is_wide LoadWide = true
is_wide shape = false

-- ---- the fields that a form uses

abbrev pub is_register : SourceOperand → Bool
is_register K = false
is_register X = true

-- an arithmetic operation uses the offset for division and modulo, and for a move of a register.
abbrev pub alu_uses_offset : AluOp → SourceOperand → Bool
alu_uses_offset Div source = true
alu_uses_offset Mod source = true
alu_uses_offset Mov source = is_register source
alu_uses_offset op source = false

abbrev pub used : Bool → Bool → Bool → Bool → Uses
used dst src offset imm = record { dst = dst; src = src; offset = offset; imm = imm }

-- the use of dst, src, offset and imm by each form. If the second operand isn't a register, it is
-- the immediate.
abbrev pub uses : Shape → Uses
uses (Alu op width source) = used true (is_register source) (alu_uses_offset op source) (not (is_register source))
uses (Neg width) = used true false false false
uses (End order) = used true false false true
uses JumpAlways = used false false true false
uses JumpAlwaysLong = used false false false true
uses (JumpIf width relation source) = used true (is_register source) true (not (is_register source))
uses Call = used false true false true
uses Exit = used false false false false
uses LoadWide = used true false false true
uses (Load loaded) = used true true true false
uses (StoreImm size) = used true false true true
uses (Store size) = used true true true false
uses Unknown = used false false false false

-- classes LD, LDX, ALU and ALU64 write their destination; stores and jumps read it.
abbrev pub writes_dst : Shape → Bool
writes_dst (Alu op width source) = true
writes_dst (Neg width) = true
writes_dst (End order) = true
writes_dst LoadWide = true
writes_dst (Load loaded) = true
writes_dst shape = false
