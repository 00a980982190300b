-- The encoding of a program as bytes (RFC 9669, sections 3 to 5): eight bytes for each slot,
-- numbers with the least significant byte first.
use Rattle.std.specs.Prelude.{◌≡◌, ℕ, zero, suc, ◌+◌, ◌*◌, ◌/◌, ◌%◌, ◌^◌, ◌<◌, ◌==◌, ◌&&◌, ◌||◌, not, Bool, true, false, nat_lt, nat_le, if◌then◌else◌, List, [], ◌∷◌, ◌++◌, length, take, drop, find, All, Option, Some, None, slice_index}
use Rattle.std.specs.Int.{w16, w32, cast_unsigned, cast_signed, to_le_bytes, from_le_bytes}
use Rattle.std.specs.List.{flat_map}
use Rattle.fc_isa.specs.declared.insn.Width.{Width}
use Rattle.fc_isa.specs.declared.insn.Width.TheVariants.{W32, W64}
use Rattle.fc_isa.specs.declared.insn.AluOp.{AluOp}
use Rattle.fc_isa.specs.declared.insn.AluOp.TheVariants.{Div, Mod, Mov, Sdiv, Smod}
use Rattle.fc_isa.specs.declared.insn.Operand.{Operand}
use Rattle.fc_isa.specs.declared.insn.Operand.TheVariants.{Imm, Reg}
use Rattle.fc_isa.specs.declared.insn.UnaryOp.{UnaryOp}
use Rattle.fc_isa.specs.declared.insn.UnaryOp.TheVariants.{Neg, End}
use Rattle.fc_isa.specs.declared.insn.SignExtension.{SignExtension}
use Rattle.fc_isa.specs.declared.insn.SignExtension.TheVariants.{Byte, HalfWord, Word}
use Rattle.fc_isa.specs.declared.insn.SwapWidth.{SwapWidth}
use Rattle.fc_isa.specs.declared.insn.SwapWidth.TheVariants.{S16, S32, S64}
use Rattle.fc_isa.specs.declared.insn.Insn.{Insn}
use Rattle.fc_isa.specs.declared.insn.Insn.TheVariants.{Alu, Unary, SignExtend, LoadWide, WideSecond, Load, StoreImm, Store, JumpAlways, JumpAlwaysLong, JumpIf, CallHelper, CallLocal, Exit}
use Rattle.fc_isa.specs.declared.shape.SourceOperand.{SourceOperand}
use Rattle.fc_isa.specs.declared.shape.SourceOperand.TheVariants.{K, X}
use Rattle.fc_isa.specs.declared.shape.Shape.{Shape}
use Rattle.fc_isa.specs.declared.shape.Shape.TheVariants as shapes
use Rattle.fc_isa.specs.declared.rule.Rule.{Rule}
use Rattle.fc_isa.specs.declared.rule.Rule.TheVariants.{Opcode, Register, FramePointer, Field, WideLoad}
use Rattle.fc_isa.specs.declared.decoder.DecodeError.{DecodeError}
use Rattle.fc_isa.specs.declared.decoder.DecodeError.TheVariants.{Fault, NoMemory}
use Rattle.fc_isa.specs.Shapes.{opcode_of, shape_of, is_known, is_wide, uses, writes_dst}
use Rattle.fc_isa.specs.Program.{IsInsn, is_program}

-- the fields of a slot (3.1); offset and imm are unsigned numbers.
pub record Fields : Type 0 where
  pub opcode : ℕ
  pub dst : ℕ
  pub src : ℕ
  pub offset : ℕ
  pub imm : ℕ

-- the eight bytes of a slot: the opcode; a byte of two registers, the destination in its low four
-- bits; the offset; the immediate.
abbrev pub bytes_of_fields : Fields → List ℕ
bytes_of_fields f = f.opcode ∷ (16 * f.src + f.dst) ∷ (to_le_bytes w16 f.offset ++ to_le_bytes w32 f.imm)

-- ---- the encoding of a program

-- the source of an operand: the immediate (K) or the source register (X).
abbrev pub source_of : Operand → SourceOperand
source_of (Imm k) = K
source_of (Reg r) = X

abbrev pub src_of : Operand → ℕ
src_of (Imm k) = 0
src_of (Reg r) = r

abbrev pub imm_of : Operand → ℕ
imm_of (Imm k) = cast_unsigned w32 k
imm_of (Reg r) = 0

-- the offset of an operation: 1 for signed division and modulo (4.1), else 0.
abbrev pub sign_offset : AluOp → ℕ
sign_offset Sdiv = 1
sign_offset Smod = 1
sign_offset op = 0

-- a move with sign extension is a move with the number of bits as its offset (4.1).
abbrev pub extended_bits : SignExtension → ℕ
extended_bits (Byte width) = 8
extended_bits (HalfWord width) = 16
extended_bits Word = 32

abbrev pub extended_width : SignExtension → Width
extended_width (Byte width) = width
extended_width (HalfWord width) = width
extended_width Word = W64

-- the imm of a byte-order change: the number of bits (4.2).
abbrev pub swap_bits : SwapWidth → ℕ
swap_bits S16 = 16
swap_bits S32 = 32
swap_bits S64 = 64

-- the form of an operation on one register.
abbrev pub unary_shape : UnaryOp → Shape
unary_shape (Neg width) = shapes.Neg width
unary_shape (End order width) = shapes.End order

-- the imm of an operation on one register; only a byte-order change uses it.
abbrev pub unary_imm : UnaryOp → ℕ
unary_imm (End order width) = swap_bits width
unary_imm op = 0

abbrev pub fields : Shape → ℕ → ℕ → ℕ → ℕ → Fields
fields shape dst src offset imm = record { opcode = opcode_of shape; dst = dst; src = src; offset = offset; imm = imm }

-- the fields of an instruction's first slot, in the order opcode, dst, src, offset, imm. A second
-- half has zeros here: `second_half` has its fields.
abbrev pub fields_of : Insn → Fields
fields_of (Alu op width dst operand) = fields (shapes.Alu op width (source_of operand)) dst (src_of operand) (sign_offset op) (imm_of operand)
fields_of (Unary op dst) = fields (unary_shape op) dst 0 0 (unary_imm op)
fields_of (SignExtend extension dst src) = fields (shapes.Alu Mov (extended_width extension) X) dst src (extended_bits extension) 0
fields_of (LoadWide dst value) = fields shapes.LoadWide dst 0 0 (value % 2 ^ 32)
fields_of WideSecond = record { opcode = 0; dst = 0; src = 0; offset = 0; imm = 0 }
fields_of (Load loaded dst base offset) = fields (shapes.Load loaded) dst base (cast_unsigned w16 offset) 0
fields_of (StoreImm size base offset imm) = fields (shapes.StoreImm size) base 0 (cast_unsigned w16 offset) (cast_unsigned w32 imm)
fields_of (Store size base offset src) = fields (shapes.Store size) base src (cast_unsigned w16 offset) 0
fields_of (JumpAlways offset) = fields shapes.JumpAlways 0 0 (cast_unsigned w16 offset) 0
fields_of (JumpAlwaysLong offset) = fields shapes.JumpAlwaysLong 0 0 0 (cast_unsigned w32 offset)
fields_of (JumpIf j) =
    fields (shapes.JumpIf j.width j.relation (source_of j.right)) j.left (src_of j.right) (cast_unsigned w16 j.offset) (imm_of j.right)
fields_of (CallHelper number) = fields shapes.Call 0 0 0 (cast_unsigned w32 number)
fields_of (CallLocal offset) = fields shapes.Call 0 1 0 (cast_unsigned w32 offset)
fields_of Exit = fields shapes.Exit 0 0 0 0

-- the second slot of a wide load: 32 zero bits, then the high half of its value (3.2).
abbrev pub second_half : ℕ → Fields
second_half high = record { opcode = 0; dst = 0; src = 0; offset = 0; imm = high }

-- the slots of an instruction. A wide load has both its slots, and the second half therefore none.
abbrev pub insn_slots : Insn → List Fields
insn_slots (LoadWide dst value) = fields_of (LoadWide dst value) ∷ second_half (value / 2 ^ 32) ∷ []
insn_slots WideSecond = []
insn_slots insn = fields_of insn ∷ []

-- the bytes of a program.
abbrev pub encoded : List Insn → List ℕ
encoded [] = []
encoded (insn ∷ program) = flat_map bytes_of_fields (insn_slots insn) ++ encoded program

-- the bytes are the encoding of a program.
pub record Spells (bytes : List ℕ) (program : List Insn) : Type 0 where
  pub bytes_are : bytes ≡ encoded program
  pub insns : All IsInsn program
  pub whole : is_program program ≡ true

-- ---- the faults of bytes that encode no program

-- the fields in eight bytes.
abbrev pub read_fields : List ℕ → Fields
read_fields bs = record {
  opcode = slice_index bs 0;
  dst = slice_index bs 1 % 16;
  src = slice_index bs 1 / 16;
  offset = from_le_bytes w16 (take 2 (drop 2 bs));
  imm = from_le_bytes w32 (take 4 (drop 4 bs));
}

abbrev pub fields_at : List ℕ → ℕ → Fields
fields_at bytes slot = read_fields (take 8 (drop (8 * slot) bytes))

-- the slot lies wholly within the bytes.
abbrev pub is_whole : List ℕ → ℕ → Bool
is_whole bytes slot = nat_le (8 * slot + 8) (length bytes)

-- the slot's fields, if it lies wholly within the bytes.
abbrev pub whole_fields_at : List ℕ → ℕ → Option Fields
whole_fields_at bytes slot = if is_whole bytes slot then Some (fields_at bytes slot) else None

-- the fields that an opcode doesn't use are zero.
abbrev pub unused_are_zero : Shape → Fields → Bool
unused_are_zero shape f =
    (((uses shape).dst || (f.dst == 0)) && ((uses shape).src || (f.src == 0)))
    && (((uses shape).offset || (f.offset == 0)) && ((uses shape).imm || (f.imm == 0)))

-- a move's offset is 0 or the number of bits that it extends; 32 is for the 64-bit width only.
abbrev pub is_move_offset : Width → ℕ → Bool
is_move_offset W32 offset = ((offset == 0) || (offset == 8)) || (offset == 16)
is_move_offset W64 offset = ((offset == 0) || (offset == 8)) || ((offset == 16) || (offset == 32))

abbrev pub alu_values_allowed : AluOp → Width → SourceOperand → ℕ → Bool
alu_values_allowed Div width source offset = (offset == 0) || (offset == 1)
alu_values_allowed Mod width source offset = (offset == 0) || (offset == 1)
alu_values_allowed Mov width X offset = is_move_offset width offset
alu_values_allowed op width source offset = true

-- the fields that an opcode uses have allowed values.
abbrev pub values_allowed : Shape → Fields → Bool
values_allowed (shapes.Alu op width source) f = alu_values_allowed op width source f.offset
values_allowed (shapes.End order) f = ((f.imm == 16) || (f.imm == 32)) || (f.imm == 64)
values_allowed shapes.Call f = (f.src == 0) || (f.src == 1)
values_allowed shape f = true

-- a wide load's second slot exists, and has nothing but an immediate.
abbrev pub is_second_half : Option Fields → Bool
is_second_half (Some f) = ((f.opcode == 0) && (f.dst == 0)) && ((f.src == 0) && (f.offset == 0))
is_second_half None = false

-- the fields `f` of a slot break the rule. Only a wide load depends on the next slot's fields.
abbrev pub breaks : Fields → Option Fields → Rule → Bool
breaks f next Opcode = not (is_known (shape_of f.opcode))
breaks f next Register = nat_lt 10 f.dst || nat_lt 10 f.src
breaks f next FramePointer = writes_dst (shape_of f.opcode) && (f.dst == 10)
breaks f next Field = not (unused_are_zero (shape_of f.opcode) f && values_allowed (shape_of f.opcode) f)
breaks f next WideLoad = is_wide (shape_of f.opcode) && not (is_second_half next)
breaks f next other = false

-- the rules of a slot, the least number first.
abbrev pub slot_rules : List Rule
slot_rules = Opcode ∷ Register ∷ FramePointer ∷ Field ∷ WideLoad ∷ []

-- the least rule that the fields break.
abbrev pub slot_fault : Fields → Option Fields → Option Rule
slot_fault f next = find (breaks f next) slot_rules

-- every slot with this opcode breaks the opcode rule first, whatever its other fields are.
abbrev pub BreaksOpcodeFirst : ℕ → Type 0
BreaksOpcodeFirst opcode = (f : Fields) (next : Option Fields) → f.opcode ≡ opcode → slot_fault f next ≡ Some Opcode

-- a slot is a second half if the slot before it is a wide load and isn't itself a second half.
abbrev pub is_second : List ℕ → ℕ → Bool
is_second bytes zero = false
is_second bytes (suc slot) = is_wide (shape_of (fields_at bytes slot).opcode) && not (is_second bytes slot)

-- the least rule that a slot breaks. A second half breaks none, since the wide load before it is
-- checked with it. Fewer than eight bytes at the end break rule 10.
unfoldable pub fault_at : List ℕ → ℕ → Option Rule
fault_at bytes slot =
    if is_whole bytes slot
    then (if is_second bytes slot then None else slot_fault (fields_at bytes slot) (whole_fields_at bytes (slot + 1)))
    else (if nat_lt (8 * slot) (length bytes) then Some WideLoad else None)

-- the first slot that breaks a rule, with the least rule that it breaks.
pub record IsFirstFault (bytes : List ℕ) (rule : Rule) (slot : ℕ) : Type 0 where
  pub broken : fault_at bytes slot ≡ Some rule
  pub before : (k : ℕ) → k < slot → fault_at bytes k ≡ None

abbrev pub IsDecodeError : List ℕ → DecodeError → Type 0
IsDecodeError bytes (Fault f) = IsFirstFault bytes f.rule f.slot
IsDecodeError bytes NoMemory = Unit {0}

-- the place that was found already, or else place n if it has a value.
abbrev pub or_at : {A : Type 0} → Option (ℕ × A) → ℕ → Option A → Option (ℕ × A)
or_at (Some x) n a = Some x
or_at None n None = None
or_at None n (Some a) = Some (n, a)

-- the first place below n at which f has a value, with that value.
abbrev pub first_some : {A : Type 0} → (ℕ → Option A) → ℕ → Option (ℕ × A)
first_some f zero = None
first_some f (suc n) = or_at (first_some f n) n (f n)

-- the first slot that breaks a rule, with the least rule that it breaks.
unfoldable pub first_fault : List ℕ → Option (ℕ × Rule)
first_fault bytes = first_some (fault_at bytes) (length bytes / 8 + 1)

-- ---- the program that bytes without a fault encode

abbrev pub operand_of : SourceOperand → Fields → Operand
operand_of K f = Imm (cast_signed w32 f.imm)
operand_of X f = Reg f.src

-- the operation with this offset: division and modulo are signed if the offset isn't zero.
abbrev pub signed_by : ℕ → AluOp → AluOp
signed_by offset Div = if offset == 0 then Div else Sdiv
signed_by offset Mod = if offset == 0 then Mod else Smod
signed_by offset op = op

-- a move of a register sign-extends as many bits as the offset gives; with offset 0 it is a plain
-- move.
abbrev pub move_insn : Width → Fields → Insn
move_insn width f =
    if f.offset == 0 then Alu Mov width f.dst (Reg f.src)
    else (if f.offset == 8 then SignExtend (Byte width) f.dst f.src
    else (if f.offset == 16 then SignExtend (HalfWord width) f.dst f.src
    else SignExtend Word f.dst f.src))

abbrev pub arithmetic : AluOp → Width → SourceOperand → Fields → Insn
arithmetic Mov width X f = move_insn width f
arithmetic op width source f = Alu (signed_by f.offset op) width f.dst (operand_of source f)

abbrev pub swap_width : ℕ → SwapWidth
swap_width imm = if imm == 16 then S16 else (if imm == 32 then S32 else S64)

abbrev pub called : Fields → Insn
called f = if f.src == 0 then CallHelper (cast_signed w32 f.imm) else CallLocal (cast_signed w32 f.imm)

-- the instruction of a form with these fields; `high` is the imm of the slot after them.
abbrev pub insn_with : Shape → Fields → ℕ → Insn
insn_with (shapes.Alu op width source) f high = arithmetic op width source f
insn_with (shapes.Neg width) f high = Unary (Neg width) f.dst
insn_with (shapes.End order) f high = Unary (End order (swap_width f.imm)) f.dst
insn_with shapes.LoadWide f high = LoadWide f.dst (high * 2 ^ 32 + f.imm)
insn_with (shapes.Load loaded) f high = Load loaded f.dst f.src (cast_signed w16 f.offset)
insn_with (shapes.StoreImm size) f high = StoreImm size f.dst (cast_signed w16 f.offset) (cast_signed w32 f.imm)
insn_with (shapes.Store size) f high = Store size f.dst (cast_signed w16 f.offset) f.src
insn_with shapes.JumpAlways f high = JumpAlways (cast_signed w16 f.offset)
insn_with shapes.JumpAlwaysLong f high = JumpAlwaysLong (cast_signed w32 f.imm)
insn_with (shapes.JumpIf width relation source) f high =
    JumpIf (record { width = width; relation = relation; left = f.dst; right = operand_of source f; offset = cast_signed w16 f.offset })
insn_with shapes.Call f high = called f
insn_with shapes.Exit f high = Exit
insn_with shapes.Unknown f high = Exit

abbrev pub imm_after : Option Fields → ℕ
imm_after (Some f) = f.imm
imm_after None = 0

-- the instruction that fields without a fault encode; `next` has the fields of the following slot.
abbrev pub insn_of : Fields → Option Fields → Insn
insn_of f next = insn_with (shape_of f.opcode) f (imm_after next)

abbrev pub insn_at : List ℕ → ℕ → Insn
insn_at bytes slot = if is_second bytes slot then WideSecond else insn_of (fields_at bytes slot) (whole_fields_at bytes (slot + 1))

abbrev pub insns_below : List ℕ → ℕ → List Insn
insns_below bytes zero = []
insns_below bytes (suc n) = insns_below bytes n ++ (insn_at bytes n ∷ [])

-- the program that bytes without a fault encode.
unfoldable pub decoded_program : List ℕ → List Insn
decoded_program bytes = insns_below bytes (length bytes / 8)
