-- The transfer function: the abstract state after each instruction, if its preconditions hold.
use Rattle.std.specs.Prelude.{ℕ, ◌+◌, ◌-◌, ◌^◌, ◌&&◌, Bool, true, false, nat_lt, nat_le, if◌then◌else◌, ℤ, pos, negsuc, ◌+ℤ◌, ◌-ℤ◌, int_le, List, [], ◌∷◌, Option, Some, None, slice_set}
use Rattle.std.specs.Int.{w32, w64, cast_unsigned}
use Rattle.fc_isa.specs.declared.insn.Width.{Width}
use Rattle.fc_isa.specs.declared.insn.Width.TheVariants.{W32, W64}
use Rattle.fc_isa.specs.declared.insn.AluOp.{AluOp}
use Rattle.fc_isa.specs.declared.insn.AluOp.TheVariants.{Add, Sub, Mov}
use Rattle.fc_isa.specs.declared.insn.Operand.{Operand}
use Rattle.fc_isa.specs.declared.insn.Operand.TheVariants.{Imm, Reg}
use Rattle.fc_isa.specs.declared.insn.UnaryOp.{UnaryOp}
use Rattle.fc_isa.specs.declared.insn.UnaryOp.TheVariants.{Neg, End}
use Rattle.fc_isa.specs.declared.insn.ByteOrder.{ByteOrder}
use Rattle.fc_isa.specs.declared.insn.ByteOrder.TheVariants.{Little}
use Rattle.fc_isa.specs.declared.insn.SwapWidth.{SwapWidth}
use Rattle.fc_isa.specs.declared.insn.Size.{Size}
use Rattle.fc_isa.specs.declared.insn.Size.TheVariants.{Byte, HalfWord, Word, DoubleWord}
use Rattle.fc_isa.specs.declared.insn.LoadType.{LoadType}
use Rattle.fc_isa.specs.declared.insn.LoadType.TheVariants.{Unsigned, SignedByte, SignedHalfWord, SignedWord}
use Rattle.fc_isa.specs.declared.insn.Insn.{Insn}
use Rattle.fc_isa.specs.declared.insn.Insn.TheVariants.{Alu, Unary, SignExtend, LoadWide, WideSecond, Load, StoreImm, Store, JumpAlways, JumpAlwaysLong, JumpIf, CallHelper, CallLocal, Exit}
use Rattle.fc_help.specs.declared.helper.Helper.{Helper}
use Rattle.fc_help.specs.declared.helper.Arguments.{Arguments}
use Rattle.fc_help.specs.declared.helper.Arguments.TheVariants.{NoArgument, OneNumber, TwoNumbers, Bytes}
use Rattle.fc_help.specs.Helpers.{helper_of, signature_of}
use Rattle.fc_alu.specs.Words.{bits_of}
use Rattle.fc_alu.specs.Arithmetic.{bytes_in}
use Rattle.fc_kinds.specs.declared.interval.Interval.{Interval}
use Rattle.fc_kinds.specs.Intervals.{interval, all, alu_interval, extended_values}
use Rattle.fc_kinds.specs.declared.kind.Kind.{Kind}
use Rattle.fc_kinds.specs.declared.kind.Kind.TheVariants.{Unset, Num, Stack, Req, Vars, Dev}
use Rattle.fc_kinds.specs.Values.{with_some}
use Rattle.fc_kinds.specs.Kinds.{kind_at}

abbrev pub num : Interval → Kind
num s = Num s.lo s.hi

-- a choice by the form of an abstract value: from a number's interval, from a pointer's form and
-- ends, or `None`.
abbrev pub by_form : {A : Type 0} → Kind → (Interval → Option A) → ((ℤ → ℤ → Kind) → ℤ → ℤ → Option A) → Option A
by_form Unset number pointer = None
by_form (Num lo hi) number pointer = number (interval lo hi)
by_form (Stack level lo hi) number pointer = pointer (Stack level) lo hi
by_form (Req lo hi) number pointer = pointer Req lo hi
by_form (Vars lo hi) number pointer = pointer Vars lo hi
by_form (Dev lo hi) number pointer = pointer Dev lo hi

abbrev pub no_pointer : {A : Type 0} → (ℤ → ℤ → Kind) → ℤ → ℤ → Option A
no_pointer form lo hi = None

abbrev pub where_number : {A : Type 0} → Kind → (Interval → Option A) → Option A
where_number k number = by_form k number no_pointer

abbrev pub is_number : Kind → Bool
is_number (Num lo hi) = true
is_number k = false

-- an immediate as a number: its 32 bits, or sign-extended to 64 bits.
abbrev pub immediate : Width → ℤ → ℕ
immediate W32 k = cast_unsigned w32 k
immediate W64 k = cast_unsigned w64 k

-- the abstract value of an operand; that of an immediate is a single number.
abbrev pub operand_kind : Width → Operand → List Kind → Kind
operand_kind width (Imm k) kinds = Num (immediate width k) (immediate width k)
operand_kind width (Reg r) kinds = kind_at kinds r

-- the ends of an interval as distances, if they are at most 65,536.
abbrev pub small : Interval → Option (ℤ × ℤ)
small s = if nat_le s.hi 65536 then Some (pos s.lo, pos s.hi) else None

-- the least and the greatest distance by which an operand moves a pointer: an immediate, or a small
-- number.
abbrev pub distance : Operand → Kind → Option (ℤ × ℤ)
distance (Imm k) kind = Some (k, k)
distance (Reg r) kind = where_number kind small

-- the pointer with these ends, if they are from -65,536 to 65,536.
abbrev pub near : (ℤ → ℤ → Kind) → ℤ → ℤ → Option Kind
near form lo hi = if int_le (negsuc 65535) lo && int_le hi (pos 65536) then Some (form lo hi) else None

abbrev pub numbers : AluOp → Width → Kind → Interval → Option Kind
numbers op width b s = where_number b (λ t. Some (num (alu_interval op width s t)))

abbrev pub forth : Option (ℤ × ℤ) → (ℤ → ℤ → Kind) → ℤ → ℤ → Option Kind
forth by form lo hi = with_some by (λ d. near form (lo +ℤ d.0) (hi +ℤ d.1))

abbrev pub back : Option (ℤ × ℤ) → (ℤ → ℤ → Kind) → ℤ → ℤ → Option Kind
back by form lo hi = with_some by (λ d. near form (lo -ℤ d.1) (hi -ℤ d.0))

abbrev pub kind_added : Operand → Kind → Kind → Option Kind
kind_added operand a b = by_form a (numbers Add W64 b) (forth (distance operand b))

abbrev pub kind_subtracted : Operand → Kind → Kind → Option Kind
kind_subtracted operand a b = by_form a (numbers Sub W64 b) (back (distance operand b))

abbrev pub set : Kind → Option Kind
set b = by_form b (λ s. Some (num s)) (λ form lo hi. Some (form lo hi))

abbrev pub moved : Width → Kind → Option Kind
moved W64 b = set b
moved W32 b = where_number b (λ t. Some (num (alu_interval Mov W32 t t)))

-- the destination's abstract value after an operation, from those of the destination and of the
-- operand.
unfoldable pub alu_kind : AluOp → Width → Operand → Kind → Kind → Option Kind
alu_kind Mov width operand a b = moved width b
alu_kind Add W64 operand a b = kind_added operand a b
alu_kind Sub W64 operand a b = kind_subtracted operand a b
alu_kind op width operand a b = where_number a (numbers op width b)

abbrev pub ordered_interval : ByteOrder → SwapWidth → Interval → Interval
ordered_interval Little width s = if nat_lt s.hi (256 ^ bytes_in width) then s else interval 0 (256 ^ bytes_in width - 1)
ordered_interval order width s = interval 0 (256 ^ bytes_in width - 1)

-- an interval of the results of an operation on one register.
unfoldable pub unary_interval : UnaryOp → Interval → Interval
unary_interval (Neg width) s = all (bits_of width)
unary_interval (End order width) s = ordered_interval order width s

abbrev pub size_of : Size → ℕ
size_of Byte = 1
size_of HalfWord = 2
size_of Word = 4
size_of DoubleWord = 8

abbrev pub bytes_loaded : LoadType → ℕ
bytes_loaded (Unsigned size) = size_of size
bytes_loaded SignedByte = 1
bytes_loaded SignedHalfWord = 2
bytes_loaded SignedWord = 4

abbrev pub loaded_interval : LoadType → Interval
loaded_interval (Unsigned size) = interval 0 (256 ^ size_of size - 1)
loaded_interval other = all 64

-- n bytes at offset f, from a pointer between these ends, are in the region.
abbrev pub inside : ℕ → ℕ → ℤ → ℤ → ℤ → Bool
inside region n f lo hi = int_le (pos 0) (lo +ℤ f) && int_le (hi +ℤ f +ℤ pos n) (pos region)

abbrev pub may_read : ℕ → ℕ → ℤ → Kind → Bool
may_read vars n f (Stack level lo hi) = inside 256 n f lo hi
may_read vars n f (Req lo hi) = inside 1104 n f lo hi
may_read vars n f (Vars lo hi) = inside vars n f lo hi
may_read vars n f (Dev lo hi) = inside 64 n f lo hi
may_read vars n f other = false

abbrev pub may_write : ℕ → ℕ → ℤ → Kind → Bool
may_write vars n f (Stack level lo hi) = inside 256 n f lo hi
may_write vars n f (Vars lo hi) = inside vars n f lo hi
may_write vars n f other = false

abbrev pub put_kind : List Kind → ℕ → Option Kind → Option (List Kind)
put_kind kinds dst kind = with_some kind (λ k. Some (slice_set kinds dst k))

abbrev pub where_met : Bool → List Kind → Option (List Kind)
where_met true kinds = Some kinds
where_met false kinds = None

-- after a call R0 is its result, R1 to R5 are unset, and the other registers don't change.
abbrev pub after_call : Kind → List Kind → List Kind
after_call answer kinds =
    answer ∷ Unset ∷ Unset ∷ Unset ∷ Unset ∷ Unset
    ∷ kind_at kinds 6 ∷ kind_at kinds 7 ∷ kind_at kinds 8 ∷ kind_at kinds 9 ∷ kind_at kinds 10 ∷ []

-- the state after a local call, which returns any number.
abbrev pub returned : List Kind → List Kind
returned kinds = after_call (num (all 64)) kinds

-- the bytes from a pointer on, as many as a number gives, are in the pointer's region.
abbrev pub are_bytes : ℕ → Kind → Kind → Bool
are_bytes vars pointer (Num lo hi) = may_read vars hi (pos 0) pointer
are_bytes vars pointer other = false

-- R1, or R1 and R2, are the arguments that a helper requires.
abbrev pub are_arguments : ℕ → Arguments → List Kind → Bool
are_arguments vars NoArgument kinds = true
are_arguments vars OneNumber kinds = is_number (kind_at kinds 1)
are_arguments vars TwoNumbers kinds = is_number (kind_at kinds 1) && is_number (kind_at kinds 2)
are_arguments vars Bytes kinds = are_bytes vars (kind_at kinds 1) (kind_at kinds 2)

-- the state after a helper's call, if it has the arguments that it requires.
abbrev pub helped_kinds : ℕ → List Kind → Helper → Option (List Kind)
helped_kinds vars kinds helper =
    where_met (are_arguments vars (signature_of helper).arguments kinds) (after_call (Num 0 (signature_of helper).most) kinds)

-- the abstract value that a called function has: the level of a pointer into a stack frame is one
-- greater.
abbrev pub raised : Kind → Kind
raised (Stack level lo hi) = Stack (level + 1) lo hi
raised kind = kind

-- the state at the start of a function after a local call: R1 to R5 are passed, and R10 is at the
-- end of a fresh frame.
abbrev pub enter : List Kind → List Kind
enter kinds =
    Unset ∷ raised (kind_at kinds 1) ∷ raised (kind_at kinds 2) ∷ raised (kind_at kinds 3) ∷ raised (kind_at kinds 4)
    ∷ raised (kind_at kinds 5)
    ∷ Unset ∷ Unset ∷ Unset ∷ Unset ∷ Stack 0 (pos 256) (pos 256) ∷ []

-- the instruction is a load or a store.
abbrev pub is_access : Insn → Bool
is_access (Load loaded dst base offset) = true
is_access (StoreImm size base offset imm) = true
is_access (Store size base offset src) = true
is_access other = false

-- the state after an instruction, or `None` if its preconditions don't hold; `vars` is the size of
-- the program's variables.
unfoldable pub transfer : ℕ → Insn → List Kind → Option (List Kind)
transfer vars (Alu op width dst operand) kinds =
    put_kind kinds dst (alu_kind op width operand (kind_at kinds dst) (operand_kind width operand kinds))
transfer vars (Unary op dst) kinds = put_kind kinds dst (where_number (kind_at kinds dst) (λ s. Some (num (unary_interval op s))))
transfer vars (SignExtend extension dst src) kinds =
    put_kind kinds dst (where_number (kind_at kinds src) (λ s. Some (num (extended_values extension s))))
transfer vars (LoadWide dst value) kinds = put_kind kinds dst (Some (Num value value))
transfer vars WideSecond kinds = None
transfer vars (Load loaded dst base offset) kinds =
    put_kind kinds dst (if may_read vars (bytes_loaded loaded) offset (kind_at kinds base) then Some (num (loaded_interval loaded)) else None)
transfer vars (StoreImm size base offset imm) kinds = where_met (may_write vars (size_of size) offset (kind_at kinds base)) kinds
transfer vars (Store size base offset src) kinds =
    where_met (may_write vars (size_of size) offset (kind_at kinds base) && is_number (kind_at kinds src)) kinds
transfer vars (JumpAlways offset) kinds = Some kinds
transfer vars (JumpAlwaysLong offset) kinds = Some kinds
transfer vars (JumpIf j) kinds = where_met (is_number (kind_at kinds j.left) && is_number (operand_kind j.width j.right kinds)) kinds
transfer vars (CallHelper number) kinds = with_some (helper_of number) (helped_kinds vars kinds)
transfer vars (CallLocal offset) kinds = Some (returned kinds)
transfer vars Exit kinds = where_met (is_number (kind_at kinds 0)) kinds
