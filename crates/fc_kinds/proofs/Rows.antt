-- Worked examples of the transfer function, of refinement and of joins.
use Rattle.std.proofs.Common.{◌≡◌, ℕ, Bool, true, false, List, [], ◌∷◌, Option, Some, None, refl}
use Rattle.std.specs.Prelude.{ℤ, pos, negsuc, map, sum}
use Rattle.fc_isa.specs.declared.insn.AluOp.{AluOp}
use Rattle.fc_isa.specs.declared.insn.AluOp.TheVariants.{Add, Sub, Mul, Div, Or, And, Lsh, Rsh, Mod, Xor, Mov, Arsh, Sdiv, Smod}
use Rattle.fc_isa.specs.declared.insn.Width.{Width}
use Rattle.fc_isa.specs.declared.insn.Width.TheVariants.{W32, W64}
use Rattle.fc_isa.specs.declared.insn.Operand.{Operand}
use Rattle.fc_isa.specs.declared.insn.Operand.TheVariants.{Imm, Reg}
use Rattle.fc_isa.specs.declared.insn.SignExtension.TheVariants as extension
use Rattle.fc_isa.specs.declared.insn.ByteOrder.TheVariants.{Little, Big, Swapped}
use Rattle.fc_isa.specs.declared.insn.SwapWidth.TheVariants.{S16, S32, S64}
use Rattle.fc_isa.specs.declared.insn.Size.{Size}
use Rattle.fc_isa.specs.declared.insn.Size.TheVariants.{Byte, HalfWord, Word, DoubleWord}
use Rattle.fc_isa.specs.declared.insn.LoadType.{LoadType}
use Rattle.fc_isa.specs.declared.insn.LoadType.TheVariants.{Unsigned, SignedByte, SignedHalfWord, SignedWord}
use Rattle.fc_isa.specs.declared.insn.Relation.{Relation}
use Rattle.fc_isa.specs.declared.insn.Relation.TheVariants.{Eq, Gt, Ge, Set, Ne, Sgt, Sge, Lt, Le, Slt, Sle}
use Rattle.fc_isa.specs.declared.insn.UnaryOp.TheVariants.{Neg, End}
use Rattle.fc_isa.specs.declared.insn.Insn.{Insn}
use Rattle.fc_isa.specs.declared.insn.Insn.TheVariants.{Alu, Unary, SignExtend, LoadWide, Load, StoreImm, Store, WideSecond, JumpAlways, JumpAlwaysLong, JumpIf, CallHelper, CallLocal, Exit}
use Rattle.fc_kinds.specs.declared.kind.Kind.{Kind}
use Rattle.fc_kinds.specs.declared.kind.Kind.TheVariants.{Unset, Num, Stack, Req, Vars, Dev}
use Rattle.fc_kinds.specs.Kinds.{kind_at}
use Rattle.fc_kinds.specs.Intervals.{interval_of, alu_interval, extended_values, refined}
use Rattle.fc_kinds.specs.Lattice.{join_kind}
use Rattle.fc_kinds.specs.Transfer.{alu_kind, enter, transfer, unary_interval}
use Rattle.fc_kinds.specs.Refinement.{when}

-- the abstract value of R0 after an instruction, from those of R0 and R1 before it, in a program
-- with 8 bytes of variables
abbrev first_of : Option (List Kind) → Option Kind
first_of None = None
first_of (Some kinds) = Some (kind_at kinds 0)

abbrev leaves : Insn → Kind → Kind → Option Kind
leaves insn a b = first_of (transfer 8 insn (a ∷ b ∷ []))

abbrev both : AluOp → Width → Kind → Kind → Option Kind
both op width a b = leaves (Alu op width 0 (Reg 1)) a b

abbrev all32 : Kind
all32 = Num 0 4294967295

abbrev all64 : Kind
all64 = Num 0 18446744073709551615

rows_add : (both Add W64 (Num 1 2) (Num 10 20) ≡ Some (Num 11 22)) × (both Add W32 (Num 1 2) (Num 10 4294967295) ≡ Some all32) × (both Add W64 (Num 0 1) (Num 1 18446744073709551615) ≡ Some all64)
unfolding transfer alu_kind alu_interval interval_of
rows_add = (refl, refl, refl)

rows_sub : (both Sub W64 (Num 20 30) (Num 1 2) ≡ Some (Num 18 29)) × (both Sub W64 (Num 1 30) (Num 1 2) ≡ Some all64)
unfolding transfer alu_kind alu_interval interval_of
rows_sub = (refl, refl)

rows_mul : (both Mul W32 (Num 2 3) (Num 4 5) ≡ Some (Num 8 15)) × (both Mul W32 (Num 2 65536) (Num 4 65536) ≡ Some all32)
unfolding transfer alu_kind alu_interval interval_of
rows_mul = (refl, refl)

rows_div : (both Div W64 (Num 10 21) (Num 2 5) ≡ Some (Num 2 10)) × (both Div W64 (Num 10 21) (Num 0 5) ≡ Some (Num 0 21)) × (both Mod W64 (Num 10 21) (Num 2 5) ≡ Some (Num 0 4)) × (both Mod W64 (Num 1 3) (Num 2 5) ≡ Some (Num 0 3)) × (both Mod W64 (Num 1 3) (Num 0 1) ≡ Some (Num 0 3))
unfolding transfer alu_kind alu_interval interval_of
rows_div = (refl, refl, refl, refl, refl)

rows_bits : (both Or W64 (Num 0 5) (Num 0 8) ≡ Some (Num 0 15)) × (both Xor W64 (Num 0 0) (Num 0 0) ≡ Some (Num 0 0)) × (both And W64 (Num 3 5) (Num 7 8) ≡ Some (Num 0 5))
unfolding transfer alu_kind alu_interval interval_of
rows_bits = (refl, refl, refl)

rows_shift : (both Lsh W64 (Num 1 3) (Num 66 66) ≡ Some (Num 4 12)) × (both Lsh W32 (Num 1 3) (Num 31 31) ≡ Some all32) × (both Rsh W64 (Num 8 64) (Num 2 2) ≡ Some (Num 2 16)) × (both Rsh W64 (Num 8 64) (Num 2 3) ≡ Some (Num 0 64))
    × (both Arsh W32 (Num 8 64) (Num 2 2) ≡ Some (Num 2 16)) × (both Arsh W32 (Num 8 2147483648) (Num 2 2) ≡ Some all32)
unfolding transfer alu_kind alu_interval interval_of
rows_shift = (refl, refl, refl, refl, refl, refl)

-- a count of 2 ^ 32 + 1 isn't a known count for a 32-bit shift; a 32-bit move of an immediate gives
-- 32 bits
rows_narrow : (both Rsh W32 (Num 8 64) (Num 4294967297 4294967297) ≡ Some (Num 0 64)) × (leaves (Alu Mov W32 0 (Imm (negsuc 0))) Unset Unset ≡ Some (Num 4294967295 4294967295)) × (leaves (Alu Mov W64 0 (Imm (negsuc 0))) Unset Unset ≡ Some (Num 18446744073709551615 18446744073709551615))
    × (both Mov W32 Unset (Num 1 4294967296) ≡ Some all32)
unfolding transfer alu_kind alu_interval interval_of
rows_narrow = (refl, refl, refl, refl)

rows_other : (both Sdiv W64 (Num 1 1) (Num 1 1) ≡ Some all64) × (both Smod W32 (Num 1 1) (Num 1 1) ≡ Some all32) × (leaves (Unary (Neg W32) 0) (Num 1 1) Unset ≡ Some all32)
    × (leaves (SignExtend (extension.Byte W32) 0 1) Unset (Num 1 127) ≡ Some (Num 1 127)) × (leaves (SignExtend (extension.Byte W32) 0 1) Unset (Num 1 128) ≡ Some all32) × (leaves (SignExtend extension.Word 0 1) Unset (Num 1 2147483648) ≡ Some all64)
    × (leaves (Unary (End Little S16) 0) (Num 1 65535) Unset ≡ Some (Num 1 65535)) × (leaves (Unary (End Little S16) 0) (Num 1 65536) Unset ≡ Some (Num 0 65535)) × (leaves (Unary (End Big S16) 0) (Num 1 1) Unset ≡ Some (Num 0 65535)) × (leaves (LoadWide 0 7) Unset Unset ≡ Some (Num 7 7))
unfolding transfer alu_kind alu_interval interval_of extended_values unary_interval
rows_other = (refl, refl, refl, refl, refl, refl, refl, refl, refl, refl)

rows_pointers : (both Mov W64 Unset (Req (pos 1) (pos 2)) ≡ Some (Req (pos 1) (pos 2))) × (both Mov W32 Unset (Req (pos 1) (pos 2)) ≡ None) × (both Add W64 (Req (pos 0) (pos 0)) (Num 0 1024) ≡ Some (Req (pos 0) (pos 1024)))
    × (both Sub W64 (Stack 1 (pos 256) (pos 256)) (Num 1 8) ≡ Some (Stack 1 (pos 248) (pos 255))) × (both Add W64 (Num 1 1) (Req (pos 0) (pos 0)) ≡ None) × (both Add W64 (Req (pos 0) (pos 0)) (Num 0 65537) ≡ None)
    × (leaves (Alu Add W64 0 (Imm (pos 65536))) (Vars (pos 0) (pos 0)) Unset ≡ Some (Vars (pos 65536) (pos 65536))) × (leaves (Alu Add W64 0 (Imm (pos 65537))) (Vars (pos 0) (pos 0)) Unset ≡ None) × (leaves (Alu Sub W64 0 (Imm (pos 65537))) (Vars (pos 0) (pos 0)) Unset ≡ None)
    × (both And W64 (Req (pos 0) (pos 0)) (Num 0 1) ≡ None)
unfolding transfer alu_kind alu_interval interval_of
rows_pointers = (refl, refl, refl, refl, refl, refl, refl, refl, refl, refl)

abbrev is_met : Option Kind → ℕ
is_met None = 0
is_met (Some k) = 1

rows_access : (leaves (Load (Unsigned Byte) 0 1 (pos 79)) Unset (Req (pos 0) (pos 1024)) ≡ Some (Num 0 255)) × (leaves (Load (Unsigned Byte) 0 1 (pos 80)) Unset (Req (pos 0) (pos 1024)) ≡ None) × (leaves (Load (Unsigned HalfWord) 0 1 (negsuc 0)) Unset (Stack 0 (pos 0) (pos 0)) ≡ None)
    × (leaves (Load (Unsigned Word) 0 1 (pos 4)) Unset (Vars (pos 0) (pos 0)) ≡ Some all32) × (leaves (Load (Unsigned DoubleWord) 0 1 (pos 1)) Unset (Vars (pos 0) (pos 0)) ≡ None) × (leaves (Load SignedByte 0 1 (pos 0)) Unset (Vars (pos 0) (pos 0)) ≡ Some all64)
    × (is_met (leaves (StoreImm Byte 1 (negsuc 255) (pos 0)) Unset (Stack 0 (pos 256) (pos 256))) ≡ 1) × (is_met (leaves (StoreImm Byte 1 (negsuc 256) (pos 0)) Unset (Stack 0 (pos 256) (pos 256))) ≡ 0) × (is_met (leaves (StoreImm Byte 1 (pos 0) (pos 0)) Unset (Stack 0 (pos 256) (pos 256))) ≡ 0)
    × (is_met (leaves (StoreImm Byte 1 (pos 0) (pos 0)) Unset (Req (pos 0) (pos 0))) ≡ 0) × (is_met (leaves (Store DoubleWord 1 (pos 0) 0) (Num 1 1) (Vars (pos 0) (pos 0))) ≡ 1) × (is_met (leaves (Store DoubleWord 1 (pos 0) 0) (Req (pos 0) (pos 0)) (Vars (pos 0) (pos 0))) ≡ 0)
    × (is_met (leaves Exit (Num 1 1) Unset) ≡ 1) × (is_met (leaves Exit Unset Unset) ≡ 0)
unfolding transfer alu_kind alu_interval interval_of
rows_access = (refl, refl, refl, refl, refl, refl, refl, refl, refl, refl, refl, refl, refl, refl)

-- ---- refinement: R0 compared with R1

abbrev taken : Relation → Width → Kind → Kind → Option (List Kind)
taken relation width a b = when (record { width = width; relation = relation; left = 0; right = Reg 1; offset = pos 0 }) true (a ∷ b ∷ [])

abbrev past : Relation → Width → Kind → Kind → Option (List Kind)
past relation width a b = when (record { width = width; relation = relation; left = 0; right = Reg 1; offset = pos 0 }) false (a ∷ b ∷ [])

abbrev two : Kind → Kind → Option (List Kind)
two a b = Some (a ∷ b ∷ [])

ways_above : (taken Gt W64 (Num 0 10) (Num 4 20) ≡ two (Num 5 10) (Num 4 9)) × (past Gt W64 (Num 0 10) (Num 4 20) ≡ two (Num 0 10) (Num 4 20)) × (taken Gt W64 (Num 0 4) (Num 4 20) ≡ None) × (taken Ge W64 (Num 0 10) (Num 4 20) ≡ two (Num 4 10) (Num 4 10)) × (past Ge W64 (Num 4 10) (Num 0 4) ≡ None)
unfolding when refined
ways_above = (refl, refl, refl, refl, refl)

ways_below : (taken Lt W64 (Num 4 20) (Num 0 10) ≡ two (Num 4 9) (Num 5 10)) × (taken Le W64 (Num 4 20) (Num 0 10) ≡ two (Num 4 10) (Num 4 10)) × (past Lt W64 (Num 4 20) (Num 0 10) ≡ two (Num 4 20) (Num 0 10)) × (past Le W64 (Num 4 20) (Num 0 10) ≡ two (Num 4 20) (Num 0 10))
unfolding when refined
ways_below = (refl, refl, refl, refl)

ways_equal : (taken Eq W64 (Num 0 10) (Num 4 20) ≡ two (Num 4 10) (Num 4 10)) × (taken Eq W64 (Num 0 3) (Num 4 20) ≡ None) × (past Eq W64 (Num 0 10) (Num 0 0) ≡ two (Num 1 10) (Num 0 0)) × (past Eq W64 (Num 0 10) (Num 10 10) ≡ two (Num 0 9) (Num 10 10)) × (past Eq W64 (Num 0 10) (Num 5 5) ≡ two (Num 0 10) (Num 5 5))
    × (past Eq W64 (Num 5 5) (Num 5 6) ≡ two (Num 5 5) (Num 5 6)) × (past Eq W64 (Num 5 5) (Num 5 5) ≡ None) × (past Ne W64 (Num 0 10) (Num 4 20) ≡ two (Num 4 10) (Num 4 10))
unfolding when refined
ways_equal = (refl, refl, refl, refl, refl, refl, refl, refl)

-- signed relations, common bits, low halves, and a register compared with itself don't refine
ways_unrefined : (taken Sgt W64 (Num 0 4) (Num 4 20) ≡ two (Num 0 4) (Num 4 20)) × (taken Set W64 (Num 0 0) (Num 4 20) ≡ two (Num 0 0) (Num 4 20)) × (taken Gt W32 (Num 0 4) (Num 4 20) ≡ two (Num 0 4) (Num 4 20))
    × (when (record { width = W64; relation = Gt; left = 0; right = Reg 0; offset = pos 0 }) true (Num 3 3 ∷ []) ≡ Some (Num 3 3 ∷ []))
unfolding when refined
ways_unrefined = (refl, refl, refl, refl)

joins : (join_kind (Num 0 10) (Num 20 30) ≡ Num 0 30) × (join_kind (Num 0 10) (Req (pos 0) (pos 0)) ≡ Unset) × (join_kind (Stack 0 (pos 1) (pos 2)) (Stack 1 (pos 1) (pos 2)) ≡ Unset) × (join_kind (Stack 1 (pos 1) (pos 2)) (Stack 1 (negsuc 0) (pos 1)) ≡ Stack 1 (negsuc 0) (pos 2)) × (join_kind Unset (Num 1 1) ≡ Unset)
joins = (refl, refl, refl, refl, refl)

-- ---- helpers and local calls, in a program with 8 bytes of variables

abbrev helps : ℤ → Kind → Kind → Option Kind
helps number a b = first_of (transfer 8 (CallHelper number) (Unset ∷ a ∷ b ∷ []))

rows_helpers : (helps (pos 1) Unset Unset ≡ Some (Num 0 1024)) × (helps (pos 2) (Num 5 6) Unset ≡ Some all64) × (helps (pos 2) (Req (pos 0) (pos 0)) Unset ≡ None) × (helps (pos 3) Unset Unset ≡ None)
    × (helps (pos 3) (Num 0 0) Unset ≡ Some all64) × (helps (pos 4) (Num 1 1) Unset ≡ None) × (helps (pos 4) (Num 1 1) (Num 2 2) ≡ Some (Num 0 1)) × (helps (pos 6) (Num 1 1) Unset ≡ Some (Num 0 1))
    × (helps (pos 7) Unset Unset ≡ Some (Num 0 0)) × (helps (pos 0) (Num 1 1) (Num 1 1) ≡ None) × (helps (pos 99) (Num 1 1) (Num 1 1) ≡ None) × (helps (negsuc 0) (Num 1 1) (Num 1 1) ≡ None)
unfolding transfer
rows_helpers = (refl, refl, refl, refl, refl, refl, refl, refl, refl, refl, refl, refl)

-- the readings are 64 bytes, which a program can read but not write
rows_readings : (leaves (Load (Unsigned DoubleWord) 0 1 (pos 56)) Unset (Dev (pos 0) (pos 0)) ≡ Some all64) × (leaves (Load (Unsigned DoubleWord) 0 1 (pos 57)) Unset (Dev (pos 0) (pos 0)) ≡ None)
    × (is_met (leaves (StoreImm Byte 1 (pos 0) (pos 1)) Unset (Dev (pos 0) (pos 0))) ≡ 0) × (is_met (leaves (Store Byte 1 (pos 0) 0) (Num 1 1) (Dev (pos 0) (pos 0))) ≡ 0)
    × (helps (pos 5) (Dev (pos 0) (pos 0)) (Num 0 64) ≡ Some (Num 0 1)) × (helps (pos 5) (Dev (pos 1) (pos 1)) (Num 0 64) ≡ None)
    × (both Mov W64 Unset (Dev (pos 1) (pos 2)) ≡ Some (Dev (pos 1) (pos 2))) × (both Add W64 (Dev (pos 0) (pos 0)) (Num 0 65536) ≡ Some (Dev (pos 0) (pos 65536))) × (join_kind (Dev (pos 0) (pos 0)) (Req (pos 0) (pos 0)) ≡ Unset)
unfolding transfer alu_kind
rows_readings = (refl, refl, refl, refl, refl, refl, refl, refl, refl)

-- an access of zero bytes may begin at a region's end
rows_reply_put : (helps (pos 5) (Vars (pos 8) (pos 8)) (Num 0 0) ≡ Some (Num 0 1)) × (helps (pos 5) (Vars (pos 8) (pos 8)) (Num 0 1) ≡ None) × (helps (pos 5) (Req (pos 80) (pos 80)) (Num 0 1024) ≡ Some (Num 0 1))
    × (helps (pos 5) (Req (pos 80) (pos 81)) (Num 0 1024) ≡ None) × (helps (pos 5) (Stack 1 (pos 0) (pos 0)) (Num 0 256) ≡ Some (Num 0 1)) × (helps (pos 5) (Stack 0 (negsuc 0) (pos 0)) (Num 0 1) ≡ None)
    × (helps (pos 5) (Num 0 0) (Num 0 0) ≡ None) × (helps (pos 5) (Req (pos 0) (pos 0)) (Req (pos 0) (pos 0)) ≡ None) × (helps (pos 5) (Req (pos 0) (pos 0)) Unset ≡ None)
unfolding transfer
rows_reply_put = (refl, refl, refl, refl, refl, refl, refl, refl, refl)

abbrev regs : List Kind
regs = Num 0 0 ∷ Num 1 1 ∷ Stack 0 (pos 1) (pos 2) ∷ Req (pos 3) (pos 3) ∷ Num 4 4 ∷ Stack 2 (pos 5) (pos 5) ∷ Num 6 6 ∷ Stack 1 (pos 7) (pos 7) ∷ Num 8 8 ∷ Num 9 9 ∷ Stack 0 (pos 256) (pos 256) ∷ []

-- after a call, R0 is the result, R1 to R5 are unset, and R6 to R10 are saved
calls_answer : (transfer 8 (CallHelper (pos 7)) regs ≡ Some (Num 0 0 ∷ Unset ∷ Unset ∷ Unset ∷ Unset ∷ Unset ∷ Num 6 6 ∷ Stack 1 (pos 7) (pos 7) ∷ Num 8 8 ∷ Num 9 9 ∷ Stack 0 (pos 256) (pos 256) ∷ []))
    × (transfer 8 (CallLocal (pos 0)) regs ≡ Some (all64 ∷ Unset ∷ Unset ∷ Unset ∷ Unset ∷ Unset ∷ Num 6 6 ∷ Stack 1 (pos 7) (pos 7) ∷ Num 8 8 ∷ Num 9 9 ∷ Stack 0 (pos 256) (pos 256) ∷ []))
unfolding transfer
calls_answer = (refl, refl)

call_hands_on : enter regs ≡ Unset ∷ Num 1 1 ∷ Stack 1 (pos 1) (pos 2) ∷ Req (pos 3) (pos 3) ∷ Num 4 4 ∷ Stack 3 (pos 5) (pos 5) ∷ Unset ∷ Unset ∷ Unset ∷ Unset ∷ Stack 0 (pos 256) (pos 256) ∷ []
call_hands_on = refl

-- ---- each operation, and both ends of each bound

abbrev pub operations : List AluOp
operations = Add ∷ Sub ∷ Mul ∷ Div ∷ Or ∷ And ∷ Lsh ∷ Rsh ∷ Mod ∷ Xor ∷ Mov ∷ Arsh ∷ Sdiv ∷ Smod ∷ []

-- the abstract value after each operation on a number from 6 to 12 and on b
abbrev of_each : Width → Kind → List (Option Kind)
of_each width b = map (λ op. both op width (Num 6 12) b) operations

-- the results if no operation is refused
abbrev somes : List Kind → List (Option Kind)
somes kinds = map (λ kind. Some kind) kinds

abbrev by_two_or_three : Kind → List Kind
by_two_or_three every = Num 8 15 ∷ Num 3 10 ∷ Num 12 36 ∷ Num 2 6 ∷ Num 0 15 ∷ Num 0 3 ∷ every ∷ Num 0 12 ∷ Num 0 2 ∷ Num 0 15 ∷ Num 2 3 ∷ every ∷ every ∷ every ∷ []

abbrev by_two : Kind → List Kind
by_two every = Num 8 14 ∷ Num 4 10 ∷ Num 12 24 ∷ Num 3 6 ∷ Num 0 15 ∷ Num 0 2 ∷ Num 24 48 ∷ Num 1 3 ∷ Num 0 1 ∷ Num 0 15 ∷ Num 2 2 ∷ Num 1 3 ∷ every ∷ every ∷ []

each_operation : (of_each W64 (Num 2 3) ≡ somes (by_two_or_three all64)) × (of_each W32 (Num 2 3) ≡ somes (by_two_or_three all32)) × (of_each W64 (Num 2 2) ≡ somes (by_two all64)) × (of_each W32 (Num 2 2) ≡ somes (by_two all32))
unfolding transfer alu_kind alu_interval interval_of
each_operation = (refl, refl, refl, refl)

ends_of_sums : (both Add W64 (Num 1 1) (Num 0 18446744073709551614) ≡ Some (Num 1 18446744073709551615)) × (both Add W64 (Num 1 1) (Num 0 18446744073709551615) ≡ Some all64) × (both Add W32 (Num 1 1) (Num 0 4294967294) ≡ Some (Num 1 4294967295))
    × (both Add W32 (Num 1 1) (Num 0 4294967295) ≡ Some all32)
unfolding transfer alu_kind alu_interval interval_of
ends_of_sums = (refl, refl, refl, refl)

ends_of_differences : (both Sub W64 (Num 2 30) (Num 1 2) ≡ Some (Num 0 29)) × (both Sub W64 (Num 1 30) (Num 1 2) ≡ Some all64) × (both Sub W32 (Num 2 30) (Num 1 2) ≡ Some (Num 0 29)) × (both Sub W32 (Num 1 30) (Num 1 2) ≡ Some all32)
unfolding transfer alu_kind alu_interval interval_of
ends_of_differences = (refl, refl, refl, refl)

ends_of_products : (both Mul W64 (Num 3 3) (Num 1 6148914691236517205) ≡ Some (Num 3 18446744073709551615)) × (both Mul W64 (Num 1 4294967296) (Num 1 4294967296) ≡ Some all64) × (both Mul W32 (Num 3 3) (Num 1 1431655765) ≡ Some (Num 3 4294967295))
    × (both Mul W32 (Num 1 65536) (Num 1 65536) ≡ Some all32)
unfolding transfer alu_kind alu_interval interval_of
ends_of_products = (refl, refl, refl, refl)

ends_of_quotients : (both Div W64 (Num 10 21) (Num 1 5) ≡ Some (Num 2 21)) × (both Div W64 (Num 10 21) (Num 0 5) ≡ Some (Num 0 21)) × (both Mod W64 (Num 10 21) (Num 1 5) ≡ Some (Num 0 4)) × (both Mod W64 (Num 10 21) (Num 0 5) ≡ Some (Num 0 21))
    × (both Mod W64 (Num 1 4) (Num 1 5) ≡ Some (Num 0 4)) × (both Mod W64 (Num 1 3) (Num 1 5) ≡ Some (Num 0 3)) × (both Div W32 (Num 10 21) (Num 1 5) ≡ Some (Num 2 21)) × (both Div W32 (Num 10 21) (Num 0 5) ≡ Some (Num 0 21))
    × (both Mod W32 (Num 10 21) (Num 1 5) ≡ Some (Num 0 4)) × (both Mod W32 (Num 10 21) (Num 0 5) ≡ Some (Num 0 21)) × (both Mod W32 (Num 1 4) (Num 1 5) ≡ Some (Num 0 4)) × (both Mod W32 (Num 1 3) (Num 1 5) ≡ Some (Num 0 3))
unfolding transfer alu_kind alu_interval interval_of
ends_of_quotients = (refl, refl, refl, refl, refl, refl, refl, refl, refl, refl, refl, refl)

ends_of_bits : (both Or W64 (Num 5 7) (Num 3 3) ≡ Some (Num 0 7)) × (both Xor W64 (Num 3 3) (Num 5 8) ≡ Some (Num 0 15)) × (both Or W64 (Num 8 8) (Num 3 3) ≡ Some (Num 0 15)) × (both Xor W64 (Num 0 0) (Num 1 1) ≡ Some (Num 0 1))
    × (both Or W64 (Num 9223372036854775807 9223372036854775807) (Num 1 1) ≡ Some (Num 0 9223372036854775807)) × (both Xor W64 (Num 1 1) (Num 9223372036854775808 9223372036854775808) ≡ Some all64)
    × (both And W64 (Num 7 8) (Num 3 5) ≡ Some (Num 0 5)) × (both And W64 (Num 3 5) (Num 7 8) ≡ Some (Num 0 5)) × (both Or W32 (Num 5 7) (Num 3 3) ≡ Some (Num 0 7)) × (both Xor W32 (Num 3 3) (Num 5 8) ≡ Some (Num 0 15))
    × (both Or W32 (Num 8 8) (Num 3 3) ≡ Some (Num 0 15)) × (both Xor W32 (Num 0 0) (Num 1 1) ≡ Some (Num 0 1)) × (both Or W32 (Num 2147483647 2147483647) (Num 1 1) ≡ Some (Num 0 2147483647))
    × (both Xor W32 (Num 1 1) (Num 2147483648 2147483648) ≡ Some all32) × (both And W32 (Num 7 8) (Num 3 5) ≡ Some (Num 0 5)) × (both And W32 (Num 3 5) (Num 7 8) ≡ Some (Num 0 5))
unfolding transfer alu_kind alu_interval interval_of
ends_of_bits = (refl, refl, refl, refl, refl, refl, refl, refl, refl, refl, refl, refl, refl, refl, refl, refl)

ends_of_shifts : (both Lsh W64 (Num 1 1) (Num 63 63) ≡ Some (Num 9223372036854775808 9223372036854775808)) × (both Lsh W64 (Num 1 2) (Num 63 63) ≡ Some all64)
    × (both Lsh W64 (Num 1 9223372036854775808) (Num 64 64) ≡ Some (Num 1 9223372036854775808)) × (both Lsh W64 (Num 0 0) (Num 1 2) ≡ Some all64)
    × (both Rsh W64 (Num 8 18446744073709551615) (Num 67 67) ≡ Some (Num 1 2305843009213693951)) × (both Rsh W64 (Num 8 64) (Num 3 4) ≡ Some (Num 0 64))
    × (both Arsh W64 (Num 2 9223372036854775807) (Num 65 65) ≡ Some (Num 1 4611686018427387903)) × (both Arsh W64 (Num 2 9223372036854775808) (Num 1 1) ≡ Some all64) × (both Arsh W64 (Num 2 4) (Num 1 2) ≡ Some all64)
    × (both Lsh W32 (Num 1 1) (Num 31 31) ≡ Some (Num 2147483648 2147483648)) × (both Lsh W32 (Num 1 2) (Num 31 31) ≡ Some all32) × (both Lsh W32 (Num 1 2147483648) (Num 32 32) ≡ Some (Num 1 2147483648))
    × (both Lsh W32 (Num 0 0) (Num 1 2) ≡ Some all32) × (both Rsh W32 (Num 8 4294967295) (Num 35 35) ≡ Some (Num 1 536870911)) × (both Rsh W32 (Num 8 64) (Num 3 4) ≡ Some (Num 0 64))
    × (both Arsh W32 (Num 2 2147483647) (Num 33 33) ≡ Some (Num 1 1073741823)) × (both Arsh W32 (Num 2 2147483648) (Num 1 1) ≡ Some all32) × (both Arsh W32 (Num 2 4) (Num 1 2) ≡ Some all32)
unfolding transfer alu_kind alu_interval interval_of
ends_of_shifts = (refl, refl, refl, refl, refl, refl, refl, refl, refl, refl, refl, refl, refl, refl, refl, refl, refl, refl)

-- if a number may have more than 32 bits, its low half may be any number of 32 bits
low_halves : (both Mov W32 Unset (Num 1 4294967295) ≡ Some (Num 1 4294967295)) × (both Mov W32 Unset (Num 4294967296 4294967296) ≡ Some all32) × (both Mov W64 Unset (Num 1 18446744073709551615) ≡ Some (Num 1 18446744073709551615))
    × (both Rsh W32 (Num 16 4294967295) (Num 4 4) ≡ Some (Num 1 268435455)) × (both Rsh W32 (Num 4294967296 4294967296) (Num 4 4) ≡ Some (Num 0 268435455)) × (both Div W32 (Num 16 16) (Num 1 4294967296) ≡ Some (Num 0 16))
    × (both Div W64 (Num 16 16) (Num 1 4294967296) ≡ Some (Num 0 16)) × (both And W32 (Num 1 4294967296) (Num 7 4294967295) ≡ Some all32) × (both Sub W32 (Num 4294967305 4294967305) (Num 1 2) ≡ Some all32)
    × (both Sub W64 (Num 4294967305 4294967305) (Num 1 2) ≡ Some (Num 4294967303 4294967304))
unfolding transfer alu_kind alu_interval interval_of
low_halves = (refl, refl, refl, refl, refl, refl, refl, refl, refl, refl)

ends_of_extensions : (leaves (SignExtend (extension.Byte W64) 0 1) Unset (Num 1 127) ≡ Some (Num 1 127)) × (leaves (SignExtend (extension.Byte W64) 0 1) Unset (Num 1 128) ≡ Some all64)
    × (leaves (SignExtend (extension.Byte W32) 0 1) Unset (Num 1 127) ≡ Some (Num 1 127)) × (leaves (SignExtend (extension.Byte W32) 0 1) Unset (Num 1 128) ≡ Some all32)
    × (leaves (SignExtend (extension.HalfWord W64) 0 1) Unset (Num 1 32767) ≡ Some (Num 1 32767)) × (leaves (SignExtend (extension.HalfWord W64) 0 1) Unset (Num 1 32768) ≡ Some all64)
    × (leaves (SignExtend (extension.HalfWord W32) 0 1) Unset (Num 1 32767) ≡ Some (Num 1 32767)) × (leaves (SignExtend (extension.HalfWord W32) 0 1) Unset (Num 1 32768) ≡ Some all32)
    × (leaves (SignExtend extension.Word 0 1) Unset (Num 1 2147483647) ≡ Some (Num 1 2147483647)) × (leaves (SignExtend extension.Word 0 1) Unset (Num 1 2147483648) ≡ Some all64)
unfolding transfer alu_kind alu_interval interval_of extended_values
ends_of_extensions = (refl, refl, refl, refl, refl, refl, refl, refl, refl, refl)

ends_of_byte_orders : (leaves (Unary (End Little S16) 0) (Num 1 65535) Unset ≡ Some (Num 1 65535)) × (leaves (Unary (End Little S16) 0) (Num 1 65536) Unset ≡ Some (Num 0 65535)) × (leaves (Unary (End Big S16) 0) (Num 0 0) Unset ≡ Some (Num 0 65535))
    × (leaves (Unary (End Swapped S16) 0) (Num 0 0) Unset ≡ Some (Num 0 65535)) × (leaves (Unary (End Little S32) 0) (Num 1 4294967295) Unset ≡ Some (Num 1 4294967295)) × (leaves (Unary (End Little S32) 0) (Num 1 4294967296) Unset ≡ Some (Num 0 4294967295))
    × (leaves (Unary (End Big S32) 0) (Num 0 0) Unset ≡ Some (Num 0 4294967295)) × (leaves (Unary (End Swapped S32) 0) (Num 0 0) Unset ≡ Some (Num 0 4294967295))
    × (leaves (Unary (End Little S64) 0) (Num 1 18446744073709551615) Unset ≡ Some (Num 1 18446744073709551615)) × (leaves (Unary (End Big S64) 0) (Num 0 0) Unset ≡ Some (Num 0 18446744073709551615))
    × (leaves (Unary (End Swapped S64) 0) (Num 0 0) Unset ≡ Some (Num 0 18446744073709551615)) × (leaves (Unary (Neg W64) 0) (Num 0 0) Unset ≡ Some all64) × (leaves (Unary (Neg W32) 0) (Num 0 0) Unset ≡ Some all32)
    × (leaves (LoadWide 0 18446744073709551615) Unset Unset ≡ Some (Num 18446744073709551615 18446744073709551615))
unfolding transfer unary_interval
ends_of_byte_orders = (refl, refl, refl, refl, refl, refl, refl, refl, refl, refl, refl, refl, refl, refl)

pointers_move : (both Mov W64 Unset (Req (pos 1) (pos 2)) ≡ Some (Req (pos 1) (pos 2))) × (leaves (Alu Add W64 0 (Imm (negsuc 7))) (Req (pos 1) (pos 2)) Unset ≡ Some (Req (negsuc 6) (negsuc 5)))
    × (leaves (Alu Sub W64 0 (Imm (negsuc 7))) (Req (pos 1) (pos 2)) Unset ≡ Some (Req (pos 9) (pos 10))) × (both Add W64 (Req (pos 1) (pos 2)) (Num 3 5) ≡ Some (Req (pos 4) (pos 7)))
    × (both Sub W64 (Req (pos 1) (pos 2)) (Num 3 5) ≡ Some (Req (negsuc 3) (negsuc 0))) × (both Mov W64 Unset (Vars (pos 1) (pos 2)) ≡ Some (Vars (pos 1) (pos 2)))
    × (leaves (Alu Add W64 0 (Imm (negsuc 7))) (Vars (pos 1) (pos 2)) Unset ≡ Some (Vars (negsuc 6) (negsuc 5))) × (leaves (Alu Sub W64 0 (Imm (negsuc 7))) (Vars (pos 1) (pos 2)) Unset ≡ Some (Vars (pos 9) (pos 10)))
    × (both Add W64 (Vars (pos 1) (pos 2)) (Num 3 5) ≡ Some (Vars (pos 4) (pos 7))) × (both Sub W64 (Vars (pos 1) (pos 2)) (Num 3 5) ≡ Some (Vars (negsuc 3) (negsuc 0)))
    × (both Mov W64 Unset (Stack 2 (pos 1) (pos 2)) ≡ Some (Stack 2 (pos 1) (pos 2))) × (leaves (Alu Add W64 0 (Imm (negsuc 7))) (Stack 2 (pos 1) (pos 2)) Unset ≡ Some (Stack 2 (negsuc 6) (negsuc 5)))
    × (leaves (Alu Sub W64 0 (Imm (negsuc 7))) (Stack 2 (pos 1) (pos 2)) Unset ≡ Some (Stack 2 (pos 9) (pos 10))) × (both Add W64 (Stack 2 (pos 1) (pos 2)) (Num 3 5) ≡ Some (Stack 2 (pos 4) (pos 7)))
    × (both Sub W64 (Stack 2 (pos 1) (pos 2)) (Num 3 5) ≡ Some (Stack 2 (negsuc 3) (negsuc 0)))
unfolding transfer alu_kind alu_interval interval_of
pointers_move = (refl, refl, refl, refl, refl, refl, refl, refl, refl, refl, refl, refl, refl, refl, refl)

ends_of_offsets : (leaves (Alu Add W64 0 (Imm (pos 1))) (Req (pos 0) (pos 65535)) Unset ≡ Some (Req (pos 1) (pos 65536))) × (leaves (Alu Add W64 0 (Imm (pos 1))) (Req (pos 0) (pos 65536)) Unset ≡ None)
    × (leaves (Alu Sub W64 0 (Imm (pos 1))) (Req (negsuc 65534) (pos 0)) Unset ≡ Some (Req (negsuc 65535) (negsuc 0))) × (leaves (Alu Sub W64 0 (Imm (pos 1))) (Req (negsuc 65535) (pos 0)) Unset ≡ None)
    × (both Add W64 (Req (pos 0) (pos 0)) (Num 0 65536) ≡ Some (Req (pos 0) (pos 65536))) × (both Add W64 (Req (pos 0) (pos 1)) (Num 0 65536) ≡ None)
    × (both Sub W64 (Req (pos 0) (pos 0)) (Num 0 65536) ≡ Some (Req (negsuc 65535) (pos 0))) × (both Sub W64 (Req (negsuc 0) (pos 0)) (Num 0 65536) ≡ None)
    × (leaves (Alu Add W64 0 (Imm (pos 1))) (Vars (pos 0) (pos 65535)) Unset ≡ Some (Vars (pos 1) (pos 65536))) × (leaves (Alu Add W64 0 (Imm (pos 1))) (Vars (pos 0) (pos 65536)) Unset ≡ None)
    × (leaves (Alu Sub W64 0 (Imm (pos 1))) (Vars (negsuc 65534) (pos 0)) Unset ≡ Some (Vars (negsuc 65535) (negsuc 0))) × (leaves (Alu Sub W64 0 (Imm (pos 1))) (Vars (negsuc 65535) (pos 0)) Unset ≡ None)
    × (both Add W64 (Vars (pos 0) (pos 0)) (Num 0 65536) ≡ Some (Vars (pos 0) (pos 65536))) × (both Add W64 (Vars (pos 0) (pos 1)) (Num 0 65536) ≡ None)
    × (both Sub W64 (Vars (pos 0) (pos 0)) (Num 0 65536) ≡ Some (Vars (negsuc 65535) (pos 0))) × (both Sub W64 (Vars (negsuc 0) (pos 0)) (Num 0 65536) ≡ None)
    × (leaves (Alu Add W64 0 (Imm (pos 1))) (Stack 0 (pos 0) (pos 65535)) Unset ≡ Some (Stack 0 (pos 1) (pos 65536))) × (leaves (Alu Add W64 0 (Imm (pos 1))) (Stack 0 (pos 0) (pos 65536)) Unset ≡ None)
    × (leaves (Alu Sub W64 0 (Imm (pos 1))) (Stack 0 (negsuc 65534) (pos 0)) Unset ≡ Some (Stack 0 (negsuc 65535) (negsuc 0))) × (leaves (Alu Sub W64 0 (Imm (pos 1))) (Stack 0 (negsuc 65535) (pos 0)) Unset ≡ None)
    × (both Add W64 (Stack 0 (pos 0) (pos 0)) (Num 0 65536) ≡ Some (Stack 0 (pos 0) (pos 65536))) × (both Add W64 (Stack 0 (pos 0) (pos 1)) (Num 0 65536) ≡ None)
    × (both Sub W64 (Stack 0 (pos 0) (pos 0)) (Num 0 65536) ≡ Some (Stack 0 (negsuc 65535) (pos 0))) × (both Sub W64 (Stack 0 (negsuc 0) (pos 0)) (Num 0 65536) ≡ None)
unfolding transfer alu_kind alu_interval interval_of
ends_of_offsets = (refl, refl, refl, refl, refl, refl, refl, refl, refl, refl, refl, refl, refl, refl, refl, refl, refl, refl, refl, refl, refl, refl, refl, refl)

-- a register moves a pointer by at most 65,536, an immediate by any number, and a pointer never
-- moves another
ends_of_distances : (both Add W64 (Req (negsuc 65535) (negsuc 65535)) (Num 65536 65536) ≡ Some (Req (pos 0) (pos 0))) × (both Add W64 (Req (negsuc 65535) (negsuc 65535)) (Num 65537 65537) ≡ None)
    × (both Sub W64 (Req (pos 65536) (pos 65536)) (Num 65536 65536) ≡ Some (Req (pos 0) (pos 0))) × (both Sub W64 (Req (pos 65536) (pos 65536)) (Num 65537 65537) ≡ None)
    × (leaves (Alu Add W64 0 (Imm (pos 131072))) (Req (negsuc 65535) (negsuc 65535)) Unset ≡ Some (Req (pos 65536) (pos 65536)))
    × (leaves (Alu Sub W64 0 (Imm (pos 131072))) (Req (pos 65536) (pos 65536)) Unset ≡ Some (Req (negsuc 65535) (negsuc 65535))) × (both Add W64 (Req (pos 0) (pos 0)) (Req (pos 0) (pos 0)) ≡ None)
    × (both Sub W64 (Req (pos 0) (pos 0)) (Req (pos 0) (pos 0)) ≡ None) × (both Sub W64 (Num 1 1) (Req (pos 0) (pos 0)) ≡ None) × (both Add W32 (Req (pos 0) (pos 0)) (Num 1 1) ≡ None)
    × (both Sub W32 (Req (pos 0) (pos 0)) (Num 1 1) ≡ None)
unfolding transfer alu_kind alu_interval interval_of
ends_of_distances = (refl, refl, refl, refl, refl, refl, refl, refl, refl, refl, refl)

-- loads, and stores of an immediate and of a register, through R1
abbrev loads : LoadType → ℤ → Kind → Option Kind
loads l offset pointer = leaves (Load l 0 1 offset) Unset pointer

abbrev stores : Size → ℤ → Kind → ℕ × ℕ
stores size offset pointer = (is_met (leaves (StoreImm size 1 offset (pos 0)) (Num 1 1) pointer), is_met (leaves (Store size 1 offset 0) (Num 1 1) pointer))

ends_of_loads : (loads (Unsigned Byte) (pos 7) (Vars (pos 0) (pos 0)) ≡ Some (Num 0 255)) × (loads (Unsigned Byte) (pos 8) (Vars (pos 0) (pos 0)) ≡ None) × (loads (Unsigned HalfWord) (pos 6) (Vars (pos 0) (pos 0)) ≡ Some (Num 0 65535))
    × (loads (Unsigned HalfWord) (pos 7) (Vars (pos 0) (pos 0)) ≡ None) × (loads (Unsigned Word) (pos 4) (Vars (pos 0) (pos 0)) ≡ Some all32) × (loads (Unsigned Word) (pos 5) (Vars (pos 0) (pos 0)) ≡ None)
    × (loads (Unsigned DoubleWord) (pos 0) (Vars (pos 0) (pos 0)) ≡ Some all64) × (loads (Unsigned DoubleWord) (pos 1) (Vars (pos 0) (pos 0)) ≡ None) × (loads SignedByte (pos 7) (Vars (pos 0) (pos 0)) ≡ Some all64)
    × (loads SignedByte (pos 8) (Vars (pos 0) (pos 0)) ≡ None) × (loads SignedHalfWord (pos 6) (Vars (pos 0) (pos 0)) ≡ Some all64) × (loads SignedHalfWord (pos 7) (Vars (pos 0) (pos 0)) ≡ None)
    × (loads SignedWord (pos 4) (Vars (pos 0) (pos 0)) ≡ Some all64) × (loads SignedWord (pos 5) (Vars (pos 0) (pos 0)) ≡ None)
unfolding transfer alu_kind alu_interval interval_of
ends_of_loads = (refl, refl, refl, refl, refl, refl, refl, refl, refl, refl, refl, refl, refl, refl)

ends_of_regions : (loads (Unsigned Byte) (negsuc 0) (Stack 0 (pos 1) (pos 256)) ≡ Some (Num 0 255)) × (loads (Unsigned Byte) (negsuc 0) (Stack 0 (pos 1) (pos 257)) ≡ None) × (loads (Unsigned Byte) (negsuc 0) (Stack 0 (pos 0) (pos 256)) ≡ None)
    × (loads (Unsigned Byte) (negsuc 0) (Stack 3 (pos 1) (pos 256)) ≡ Some (Num 0 255)) × (loads (Unsigned Byte) (negsuc 0) (Stack 3 (pos 1) (pos 257)) ≡ None) × (loads (Unsigned Byte) (negsuc 0) (Stack 3 (pos 0) (pos 256)) ≡ None)
    × (loads (Unsigned Byte) (negsuc 0) (Req (pos 1) (pos 1104)) ≡ Some (Num 0 255)) × (loads (Unsigned Byte) (negsuc 0) (Req (pos 1) (pos 1105)) ≡ None) × (loads (Unsigned Byte) (negsuc 0) (Req (pos 0) (pos 1104)) ≡ None)
    × (loads (Unsigned Byte) (negsuc 0) (Vars (pos 1) (pos 8)) ≡ Some (Num 0 255)) × (loads (Unsigned Byte) (negsuc 0) (Vars (pos 1) (pos 9)) ≡ None) × (loads (Unsigned Byte) (negsuc 0) (Vars (pos 0) (pos 8)) ≡ None)
unfolding transfer alu_kind alu_interval interval_of
ends_of_regions = (refl, refl, refl, refl, refl, refl, refl, refl, refl, refl, refl, refl)

ends_of_stores : (stores Byte (pos 1) (Stack 1 (negsuc 0) (pos 254)) ≡ (1, 1)) × (stores Byte (pos 1) (Stack 1 (negsuc 0) (pos 255)) ≡ (0, 0)) × (stores Byte (pos 1) (Stack 1 (negsuc 1) (pos 254)) ≡ (0, 0))
    × (stores Byte (pos 1) (Vars (negsuc 0) (pos 6)) ≡ (1, 1)) × (stores Byte (pos 1) (Vars (negsuc 0) (pos 7)) ≡ (0, 0)) × (stores Byte (pos 1) (Vars (negsuc 1) (pos 6)) ≡ (0, 0)) × (stores Byte (pos 0) (Req (pos 0) (pos 0)) ≡ (0, 0))
    × (stores HalfWord (pos 1) (Stack 1 (negsuc 0) (pos 253)) ≡ (1, 1)) × (stores HalfWord (pos 1) (Stack 1 (negsuc 0) (pos 254)) ≡ (0, 0)) × (stores HalfWord (pos 1) (Stack 1 (negsuc 1) (pos 253)) ≡ (0, 0))
    × (stores HalfWord (pos 1) (Vars (negsuc 0) (pos 5)) ≡ (1, 1)) × (stores HalfWord (pos 1) (Vars (negsuc 0) (pos 6)) ≡ (0, 0)) × (stores HalfWord (pos 1) (Vars (negsuc 1) (pos 5)) ≡ (0, 0))
    × (stores HalfWord (pos 0) (Req (pos 0) (pos 0)) ≡ (0, 0)) × (stores Word (pos 1) (Stack 1 (negsuc 0) (pos 251)) ≡ (1, 1)) × (stores Word (pos 1) (Stack 1 (negsuc 0) (pos 252)) ≡ (0, 0))
    × (stores Word (pos 1) (Stack 1 (negsuc 1) (pos 251)) ≡ (0, 0)) × (stores Word (pos 1) (Vars (negsuc 0) (pos 3)) ≡ (1, 1)) × (stores Word (pos 1) (Vars (negsuc 0) (pos 4)) ≡ (0, 0))
    × (stores Word (pos 1) (Vars (negsuc 1) (pos 3)) ≡ (0, 0)) × (stores Word (pos 0) (Req (pos 0) (pos 0)) ≡ (0, 0)) × (stores DoubleWord (pos 1) (Stack 1 (negsuc 0) (pos 247)) ≡ (1, 1))
    × (stores DoubleWord (pos 1) (Stack 1 (negsuc 0) (pos 248)) ≡ (0, 0)) × (stores DoubleWord (pos 1) (Stack 1 (negsuc 1) (pos 247)) ≡ (0, 0)) × (stores DoubleWord (pos 1) (Vars (negsuc 0) (negsuc 0)) ≡ (1, 1))
    × (stores DoubleWord (pos 1) (Vars (negsuc 0) (pos 0)) ≡ (0, 0)) × (stores DoubleWord (pos 1) (Vars (negsuc 1) (negsuc 0)) ≡ (0, 0)) × (stores DoubleWord (pos 0) (Req (pos 0) (pos 0)) ≡ (0, 0))
unfolding transfer alu_kind alu_interval interval_of
ends_of_stores = (refl, refl, refl, refl, refl, refl, refl, refl, refl, refl, refl, refl, refl, refl, refl, refl, refl, refl, refl, refl, refl, refl, refl, refl, refl, refl, refl, refl)

abbrev asks : Relation → Width → Operand → Insn
asks relation width right = JumpIf (record { width = width; relation = relation; left = 0; right = right; offset = pos 0 })

abbrev is_open : Option (List Kind) → ℕ
is_open None = 0
is_open (Some kinds) = 1

abbrev every_relation : List Relation
every_relation = Eq ∷ Gt ∷ Ge ∷ Set ∷ Ne ∷ Sgt ∷ Sge ∷ Lt ∷ Le ∷ Slt ∷ Sle ∷ []

-- the number of relations that can compare these two abstract values, in a register and as an
-- immediate
abbrev asked : Width → Kind → Kind → ℕ × ℕ
asked width a b =
    (sum (map (λ relation. is_open (transfer 8 (asks relation width (Reg 1)) (a ∷ b ∷ []))) every_relation), sum (map (λ relation. is_open (transfer 8 (asks relation width (Imm (pos 1))) (a ∷ b ∷ []))) every_relation))

comparisons_ask_for_numbers : (asked W64 (Num 0 1) (Num 2 3) ≡ (11, 11)) × (asked W64 (Num 0 1) Unset ≡ (0, 11)) × (asked W64 Unset (Num 2 3) ≡ (0, 0)) × (asked W64 (Num 0 1) (Req (pos 0) (pos 0)) ≡ (0, 11))
    × (asked W64 (Vars (pos 0) (pos 0)) (Num 0 0) ≡ (0, 0)) × (asked W32 (Num 0 1) (Num 2 3) ≡ (11, 11)) × (asked W32 (Num 0 1) Unset ≡ (0, 11)) × (asked W32 Unset (Num 2 3) ≡ (0, 0))
    × (asked W32 (Num 0 1) (Req (pos 0) (pos 0)) ≡ (0, 11)) × (asked W32 (Vars (pos 0) (pos 0)) (Num 0 0) ≡ (0, 0))
unfolding transfer
comparisons_ask_for_numbers = (refl, refl, refl, refl, refl, refl, refl, refl, refl, refl)

stores_and_jumps_keep_kinds : (transfer 8 (JumpAlways (pos 3)) [] ≡ Some []) × (transfer 8 (JumpAlwaysLong (pos 3)) [] ≡ Some []) × (transfer 8 (StoreImm Byte 10 (negsuc 0) (pos 7)) regs ≡ Some regs)
    × (transfer 8 (Store DoubleWord 10 (negsuc 7) 6) regs ≡ Some regs) × (transfer 8 (JumpAlways (pos 3)) regs ≡ Some regs) × (transfer 8 (JumpAlwaysLong (pos 3)) regs ≡ Some regs) × (transfer 8 (asks Gt W64 (Reg 1)) regs ≡ Some regs)
    × (transfer 8 (asks Eq W32 (Imm (pos 0))) regs ≡ Some regs) × (transfer 8 (Exit) regs ≡ Some regs) × (transfer 8 WideSecond regs ≡ None)
unfolding transfer
stores_and_jumps_keep_kinds = (refl, refl, refl, refl, refl, refl, refl, refl, refl, refl)

-- ---- both sides of each branch's condition

ends_of_ways_above : (taken Gt W64 (Num 0 4) (Num 4 20) ≡ None) × (taken Gt W64 (Num 0 5) (Num 4 20) ≡ two (Num 5 5) (Num 4 4)) × (taken Gt W64 (Num 7 30) (Num 4 20) ≡ two (Num 7 30) (Num 4 20))
    × (taken Gt W64 (Num 5 21) (Num 4 20) ≡ two (Num 5 21) (Num 4 20)) × (taken Gt W64 (Num 4 20) (Num 4 20) ≡ two (Num 5 20) (Num 4 19)) × (past Gt W64 (Num 5 20) (Num 0 4) ≡ None)
    × (past Gt W64 (Num 4 20) (Num 0 4) ≡ two (Num 4 4) (Num 4 4)) × (past Gt W64 (Num 4 20) (Num 7 30) ≡ two (Num 4 20) (Num 7 30)) × (taken Ge W64 (Num 0 3) (Num 4 20) ≡ None)
    × (taken Ge W64 (Num 0 4) (Num 4 20) ≡ two (Num 4 4) (Num 4 4)) × (taken Ge W64 (Num 7 30) (Num 4 20) ≡ two (Num 7 30) (Num 4 20)) × (past Ge W64 (Num 4 20) (Num 0 4) ≡ None)
    × (past Ge W64 (Num 4 20) (Num 0 5) ≡ two (Num 4 4) (Num 5 5)) × (past Ge W64 (Num 4 20) (Num 7 30) ≡ two (Num 4 20) (Num 7 30))
unfolding when refined
ends_of_ways_above = (refl, refl, refl, refl, refl, refl, refl, refl, refl, refl, refl, refl, refl, refl)

ends_of_ways_below : (taken Lt W64 (Num 4 20) (Num 0 4) ≡ None) × (taken Lt W64 (Num 4 20) (Num 0 5) ≡ two (Num 4 4) (Num 5 5)) × (taken Lt W64 (Num 4 20) (Num 7 30) ≡ two (Num 4 20) (Num 7 30)) × (past Lt W64 (Num 0 3) (Num 4 20) ≡ None)
    × (past Lt W64 (Num 0 4) (Num 4 20) ≡ two (Num 4 4) (Num 4 4)) × (past Lt W64 (Num 7 30) (Num 4 20) ≡ two (Num 7 30) (Num 4 20)) × (taken Le W64 (Num 5 20) (Num 0 4) ≡ None)
    × (taken Le W64 (Num 4 20) (Num 0 4) ≡ two (Num 4 4) (Num 4 4)) × (taken Le W64 (Num 4 20) (Num 7 30) ≡ two (Num 4 20) (Num 7 30)) × (past Le W64 (Num 0 4) (Num 4 20) ≡ None)
    × (past Le W64 (Num 0 5) (Num 4 20) ≡ two (Num 5 5) (Num 4 4)) × (past Le W64 (Num 7 30) (Num 4 20) ≡ two (Num 7 30) (Num 4 20))
unfolding when refined
ends_of_ways_below = (refl, refl, refl, refl, refl, refl, refl, refl, refl, refl, refl, refl)

ends_of_ways_equal : (taken Eq W64 (Num 0 4) (Num 4 20) ≡ two (Num 4 4) (Num 4 4)) × (taken Eq W64 (Num 0 3) (Num 4 20) ≡ None) × (taken Eq W64 (Num 20 30) (Num 4 20) ≡ two (Num 20 20) (Num 20 20)) × (taken Eq W64 (Num 21 30) (Num 4 20) ≡ None)
    × (past Ne W64 (Num 0 4) (Num 4 20) ≡ two (Num 4 4) (Num 4 4)) × (past Ne W64 (Num 0 3) (Num 4 20) ≡ None) × (past Ne W64 (Num 20 30) (Num 4 20) ≡ two (Num 20 20) (Num 20 20)) × (past Ne W64 (Num 21 30) (Num 4 20) ≡ None)
    × (taken Ne W64 (Num 4 9) (Num 4 4) ≡ two (Num 5 9) (Num 4 4)) × (taken Ne W64 (Num 4 9) (Num 9 9) ≡ two (Num 4 8) (Num 9 9)) × (taken Ne W64 (Num 4 9) (Num 3 3) ≡ two (Num 4 9) (Num 3 3))
    × (taken Ne W64 (Num 4 9) (Num 10 10) ≡ two (Num 4 9) (Num 10 10)) × (taken Ne W64 (Num 4 5) (Num 5 5) ≡ two (Num 4 4) (Num 5 5)) × (taken Ne W64 (Num 4 4) (Num 4 4) ≡ None)
    × (taken Ne W64 (Num 4 4) (Num 5 5) ≡ two (Num 4 4) (Num 5 5)) × (taken Ne W64 (Num 4 4) (Num 4 9) ≡ two (Num 4 4) (Num 4 9)) × (taken Ne W64 (Num 4 9) (Num 4 9) ≡ two (Num 4 9) (Num 4 9))
    × (past Eq W64 (Num 4 9) (Num 4 4) ≡ two (Num 5 9) (Num 4 4)) × (past Eq W64 (Num 4 9) (Num 9 9) ≡ two (Num 4 8) (Num 9 9)) × (past Eq W64 (Num 4 9) (Num 3 3) ≡ two (Num 4 9) (Num 3 3))
    × (past Eq W64 (Num 4 9) (Num 10 10) ≡ two (Num 4 9) (Num 10 10)) × (past Eq W64 (Num 4 5) (Num 5 5) ≡ two (Num 4 4) (Num 5 5)) × (past Eq W64 (Num 4 4) (Num 4 4) ≡ None) × (past Eq W64 (Num 4 4) (Num 5 5) ≡ two (Num 4 4) (Num 5 5))
    × (past Eq W64 (Num 4 4) (Num 4 9) ≡ two (Num 4 4) (Num 4 9)) × (past Eq W64 (Num 4 9) (Num 4 9) ≡ two (Num 4 9) (Num 4 9))
unfolding when refined
ends_of_ways_equal = (refl, refl, refl, refl, refl, refl, refl, refl, refl, refl, refl, refl, refl, refl, refl, refl, refl, refl, refl, refl, refl, refl, refl, refl, refl, refl)

-- the state on a branch of a comparison of R0 with a sign-extended immediate
abbrev beside : Bool → Relation → ℤ → Kind → Option (List Kind)
beside is_taken relation k a = when (record { width = W64; relation = relation; left = 0; right = Imm k; offset = pos 0 }) is_taken (a ∷ Num 7 7 ∷ [])

abbrev alone : Kind → Option (List Kind)
alone a = Some (a ∷ Num 7 7 ∷ [])

ways_beside_an_immediate : (beside true Gt (pos 4) (Num 0 9) ≡ alone (Num 5 9)) × (beside false Gt (pos 4) (Num 0 9) ≡ alone (Num 0 4)) × (beside true Ge (pos 4) (Num 0 9) ≡ alone (Num 4 9)) × (beside false Ge (pos 4) (Num 0 9) ≡ alone (Num 0 3))
    × (beside true Lt (pos 4) (Num 0 9) ≡ alone (Num 0 3)) × (beside false Lt (pos 4) (Num 0 9) ≡ alone (Num 4 9)) × (beside true Le (pos 4) (Num 0 9) ≡ alone (Num 0 4)) × (beside false Le (pos 4) (Num 0 9) ≡ alone (Num 5 9))
    × (beside true Eq (pos 4) (Num 0 9) ≡ alone (Num 4 4)) × (beside false Eq (pos 4) (Num 4 9) ≡ alone (Num 5 9)) × (beside true Ne (pos 4) (Num 0 4) ≡ alone (Num 0 3)) × (beside false Ne (pos 4) (Num 0 9) ≡ alone (Num 4 4))
    × (beside true Gt (negsuc 0) (Num 0 18446744073709551615) ≡ None) × (beside true Ge (negsuc 0) (Num 0 18446744073709551615) ≡ alone (Num 18446744073709551615 18446744073709551615))
    × (beside false Ge (negsuc 0) (Num 0 18446744073709551615) ≡ alone (Num 0 18446744073709551614)) × (beside true Eq (negsuc 0) (Num 0 4294967295) ≡ None)
unfolding when refined
ways_beside_an_immediate = (refl, refl, refl, refl, refl, refl, refl, refl, refl, refl, refl, refl, refl, refl, refl, refl)

-- the refinements of R0 compared with R1, and of a register compared with itself
abbrev said : Width → Bool → List Relation → List (Option (List Kind))
said width is_taken relations = map (λ relation. when (record { width = width; relation = relation; left = 0; right = Reg 1; offset = pos 0 }) is_taken (Num 0 4 ∷ Num 4 4 ∷ [])) relations

abbrev said_of_itself : Bool → List (Option (List Kind))
said_of_itself is_taken = map (λ relation. when (record { width = W64; relation = relation; left = 0; right = Reg 0; offset = pos 0 }) is_taken (Num 0 4 ∷ Num 4 4 ∷ [])) every_relation

abbrev nothing : List (Option (List Kind))
nothing = map (λ relation. two (Num 0 4) (Num 4 4)) every_relation

abbrev signed_or_set : List Relation
signed_or_set = Sgt ∷ Sge ∷ Slt ∷ Sle ∷ Set ∷ []

ways_that_say_nothing : (said W32 true every_relation ≡ nothing) × (said W32 false every_relation ≡ nothing) × (said W64 true signed_or_set ≡ map (λ relation. two (Num 0 4) (Num 4 4)) signed_or_set)
    × (said W64 false signed_or_set ≡ map (λ relation. two (Num 0 4) (Num 4 4)) signed_or_set) × (said_of_itself true ≡ nothing) × (said_of_itself false ≡ nothing)
unfolding when refined
ways_that_say_nothing = (refl, refl, refl, refl, refl, refl)
