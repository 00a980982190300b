-- An instruction and the fields of its slot determine each other.
use Rattle.std.proofs.Common.{◌≡◌, ℤ, ℕ, ◌/◌, ◌^◌, ◌<◌, ◌==◌, ◌&&◌, not, true, false, Option, Some, None, refl, ap, ◌∙◌, arith, lit<}
use Rattle.std.specs.Int.{w16, w32, cast_unsigned, cast_signed}
use Rattle.std.specs.Prelude.{FitsSigned, nat_lt}
use Rattle.std.proofs.lemmas.Bool.{le-ltb, ne_eqb}
use Rattle.std.proofs.lemmas.Int.{ints, to_z-of_z}
use Rattle.fc_isa.specs.declared.insn.Width.{Width}
use Rattle.fc_isa.specs.declared.insn.Width.TheVariants.{W32, W64}
use Rattle.fc_isa.specs.declared.insn.AluOp.{AluOp}
use Rattle.fc_isa.specs.declared.insn.AluOp.TheVariants.{Add, Mov, Sdiv, Smod}
use Rattle.fc_isa.specs.declared.insn.Operand.{Operand}
use Rattle.fc_isa.specs.declared.insn.Operand.TheVariants.{Imm, Reg}
use Rattle.fc_isa.specs.declared.insn.Relation.{Relation}
use Rattle.fc_isa.specs.declared.insn.UnaryOp.{UnaryOp}
use Rattle.fc_isa.specs.declared.insn.UnaryOp.TheVariants.{Neg, End}
use Rattle.fc_isa.specs.declared.insn.SignExtension.{SignExtension}
use Rattle.fc_isa.specs.declared.insn.SignExtension.TheVariants.{Byte, HalfWord, Word}
use Rattle.fc_isa.specs.declared.insn.SwapWidth.{SwapWidth}
use Rattle.fc_isa.specs.declared.insn.SwapWidth.TheVariants.{S16, S32, S64}
use Rattle.fc_isa.specs.declared.insn.ByteOrder.{ByteOrder}
use Rattle.fc_isa.specs.declared.insn.Insn.{Insn}
use Rattle.fc_isa.specs.declared.insn.Insn.TheVariants.{Alu, Unary, SignExtend, LoadWide, WideSecond, Load, StoreImm, Store, JumpAlways, JumpAlwaysLong, JumpIf, CallHelper, CallLocal, Exit}
use Rattle.fc_isa.specs.declared.shape.SourceOperand.TheVariants.{X}
use Rattle.fc_isa.specs.declared.shape.Shape.{Shape}
use Rattle.fc_isa.specs.declared.shape.Shape.TheVariants.{Alu as AluShape, Neg as NegShape, End as EndShape, LoadWide as LoadWideShape, Load as LoadShape, StoreImm as StoreImmShape, Store as StoreShape, JumpAlways as JumpAlwaysShape, JumpAlwaysLong as JumpAlwaysLongShape, JumpIf as JumpIfShape, Call as CallShape, Exit as ExitShape}
use Rattle.fc_isa.specs.declared.rule.Rule.TheVariants.{Opcode}
use Rattle.fc_isa.specs.Shapes.{shape_of, is_known, is_wide, writes_dst}
use Rattle.fc_isa.specs.Program.{IsOperand, IsInsn}
use Rattle.fc_isa.specs.Encoding.{Fields, fields_of, source_of, src_of, imm_of, sign_offset, extended_bits, extended_width, swap_bits, unary_imm, swap_width, unused_are_zero, values_allowed, is_second_half, slot_fault, insn_with, insn_of, operand_of, imm_after}
use Rattle.fc_isa.proofs.Forms.{unsigned, alu_form, jump_form, load_form, store_imm_form, store_form, neg_form, end_form, wide_form, always_form, always_long_form, call_form, exit_form}

-- ---- the fields of an instruction

-- a slot's fields are within their ranges
pub record Fit (f : Fields) : Type 0 where
  pub dst : f.dst < 16
  pub offset : f.offset < 2 ^ 16
  pub imm : f.imm < 2 ^ 32

bits16 : (z : ℤ) → FitsSigned w16 z → cast_unsigned w16 z < 2 ^ 16
bits16 z h = omega (arith, ints)

bits32 : (z : ℤ) → FitsSigned w32 z → cast_unsigned w32 z < 2 ^ 32
bits32 z h = omega (arith, ints)

sign_offset_small : (op : AluOp) → sign_offset op < 2 ^ 16
sign_offset_small Sdiv = lit< tt
sign_offset_small Smod = lit< tt
sign_offset_small op = lit< tt

extended_small : (e : SignExtension) → extended_bits e < 2 ^ 16
extended_small (Byte width) = lit< tt
extended_small (HalfWord width) = lit< tt
extended_small Word = lit< tt

swap_small : (w : SwapWidth) → swap_bits w < 2 ^ 32
swap_small S16 = lit< tt
swap_small S32 = lit< tt
swap_small S64 = lit< tt

unary_small : (op : UnaryOp) → unary_imm op < 2 ^ 32
unary_small (End order width) = swap_small width
unary_small (Neg width) = lit< tt

imm_small : (o : Operand) → IsOperand o → imm_of o < 2 ^ 32
imm_small (Imm k) h = bits32 k h
imm_small (Reg r) h = lit< tt

src_small : (o : Operand) → IsOperand o → src_of o < 11
src_small (Imm k) h = lit< tt
src_small (Reg r) h = h

pub fields_fit : (i : Insn) → IsInsn i → Fit (fields_of i)
fields_fit (Alu op width dst operand) h = record { dst = omega (arith, h.0); offset = sign_offset_small op; imm = imm_small operand h.1 }
fields_fit (Unary op dst) h = record { dst = omega (arith, h); offset = lit< tt; imm = unary_small op }
fields_fit (SignExtend extension dst src) h = record { dst = omega (arith, h.0); offset = extended_small extension; imm = lit< tt }
fields_fit (LoadWide dst value) h = record { dst = omega (arith, h.0); offset = lit< tt; imm = omega arith }
fields_fit WideSecond h = record { dst = lit< tt; offset = lit< tt; imm = lit< tt }
fields_fit (Load loaded dst base offset) h = record { dst = omega (arith, h.0); offset = bits16 offset h.2; imm = lit< tt }
fields_fit (StoreImm size base offset imm) h = record { dst = omega (arith, h.0); offset = bits16 offset h.1; imm = bits32 imm h.2 }
fields_fit (Store size base offset src) h = record { dst = omega (arith, h.0); offset = bits16 offset h.1; imm = lit< tt }
fields_fit (JumpAlways offset) h = record { dst = lit< tt; offset = bits16 offset h; imm = lit< tt }
fields_fit (JumpAlwaysLong offset) h = record { dst = lit< tt; offset = lit< tt; imm = bits32 offset h }
fields_fit (JumpIf j) h = record { dst = omega (arith, h.0); offset = bits16 j.offset h.2; imm = imm_small j.right h.1 }
fields_fit (CallHelper number) h = record { dst = lit< tt; offset = lit< tt; imm = bits32 number h }
fields_fit (CallLocal offset) h = record { dst = lit< tt; offset = lit< tt; imm = bits32 offset h }
fields_fit Exit h = record { dst = lit< tt; offset = lit< tt; imm = lit< tt }

-- ---- an instruction's fields break no rule

no_fault : (f : Fields) (next : Option Fields) (s : Shape) → shape_of f.opcode ≡ s → is_known s ≡ true → f.dst < 11 → f.src < 11 → (writes_dst s && (f.dst == 10)) ≡ false
    → (unused_are_zero s f && values_allowed s f) ≡ true → (is_wide s && not (is_second_half next)) ≡ false → slot_fault f next ≡ None
no_fault f next s e k d r w v n =
    let rd : nat_lt 10 f.dst ≡ false = le-ltb 10 f.dst (omega arith) in
    let rs : nat_lt 10 f.src ≡ false = le-ltb 10 f.src (omega arith) in
    rw (e, k, rd, rs, w, v, n) refl

-- fields with an opcode without a form break the opcode rule first
pub unknown_fault : (f : Fields) (next : Option Fields) → is_known (shape_of f.opcode) ≡ false → slot_fault f next ≡ Some Opcode
unknown_fault f next k = rw k refl

-- the instruction isn't a second half, and the second half of a wide load is the next slot
abbrev pub IsOwn : Insn → Option Fields → Type 0
IsOwn (LoadWide dst value) next = (is_second_half next ≡ true) × (imm_after next ≡ value / 2 ^ 32)
IsOwn WideSecond next = ⊥
IsOwn i next = Unit {0}

not_ten : (dst : ℕ) → dst < 10 → (dst == 10) ≡ false
not_ten dst h = ne_eqb dst 10 (λ e. omega arith)

alu_fine : (op : AluOp) (width : Width) (dst : ℕ) (operand : Operand) →
    (unused_are_zero (AluShape (unsigned op) width (source_of operand)) (fields_of (Alu op width dst operand)) && values_allowed (AluShape (unsigned op) width (source_of operand)) (fields_of (Alu op width dst operand))) ≡ true
alu_fine Add width dst (Imm k) = refl
alu_fine op width dst (Imm k) = refl
alu_fine Mov W32 dst (Reg r) = refl
alu_fine op width dst (Reg r) = refl

extend_fine : (e : SignExtension) (dst src : ℕ) →
    (unused_are_zero (AluShape Mov (extended_width e) X) (fields_of (SignExtend e dst src)) && values_allowed (AluShape Mov (extended_width e) X) (fields_of (SignExtend e dst src))) ≡ true
extend_fine (Byte W32) dst src = refl
extend_fine (Byte W64) dst src = refl
extend_fine (HalfWord W32) dst src = refl
extend_fine (HalfWord W64) dst src = refl
extend_fine Word dst src = refl

end_fine : (order : ByteOrder) (w : SwapWidth) (dst : ℕ) →
    (unused_are_zero (EndShape order) (fields_of (Unary (End order w) dst)) && values_allowed (EndShape order) (fields_of (Unary (End order w) dst))) ≡ true
end_fine order S16 dst = refl
end_fine order S32 dst = refl
end_fine order S64 dst = refl

jump_fine : (width : Width) (relation : Relation) (left : ℕ) (right : Operand) (offset : ℤ) →
    (unused_are_zero (JumpIfShape width relation (source_of right)) (fields_of (JumpIf (record { width = width; relation = relation; left = left; right = right; offset = offset }))) && true) ≡ true
jump_fine width relation left (Imm k) offset = refl
jump_fine width relation left (Reg r) offset = refl

pub own_faultless : (i : Insn) (next : Option Fields) → IsInsn i → IsOwn i next → slot_fault (fields_of i) next ≡ None
own_faultless (Alu op width dst operand) next h o =
    no_fault (fields_of (Alu op width dst operand)) next (AluShape (unsigned op) width (source_of operand)) (alu_form op width (source_of operand)) refl (omega (arith, h.0)) (src_small operand h.1) (not_ten dst h.0) (alu_fine op width dst operand) refl
own_faultless (Unary (Neg width) dst) next h o =
    no_fault (fields_of (Unary (Neg width) dst)) next (NegShape width) (neg_form width) refl (omega (arith, h)) (lit< tt) (not_ten dst h) refl refl
own_faultless (SignExtend extension dst src) next h o =
    no_fault (fields_of (SignExtend extension dst src)) next (AluShape Mov (extended_width extension) X) (alu_form Mov (extended_width extension) X) refl (omega (arith, h.0)) h.1 (not_ten dst h.0) (extend_fine extension dst src) refl
own_faultless (Unary (End order width) dst) next h o =
    no_fault (fields_of (Unary (End order width) dst)) next (EndShape order) (end_form order) refl (omega (arith, h)) (lit< tt) (not_ten dst h) (end_fine order width dst) refl
own_faultless (LoadWide dst value) next h o =
    no_fault (fields_of (LoadWide dst value)) next LoadWideShape wide_form.form refl (omega (arith, h.0)) (lit< tt) (not_ten dst h.0) refl (rw o.0 refl)
own_faultless WideSecond next h o = absurd o
own_faultless (Load loaded dst base offset) next h o =
    no_fault (fields_of (Load loaded dst base offset)) next (LoadShape loaded) (load_form loaded) refl (omega (arith, h.0)) h.1 (not_ten dst h.0) refl refl
own_faultless (StoreImm size base offset imm) next h o =
    no_fault (fields_of (StoreImm size base offset imm)) next (StoreImmShape size) (store_imm_form size) refl h.0 (lit< tt) refl refl refl
own_faultless (Store size base offset src) next h o =
    no_fault (fields_of (Store size base offset src)) next (StoreShape size) (store_form size) refl h.0 h.2 refl refl refl
own_faultless (JumpAlways offset) next h o =
    no_fault (fields_of (JumpAlways offset)) next JumpAlwaysShape always_form.form refl (lit< tt) (lit< tt) refl refl refl
own_faultless (JumpAlwaysLong offset) next h o =
    no_fault (fields_of (JumpAlwaysLong offset)) next JumpAlwaysLongShape always_long_form.form refl (lit< tt) (lit< tt) refl refl refl
own_faultless (JumpIf j) next h o =
    no_fault (fields_of (JumpIf j)) next (JumpIfShape j.width j.relation (source_of j.right)) (jump_form j.width j.relation (source_of j.right)) refl h.0 (src_small j.right h.1) refl (jump_fine j.width j.relation j.left j.right j.offset) refl
own_faultless (CallHelper number) next h o =
    no_fault (fields_of (CallHelper number)) next CallShape call_form.form refl (lit< tt) (lit< tt) refl refl refl
own_faultless (CallLocal offset) next h o =
    no_fault (fields_of (CallLocal offset)) next CallShape call_form.form refl (lit< tt) (lit< tt) refl refl refl
own_faultless Exit next h o =
    no_fault (fields_of Exit) next ExitShape exit_form.form refl (lit< tt) (lit< tt) refl refl refl

-- ---- the fields determine the instruction

alu_back : (op : AluOp) (width : Width) (dst : ℕ) (operand : Operand) (high : ℕ) → IsOperand operand
    → insn_with (AluShape (unsigned op) width (source_of operand)) (fields_of (Alu op width dst operand)) high ≡ Alu op width dst operand
alu_back Add width dst (Imm k) high h = ap (λ z. Alu Add width dst (Imm z)) (to_z-of_z w32 k h)
alu_back op width dst (Imm k) high h = ap (λ z. Alu op width dst (Imm z)) (to_z-of_z w32 k h)
alu_back Add width dst (Reg r) high h = refl
alu_back op width dst (Reg r) high h = refl

extend_back : (e : SignExtension) (dst src high : ℕ) → insn_with (AluShape Mov (extended_width e) X) (fields_of (SignExtend e dst src)) high ≡ SignExtend e dst src
extend_back (Byte width) dst src high = refl
extend_back (HalfWord width) dst src high = refl
extend_back Word dst src high = refl

swap_back : (w : SwapWidth) → swap_width (swap_bits w) ≡ w
swap_back S16 = refl
swap_back S32 = refl
swap_back S64 = refl

operand_back : (o : Operand) (f : Fields) → IsOperand o → f.src ≡ src_of o → f.imm ≡ imm_of o → operand_of (source_of o) f ≡ o
operand_back (Imm k) f h s i = ap Imm (ap (cast_signed w32) i ∙ to_z-of_z w32 k h)
operand_back (Reg r) f h s i = ap Reg s

by_shape : (i : Insn) (next : Option Fields) (s : Shape) → shape_of (fields_of i).opcode ≡ s → insn_with s (fields_of i) (imm_after next) ≡ i → insn_of (fields_of i) next ≡ i
by_shape i next s e h = ap (λ s. insn_with s (fields_of i) (imm_after next)) e ∙ h

pub own_insn : (i : Insn) (next : Option Fields) → IsInsn i → IsOwn i next → insn_of (fields_of i) next ≡ i
own_insn (Alu op width dst operand) next h o =
    by_shape (Alu op width dst operand) next (AluShape (unsigned op) width (source_of operand)) (alu_form op width (source_of operand)) (alu_back op width dst operand (imm_after next) h.1)
own_insn (Unary (Neg width) dst) next h o = by_shape (Unary (Neg width) dst) next (NegShape width) (neg_form width) refl
own_insn (SignExtend extension dst src) next h o =
    by_shape (SignExtend extension dst src) next (AluShape Mov (extended_width extension) X) (alu_form Mov (extended_width extension) X) (extend_back extension dst src (imm_after next))
own_insn (Unary (End order width) dst) next h o = by_shape (Unary (End order width) dst) next (EndShape order) (end_form order) (ap (λ w. Unary (End order w) dst) (swap_back width))
own_insn (LoadWide dst value) next h o = by_shape (LoadWide dst value) next LoadWideShape wide_form.form (ap (LoadWide dst) (omega (arith, o.1)))
own_insn WideSecond next h o = absurd o
own_insn (Load loaded dst base offset) next h o =
    by_shape (Load loaded dst base offset) next (LoadShape loaded) (load_form loaded) (ap (Load loaded dst base) (to_z-of_z w16 offset h.2))
own_insn (StoreImm size base offset imm) next h o =
    by_shape (StoreImm size base offset imm) next (StoreImmShape size) (store_imm_form size)
    (ap (λ z. StoreImm size base z (cast_signed w32 (cast_unsigned w32 imm))) (to_z-of_z w16 offset h.1) ∙ ap (StoreImm size base offset) (to_z-of_z w32 imm h.2))
own_insn (Store size base offset src) next h o =
    by_shape (Store size base offset src) next (StoreShape size) (store_form size) (ap (λ z. Store size base z src) (to_z-of_z w16 offset h.1))
own_insn (JumpAlways offset) next h o = by_shape (JumpAlways offset) next JumpAlwaysShape always_form.form (ap JumpAlways (to_z-of_z w16 offset h))
own_insn (JumpAlwaysLong offset) next h o = by_shape (JumpAlwaysLong offset) next JumpAlwaysLongShape always_long_form.form (ap JumpAlwaysLong (to_z-of_z w32 offset h))
own_insn (JumpIf j) next h o =
    by_shape (JumpIf j) next (JumpIfShape j.width j.relation (source_of j.right)) (jump_form j.width j.relation (source_of j.right))
    (ap (λ z. JumpIf (record j { right = operand_of (source_of j.right) (fields_of (JumpIf j)); offset = z })) (to_z-of_z w16 j.offset h.2)
    ∙ ap (λ r. JumpIf (record j { right = r })) (operand_back j.right (fields_of (JumpIf j)) h.1 refl refl))
own_insn (CallHelper number) next h o = by_shape (CallHelper number) next CallShape call_form.form (ap CallHelper (to_z-of_z w32 number h))
own_insn (CallLocal offset) next h o = by_shape (CallLocal offset) next CallShape call_form.form (ap CallLocal (to_z-of_z w32 offset h))
own_insn Exit next h o = by_shape Exit next ExitShape exit_form.form refl
