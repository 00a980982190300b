-- Fields without a fault are those of the instruction that they encode.
use Rattle.std.proofs.Common.{◌≡◌, ◌⊎◌, inl, inr, ℕ, ◌+◌, ◌*◌, ◌^◌, ◌<◌, ◌==◌, ◌&&◌, ◌||◌, not, Bool, true, false, cond, Option, Some, None, refl, sym, ap, ◌∙◌, arith, rules}
use Rattle.std.specs.Int.{w16, w32, cast_signed}
use Rattle.std.specs.Prelude.{FitsSigned, nat_lt, if◌then◌else◌}
use Rattle.std.proofs.lemmas.Bool.{eq-eqb, eqb-true, and_parts}
use Rattle.std.proofs.lemmas.Bool.Decides.{nat_tests}
use Rattle.std.proofs.lemmas.Int.{ints, of_z-to_z}
use Rattle.fc_isa.specs.declared.insn.Width.{Width}
use Rattle.fc_isa.specs.declared.insn.Width.TheVariants.{W32, W64}
use Rattle.fc_isa.specs.declared.insn.AluOp.{AluOp}
use Rattle.fc_isa.specs.declared.insn.AluOp.TheVariants.{Div, Mod, Mov, Sdiv, Smod}
use Rattle.fc_isa.specs.declared.insn.Operand.TheVariants.{Reg}
use Rattle.fc_isa.specs.declared.insn.SignExtension.{SignExtension}
use Rattle.fc_isa.specs.declared.insn.SignExtension.TheVariants.{Byte, HalfWord, Word}
use Rattle.fc_isa.specs.declared.insn.Insn.{Insn}
use Rattle.fc_isa.specs.declared.insn.Insn.TheVariants.{Alu, SignExtend, LoadWide, CallHelper, CallLocal}
use Rattle.fc_isa.specs.declared.shape.SourceOperand.{SourceOperand}
use Rattle.fc_isa.specs.declared.shape.SourceOperand.TheVariants.{K, X}
use Rattle.fc_isa.specs.declared.shape.Shape.{Shape}
use Rattle.fc_isa.specs.declared.shape.Shape.TheVariants.{Unknown as UnknownShape, Alu as AluShape, Neg as NegShape, End as EndShape, LoadWide as LoadWideShape, Load as LoadShape, StoreImm as StoreImmShape, Store as StoreShape, JumpAlways as JumpAlwaysShape, JumpAlwaysLong as JumpAlwaysLongShape, JumpIf as JumpIfShape, Call as CallShape, Exit as ExitShape}
use Rattle.fc_isa.specs.declared.rule.Rule.{Rule}
use Rattle.fc_isa.specs.declared.rule.Rule.TheVariants.{Opcode, Register, FramePointer, Field, WideLoad}
use Rattle.fc_isa.specs.Shapes.{opcode_of, shape_of, is_known, is_wide, uses, writes_dst}
use Rattle.fc_isa.specs.Program.{IsOperand, IsInsn, is_wide_load, is_wide_second}
use Rattle.fc_isa.specs.Encoding.{Fields, fields_of, second_half, source_of, src_of, imm_of, sign_offset, swap_bits, swap_width, unused_are_zero, values_allowed, is_move_offset, is_second_half, breaks, slot_fault, insn_with, insn_of, arithmetic, move_insn, called, operand_of, imm_after}
use Rattle.fc_isa.proofs.Forms.{IsForm, form_is}
use Rattle.fc_isa.proofs.Insns.{Fit}

-- ---- properties of fields that break no rule

pub none_of_five : (a b c d e : Bool) (v w x y z : Rule) → cond a (Some v) (cond b (Some w) (cond c (Some x) (cond d (Some y) (cond e (Some z) None)))) ≡ None
    → (a ≡ false) × (b ≡ false) × (c ≡ false) × (d ≡ false) × (e ≡ false)
none_of_five true b c d e v w x y z h = absurd (cc h)
none_of_five false true c d e v w x y z h = absurd (cc h)
none_of_five false false true d e v w x y z h = absurd (cc h)
none_of_five false false false true e v w x y z h = absurd (cc h)
none_of_five false false false false true v w x y z h = absurd (cc h)
none_of_five false false false false false v w x y z h = (refl, refl, refl, refl, refl)

not_false : (b : Bool) → not b ≡ false → b ≡ true
not_false true h = refl
not_false false h = absurd (cc h)

either : (a b : Bool) → (a || b) ≡ true → (a ≡ true) ⊎ (b ≡ true)
either true b h = inl refl
either false b h = inr h

unless : (a : Bool) (n m : ℕ) → (a && (n == m)) ≡ false → a ≡ true → n ≡ m → ⊥
unless true n m h e k = cc (eq-eqb n m k, h)
unless false n m h e k = cc e

second_wide : (a b : Bool) → (a && not b) ≡ false → a ≡ true → b ≡ true
second_wide true true h e = refl
second_wide true false h e = absurd (cc h)
second_wide false b h e = absurd (cc e)

low_registers : (d s : ℕ) → (nat_lt 10 d || nat_lt 10 s) ≡ false → (d < 11) × (s < 11)
low_registers d s h = (grind (arith, nat_tests), grind (arith, nat_tests))

pub record IsFaultless (f : Fields) (next : Option Fields) (s : Shape) : Type 0 where
  pub known : is_known s ≡ true
  pub dst : f.dst < 11
  pub src : f.src < 11
  pub target : writes_dst s ≡ true → f.dst < 10
  pub unused : unused_are_zero s f ≡ true
  pub values : values_allowed s f ≡ true
  pub wide : is_wide s ≡ true → is_second_half next ≡ true

not_ten_less : (n : ℕ) → n < 11 → (n ≡ 10 → ⊥) → n < 10
not_ten_less n h k = grind arith

faultless : (f : Fields) (next : Option Fields) → slot_fault f next ≡ None → IsFaultless f next (shape_of f.opcode)
faultless f next h =
    let p = none_of_five (breaks f next Opcode) (breaks f next Register) (breaks f next FramePointer) (breaks f next Field) (breaks f next WideLoad) Opcode Register FramePointer Field WideLoad h in
    let r = low_registers f.dst f.src p.1 in
    let v = and_parts (unused_are_zero (shape_of f.opcode) f) (values_allowed (shape_of f.opcode) f) (not_false _ p.3) in
    record {
      known = not_false (is_known (shape_of f.opcode)) p.0;
      dst = r.0;
      src = r.1;
      target = λ w. not_ten_less f.dst r.0 (unless (writes_dst (shape_of f.opcode)) f.dst 10 p.2 w);
      unused = v.0;
      values = v.1;
      wide = second_wide (is_wide (shape_of f.opcode)) (is_second_half next) p.4;
    }

-- the fields that a form doesn't use are zero
pub record Zeros (s : Shape) (f : Fields) : Type 0 where
  pub dst : (uses s).dst ≡ false → f.dst ≡ 0
  pub src : (uses s).src ≡ false → f.src ≡ 0
  pub offset : (uses s).offset ≡ false → f.offset ≡ 0
  pub imm : (uses s).imm ≡ false → f.imm ≡ 0

or_zero : (u : Bool) (n : ℕ) → (u || (n == 0)) ≡ true → u ≡ false → n ≡ 0
or_zero true n h e = absurd (cc e)
or_zero false n h e = eqb-true n 0 h

zeros : (s : Shape) (f : Fields) → unused_are_zero s f ≡ true → Zeros s f
zeros s f h =
    let halves = and_parts (((uses s).dst || (f.dst == 0)) && ((uses s).src || (f.src == 0))) (((uses s).offset || (f.offset == 0)) && ((uses s).imm || (f.imm == 0))) h in
    let regs = and_parts ((uses s).dst || (f.dst == 0)) ((uses s).src || (f.src == 0)) halves.0 in
    let rest = and_parts ((uses s).offset || (f.offset == 0)) ((uses s).imm || (f.imm == 0)) halves.1 in
    record {
      dst = or_zero (uses s).dst f.dst regs.0;
      src = or_zero (uses s).src f.src regs.1;
      offset = or_zero (uses s).offset f.offset rest.0;
      imm = or_zero (uses s).imm f.imm rest.1;
    }

-- ---- the fields of the instruction

same : (f : Fields) (o d s k i : ℕ) → o ≡ f.opcode → d ≡ f.dst → s ≡ f.src → k ≡ f.offset → i ≡ f.imm → record { opcode = o; dst = d; src = s; offset = k; imm = i } ≡ f
same f o d s k i eo ed es ek ei = rw (eo, ed, es, ek, ei) refl

-- of the fields src and imm, the one that arithmetic with this source doesn't use is zero
record OneOf (source : SourceOperand) (f : Fields) : Type 0 where
  src : (uses (AluShape Mov W32 source)).src ≡ false → f.src ≡ 0
  imm : (uses (AluShape Mov W32 source)).imm ≡ false → f.imm ≡ 0

one_of : (op : AluOp) (width : Width) (source : SourceOperand) (f : Fields) → Zeros (AluShape op width source) f → OneOf source f
one_of op width source f z = record { src = z.src; imm = z.imm }

-- if arithmetic has the offset of its operation, the decoded instruction has the fields from which
-- it was decoded
plain_fields : (op : AluOp) (width : Width) (source : SourceOperand) (f : Fields) → opcode_of (AluShape op width source) ≡ f.opcode → sign_offset op ≡ f.offset → OneOf source f → Fit f
    → fields_of (Alu op width f.dst (operand_of source f)) ≡ f
plain_fields op width K f o k z fit = same f _ _ _ _ _ o refl (sym (z.src refl)) k (of_z-to_z w32 f.imm fit.imm)
plain_fields op width X f o k z fit = same f _ _ _ _ _ o refl refl k (sym (z.imm refl))

fields_if : (b : Bool) (x y : AluOp) (width : Width) (source : SourceOperand) (f : Fields) → (b ≡ true → fields_of (Alu x width f.dst (operand_of source f)) ≡ f) → (b ≡ false → fields_of (Alu y width f.dst (operand_of source f)) ≡ f)
    → fields_of (Alu (if b then x else y) width f.dst (operand_of source f)) ≡ f
fields_if true x y width source f p q = p refl
fields_if false x y width source f p q = q refl

insn_if : (b : Bool) (x y : Insn) (f : Fields) → (b ≡ true → fields_of x ≡ f) → (b ≡ false → fields_of y ≡ f) → fields_of (if b then x else y) ≡ f
insn_if true x y f p q = p refl
insn_if false x y f p q = q refl

-- a number that is a or b, and isn't a, is b
other : (n a b : ℕ) → ((n == a) || (n == b)) ≡ true → (n == a) ≡ false → b ≡ n
other n a b h e = elim (either (n == a) (n == b) h) [ inl t ↦ absurd (cc (t, e)) | inr t ↦ sym (eqb-true n b t) ]

moved_fields : (width : Width) (f : Fields) → opcode_of (AluShape Mov width X) ≡ f.opcode → Zeros (AluShape Mov width X) f → is_move_offset width f.offset ≡ true → fields_of (move_insn width f) ≡ f
moved_fields W32 f o z v =
    insn_if (f.offset == 0) _ _ f (λ e. same f _ _ _ _ _ o refl refl (sym (eqb-true f.offset 0 e)) (sym (z.imm refl))) (λ a.
    insn_if (f.offset == 8) _ _ f (λ e. same f _ _ _ _ _ o refl refl (sym (eqb-true f.offset 8 e)) (sym (z.imm refl))) (λ b.
    insn_if (f.offset == 16) _ _ f (λ e. same f _ _ _ _ _ o refl refl (sym (eqb-true f.offset 16 e)) (sym (z.imm refl))) (λ c. absurd (no_other f.offset a b c v))))
  where
    no_other : (n : ℕ) → (n == 0) ≡ false → (n == 8) ≡ false → (n == 16) ≡ false → is_move_offset W32 n ≡ true → ⊥
    no_other n a b c v = let v' : ((false || false) || false) ≡ true = rw (a, b, c) at v in cc v'
moved_fields W64 f o z v =
    insn_if (f.offset == 0) _ _ f (λ e. same f _ _ _ _ _ o refl refl (sym (eqb-true f.offset 0 e)) (sym (z.imm refl))) (λ a.
    insn_if (f.offset == 8) _ _ f (λ e. same f _ _ _ _ _ o refl refl (sym (eqb-true f.offset 8 e)) (sym (z.imm refl))) (λ b.
    insn_if (f.offset == 16) _ _ f (λ e. same f _ _ _ _ _ o refl refl (sym (eqb-true f.offset 16 e)) (sym (z.imm refl))) (λ c.
    same f _ _ _ _ _ o refl refl (last f.offset a b c v) (sym (z.imm refl)))))
  where
    last : (n : ℕ) → (n == 0) ≡ false → (n == 8) ≡ false → (n == 16) ≡ false → is_move_offset W64 n ≡ true → 32 ≡ n
    last n a b c v = let v' : ((false || false) || (false || (n == 32))) ≡ true = rw (a, b, c) at v in sym (eqb-true n 32 v')

alu_fields : (op : AluOp) (width : Width) (source : SourceOperand) (f : Fields) → IsForm f.opcode (AluShape op width source) → Zeros (AluShape op width source) f → values_allowed (AluShape op width source) f ≡ true → Fit f
    → fields_of (arithmetic op width source f) ≡ f
alu_fields Sdiv width source f form z v fit = absurd (cc form.plain)
alu_fields Smod width source f form z v fit = absurd (cc form.plain)
alu_fields Div width source f form z v fit =
    fields_if (f.offset == 0) _ _ width source f
    (λ e. let k = eqb-true f.offset 0 e in plain_fields Div width source f form.opcode_is (sym k) (one_of Div width source f z) fit)
    (λ e. let k = other f.offset 0 1 v e in plain_fields Sdiv width source f form.opcode_is k (one_of Div width source f z) fit)
alu_fields Mod width source f form z v fit =
    fields_if (f.offset == 0) _ _ width source f
    (λ e. let k = eqb-true f.offset 0 e in plain_fields Mod width source f form.opcode_is (sym k) (one_of Mod width source f z) fit)
    (λ e. let k = other f.offset 0 1 v e in plain_fields Smod width source f form.opcode_is k (one_of Mod width source f z) fit)
alu_fields Mov width X f form z v fit = moved_fields width f form.opcode_is z v
alu_fields Mov width K f form z v fit = plain_fields Mov width K f form.opcode_is (sym (z.offset refl)) (one_of Mov width K f z) fit
alu_fields op width source f form z v fit = plain_fields op width source f form.opcode_is (sym (z.offset refl)) (one_of op width source f z) fit

swapped : (imm : ℕ) → (((imm == 16) || (imm == 32)) || (imm == 64)) ≡ true → swap_bits (swap_width imm) ≡ imm
swapped imm v = by_tests (imm == 16) (imm == 32) refl refl
  where
    by_tests : (a b : Bool) → (imm == 16) ≡ a → (imm == 32) ≡ b → swap_bits (swap_width imm) ≡ imm
    by_tests true b p q = rw p (sym (eqb-true imm 16 p))
    by_tests false true p q = rw (p, q) (sym (eqb-true imm 32 q))
    by_tests false false p q = let v' : ((false || false) || (imm == 64)) ≡ true = rw (p, q) at v in rw (p, q) (sym (eqb-true imm 64 v'))

operand_fields : (source : SourceOperand) (f : Fields) → Fit f → OneOf source f → (source_of (operand_of source f) ≡ source) × (src_of (operand_of source f) ≡ f.src) × (imm_of (operand_of source f) ≡ f.imm)
operand_fields K f fit z = (refl, sym (z.src refl), of_z-to_z w32 f.imm fit.imm)
operand_fields X f fit z = (refl, refl, sym (z.imm refl))

called_fields : (f : Fields) → opcode_of CallShape ≡ f.opcode → Zeros CallShape f → values_allowed CallShape f ≡ true → Fit f → fields_of (called f) ≡ f
called_fields f o z v fit =
    insn_if (f.src == 0) _ _ f
    (λ e. same f _ _ _ _ _ o (sym (z.dst refl)) (sym (eqb-true f.src 0 e)) (sym (z.offset refl)) (of_z-to_z w32 f.imm fit.imm))
    (λ e. same f _ _ _ _ _ o (sym (z.dst refl)) (other f.src 0 1 v e) (sym (z.offset refl)) (of_z-to_z w32 f.imm fit.imm))

by_form : (s : Shape) (f : Fields) (high : ℕ) → is_known s ≡ true → IsForm f.opcode s → Zeros s f → values_allowed s f ≡ true → Fit f → fields_of (insn_with s f high) ≡ f
by_form (AluShape op width source) f high k form z v fit = alu_fields op width source f form z v fit
by_form (NegShape width) f high k form z v fit = same f _ _ _ _ _ form.opcode_is refl (sym (z.src refl)) (sym (z.offset refl)) (sym (z.imm refl))
by_form (EndShape order) f high k form z v fit = same f _ _ _ _ _ form.opcode_is refl (sym (z.src refl)) (sym (z.offset refl)) (swapped f.imm v)
by_form LoadWideShape f high k form z v fit = same f _ _ _ _ _ form.opcode_is refl (sym (z.src refl)) (sym (z.offset refl)) (omega (arith, fit.imm))
by_form (LoadShape loaded) f high k form z v fit = same f _ _ _ _ _ form.opcode_is refl refl (of_z-to_z w16 f.offset fit.offset) (sym (z.imm refl))
by_form (StoreImmShape size) f high k form z v fit = same f _ _ _ _ _ form.opcode_is refl (sym (z.src refl)) (of_z-to_z w16 f.offset fit.offset) (of_z-to_z w32 f.imm fit.imm)
by_form (StoreShape size) f high k form z v fit = same f _ _ _ _ _ form.opcode_is refl refl (of_z-to_z w16 f.offset fit.offset) (sym (z.imm refl))
by_form JumpAlwaysShape f high k form z v fit = same f _ _ _ _ _ form.opcode_is (sym (z.dst refl)) (sym (z.src refl)) (of_z-to_z w16 f.offset fit.offset) (sym (z.imm refl))
by_form JumpAlwaysLongShape f high k form z v fit = same f _ _ _ _ _ form.opcode_is (sym (z.dst refl)) (sym (z.src refl)) (sym (z.offset refl)) (of_z-to_z w32 f.imm fit.imm)
by_form (JumpIfShape width relation source) f high k form z v fit =
    let p = operand_fields source f fit (record { src = z.src; imm = z.imm }) in
    same f _ _ _ _ _ (ap (λ s. opcode_of (JumpIfShape width relation s)) p.0 ∙ form.opcode_is) refl p.1 (of_z-to_z w16 f.offset fit.offset) p.2
by_form CallShape f high k form z v fit = called_fields f form.opcode_is z v fit
by_form ExitShape f high k form z v fit = same f _ _ _ _ _ form.opcode_is (sym (z.dst refl)) (sym (z.src refl)) (sym (z.offset refl)) (sym (z.imm refl))
by_form UnknownShape f high k form z v fit = absurd (cc k)

pub fields_of-insn_of : (f : Fields) (next : Option Fields) → Fit f → slot_fault f next ≡ None → fields_of (insn_of f next) ≡ f
fields_of-insn_of f next fit h =
    let g = faultless f next h in
    by_form (shape_of f.opcode) f (imm_after next) g.known (form_is f.opcode (shape_of f.opcode) refl g.known) (zeros (shape_of f.opcode) f g.unused) g.values fit

-- ---- the instruction is within the ranges of its parts

signed16 : (n : ℕ) → n < 2 ^ 16 → FitsSigned w16 (cast_signed w16 n)
signed16 n h = search (rules, ints)

signed32 : (n : ℕ) → n < 2 ^ 32 → FitsSigned w32 (cast_signed w32 n)
signed32 n h = search (rules, ints)

operand_fits : (source : SourceOperand) (f : Fields) → f.src < 11 → Fit f → IsOperand (operand_of source f)
operand_fits K f s fit = signed32 f.imm fit.imm
operand_fits X f s fit = s

if_is : (P : Insn → Type 0) (b : Bool) (x y : Insn) → P x → P y → P (if b then x else y)
if_is P true x y p q = p
if_is P false x y p q = q

-- a property of a plain move and of every sign extension is a property of the move that a slot's
-- fields encode
moved_is : (P : Insn → Type 0) (width : Width) (f : Fields) → P (Alu Mov width f.dst (Reg f.src)) → ((e : SignExtension) → P (SignExtend e f.dst f.src)) → P (move_insn width f)
moved_is P width f p q =
    let word = SignExtend Word f.dst f.src in
    let half = SignExtend (HalfWord width) f.dst f.src in
    let byte = SignExtend (Byte width) f.dst f.src in
    if_is P (f.offset == 0) (Alu Mov width f.dst (Reg f.src)) (if f.offset == 8 then byte else (if f.offset == 16 then half else word)) p
    (if_is P (f.offset == 8) byte (if f.offset == 16 then half else word) (q (Byte width)) (if_is P (f.offset == 16) half word (q (HalfWord width)) (q Word)))

called_is : (P : Insn → Type 0) (f : Fields) → P (CallHelper (cast_signed w32 f.imm)) → P (CallLocal (cast_signed w32 f.imm)) → P (called f)
called_is P f p q = if_is P (f.src == 0) (CallHelper (cast_signed w32 f.imm)) (CallLocal (cast_signed w32 f.imm)) p q

arithmetic_fits : (op : AluOp) (width : Width) (source : SourceOperand) (f : Fields) → f.dst < 10 → f.src < 11 → Fit f → IsInsn (arithmetic op width source f)
arithmetic_fits Mov width X f d s fit = moved_is IsInsn width f (d, s) (λ e. (d, s))
arithmetic_fits op width source f d s fit = (d, operand_fits source f s fit)

form_fits : (s : Shape) (f : Fields) (high : ℕ) → f.dst < 11 → f.src < 11 → (writes_dst s ≡ true → f.dst < 10) → high < 2 ^ 32 → Fit f → IsInsn (insn_with s f high)
form_fits (AluShape op width source) f high d s t h fit = arithmetic_fits op width source f (t refl) s fit
form_fits (NegShape width) f high d s t h fit = t refl
form_fits (EndShape order) f high d s t h fit = t refl
form_fits LoadWideShape f high d s t h fit = (t refl, omega (arith, fit.imm))
form_fits (LoadShape loaded) f high d s t h fit = (t refl, s, signed16 f.offset fit.offset)
form_fits (StoreImmShape size) f high d s t h fit = (d, signed16 f.offset fit.offset, signed32 f.imm fit.imm)
form_fits (StoreShape size) f high d s t h fit = (d, signed16 f.offset fit.offset, s)
form_fits JumpAlwaysShape f high d s t h fit = signed16 f.offset fit.offset
form_fits JumpAlwaysLongShape f high d s t h fit = signed32 f.imm fit.imm
form_fits (JumpIfShape width relation source) f high d s t h fit = (d, operand_fits source f s fit, signed16 f.offset fit.offset)
form_fits CallShape f high d s t h fit = called_is IsInsn f (signed32 f.imm fit.imm) (signed32 f.imm fit.imm)
form_fits ExitShape f high d s t h fit = tt
form_fits UnknownShape f high d s t h fit = tt

pub IsInsn-insn_of : (f : Fields) (next : Option Fields) → Fit f → imm_after next < 2 ^ 32 → slot_fault f next ≡ None → IsInsn (insn_of f next)
IsInsn-insn_of f next fit i h =
    let g = faultless f next h in
    form_fits (shape_of f.opcode) f (imm_after next) g.dst g.src g.target i fit

-- ---- a wide load and its second half

narrow : (op : AluOp) (width : Width) (source : SourceOperand) (f : Fields) → (is_wide_load (arithmetic op width source f) ≡ false) × (is_wide_second (arithmetic op width source f) ≡ false)
narrow Mov width X f = moved_is (λ i. (is_wide_load i ≡ false) × (is_wide_second i ≡ false)) width f (refl, refl) (λ e. (refl, refl))
narrow op width source f = (refl, refl)

-- the instruction of a form is a wide load exactly if the form is that of wide loads
pub is_wide_insn : (s : Shape) (f : Fields) (high : ℕ) → is_wide_load (insn_with s f high) ≡ is_wide s
is_wide_insn (AluShape op width source) f high = (narrow op width source f).0
is_wide_insn CallShape f high = called_is (λ i. is_wide_load i ≡ false) f refl refl
is_wide_insn s f high = refl

-- the instruction of a form is never a second half
pub is_own_insn : (s : Shape) (f : Fields) (high : ℕ) → is_wide_second (insn_with s f high) ≡ false
is_own_insn (AluShape op width source) f high = (narrow op width source f).1
is_own_insn CallShape f high = called_is (λ i. is_wide_second i ≡ false) f refl refl
is_own_insn s f high = refl

-- a wide load's next slot is the second half of its value
pub record IsWideLoad (f : Fields) (next : Fields) : Type 0 where
  pub insn : insn_of f (Some next) ≡ LoadWide f.dst (next.imm * 2 ^ 32 + f.imm)
  pub half : second_half next.imm ≡ next

half_is : (g : Fields) → is_second_half (Some g) ≡ true → second_half g.imm ≡ g
half_is g h =
    let p = and_parts ((g.opcode == 0) && (g.dst == 0)) ((g.src == 0) && (g.offset == 0)) h in
    let q = and_parts (g.opcode == 0) (g.dst == 0) p.0 in
    let r = and_parts (g.src == 0) (g.offset == 0) p.1 in
    same g _ _ _ _ _ (sym (eqb-true g.opcode 0 q.0)) (sym (eqb-true g.dst 0 q.1)) (sym (eqb-true g.src 0 r.0)) (sym (eqb-true g.offset 0 r.1)) refl

wide_shape : (s : Shape) → is_wide s ≡ true → s ≡ LoadWideShape
wide_shape LoadWideShape h = refl
wide_shape s h = absurd (cc h)

-- a slot follows a wide load that has no fault, and is its second half
pub record HasHalf (f : Fields) (next : Option Fields) : Type 0 where
  pub half : Fields
  pub is : next ≡ Some half
  pub wide : IsWideLoad f half

has_half : (f : Fields) (next : Option Fields) → shape_of f.opcode ≡ LoadWideShape → is_second_half next ≡ true → HasHalf f next
has_half f (Some g) s h = record { half = g; is = refl; wide = record { insn = ap (λ s. insn_with s f g.imm) s; half = half_is g h } }
has_half f None s h = absurd (cc h)

pub wide_faultless : (f : Fields) (next : Option Fields) → is_wide (shape_of f.opcode) ≡ true → slot_fault f next ≡ None → HasHalf f next
wide_faultless f next w h = let g = faultless f next h in has_half f next (wide_shape (shape_of f.opcode) w) (g.wide w)
