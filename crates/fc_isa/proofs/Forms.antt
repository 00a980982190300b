-- Forms and opcodes determine each other.
use Rattle.std.proofs.Common.{◌≡◌, ℕ, ◌==◌, Bool, true, false, cond, Option, Some, None, List, [], ◌∷◌, refl, sym, ap, ◌∙◌}
use Rattle.std.specs.List.{find, list_all}
use Rattle.std.proofs.lemmas.Bool.{eqb-true, and_parts}
use Rattle.fc_isa.specs.declared.insn.Width.{Width}
use Rattle.fc_isa.specs.declared.insn.Width.TheVariants.{W32, W64}
use Rattle.fc_isa.specs.declared.insn.AluOp.{AluOp}
use Rattle.fc_isa.specs.declared.insn.AluOp.TheVariants.{Add, Div, Mod, Sdiv, Smod}
use Rattle.fc_isa.specs.declared.insn.Relation.{Relation}
use Rattle.fc_isa.specs.declared.insn.Relation.TheVariants.{Eq}
use Rattle.fc_isa.specs.declared.insn.Size.{Size}
use Rattle.fc_isa.specs.declared.insn.Size.TheVariants.{Byte}
use Rattle.fc_isa.specs.declared.insn.LoadType.{LoadType}
use Rattle.fc_isa.specs.declared.insn.LoadType.TheVariants.{Unsigned, SignedByte, SignedHalfWord, SignedWord}
use Rattle.fc_isa.specs.declared.insn.ByteOrder.{ByteOrder}
use Rattle.fc_isa.specs.declared.insn.ByteOrder.TheVariants.{Little}
use Rattle.fc_isa.specs.declared.shape.SourceOperand.{SourceOperand}
use Rattle.fc_isa.specs.declared.shape.SourceOperand.TheVariants.{K, X}
use Rattle.fc_isa.specs.declared.shape.Shape.{Shape}
use Rattle.fc_isa.specs.declared.shape.Shape.TheVariants.{Unknown, Alu, Neg, End, LoadWide, Load, StoreImm, Store, JumpAlways, JumpAlwaysLong, JumpIf, Call, Exit}
use Rattle.fc_isa.specs.Shapes.{opcode_of, shape_of, known_shapes, or_unknown, is_known}

-- ---- the form of a form's opcode

-- the unsigned operation with the same opcode for signed division and modulo; any other operation
-- itself
abbrev pub unsigned : AluOp → AluOp
unsigned Sdiv = Div
unsigned Smod = Mod
unsigned op = op

alu_forms : (op : AluOp) →
    (shape_of (opcode_of (Alu op W32 K)) ≡ Alu (unsigned op) W32 K) × (shape_of (opcode_of (Alu op W32 X)) ≡ Alu (unsigned op) W32 X)
    × (shape_of (opcode_of (Alu op W64 K)) ≡ Alu (unsigned op) W64 K) × (shape_of (opcode_of (Alu op W64 X)) ≡ Alu (unsigned op) W64 X)
unfolding shape_of known_shapes
alu_forms Add = (refl, refl, refl, refl)
alu_forms op = (refl, refl, refl, refl)

pub alu_form : (op : AluOp) (width : Width) (source : SourceOperand) → shape_of (opcode_of (Alu op width source)) ≡ Alu (unsigned op) width source
alu_form op W32 K = (alu_forms op).0
alu_form op W32 X = (alu_forms op).1
alu_form op W64 K = (alu_forms op).2
alu_form op W64 X = (alu_forms op).3

jump_forms : (relation : Relation) →
    (shape_of (opcode_of (JumpIf W32 relation K)) ≡ JumpIf W32 relation K) × (shape_of (opcode_of (JumpIf W32 relation X)) ≡ JumpIf W32 relation X)
    × (shape_of (opcode_of (JumpIf W64 relation K)) ≡ JumpIf W64 relation K) × (shape_of (opcode_of (JumpIf W64 relation X)) ≡ JumpIf W64 relation X)
unfolding shape_of known_shapes
jump_forms Eq = (refl, refl, refl, refl)
jump_forms relation = (refl, refl, refl, refl)

pub jump_form : (width : Width) (relation : Relation) (source : SourceOperand) → shape_of (opcode_of (JumpIf width relation source)) ≡ JumpIf width relation source
jump_form W32 relation K = (jump_forms relation).0
jump_form W32 relation X = (jump_forms relation).1
jump_form W64 relation K = (jump_forms relation).2
jump_form W64 relation X = (jump_forms relation).3

unsigned_form : (size : Size) → shape_of (opcode_of (Load (Unsigned size))) ≡ Load (Unsigned size)
unfolding shape_of known_shapes
unsigned_form Byte = refl
unsigned_form size = refl

signed_forms : (shape_of (opcode_of (Load SignedByte)) ≡ Load SignedByte) × (shape_of (opcode_of (Load SignedHalfWord)) ≡ Load SignedHalfWord) × (shape_of (opcode_of (Load SignedWord)) ≡ Load SignedWord)
unfolding shape_of known_shapes
signed_forms = (refl, refl, refl)

pub load_form : (loaded : LoadType) → shape_of (opcode_of (Load loaded)) ≡ Load loaded
load_form (Unsigned size) = unsigned_form size
load_form SignedByte = signed_forms.0
load_form SignedHalfWord = signed_forms.1
load_form SignedWord = signed_forms.2

pub store_imm_form : (size : Size) → shape_of (opcode_of (StoreImm size)) ≡ StoreImm size
unfolding shape_of known_shapes
store_imm_form Byte = refl
store_imm_form size = refl

pub store_form : (size : Size) → shape_of (opcode_of (Store size)) ≡ Store size
unfolding shape_of known_shapes
store_form Byte = refl
store_form size = refl

pub neg_form : (width : Width) → shape_of (opcode_of (Neg width)) ≡ Neg width
unfolding shape_of known_shapes
neg_form W32 = refl
neg_form W64 = refl

pub end_form : (order : ByteOrder) → shape_of (opcode_of (End order)) ≡ End order
unfolding shape_of known_shapes
end_form Little = refl
end_form order = refl

-- the form is the one that is found by its own opcode
pub record HasForm (shape : Shape) : Type 0 where
  pub form : shape_of (opcode_of shape) ≡ shape

pub wide_form : HasForm LoadWide
unfolding shape_of known_shapes
wide_form = record { form = refl }

pub always_form : HasForm JumpAlways
unfolding shape_of known_shapes
always_form = record { form = refl }

pub always_long_form : HasForm JumpAlwaysLong
unfolding shape_of known_shapes
always_long_form = record { form = refl }

pub call_form : HasForm Call
unfolding shape_of known_shapes
call_form = record { form = refl }

pub exit_form : HasForm Exit
unfolding shape_of known_shapes
exit_form = record { form = refl }

-- ---- the opcode of an opcode's form

-- the form isn't that of signed division or modulo; the form of an opcode never is
abbrev pub is_plain : Shape → Bool
is_plain (Alu Sdiv width source) = false
is_plain (Alu Smod width source) = false
is_plain shape = true

-- the element that a search for p finds passes p, and it passes q, as all elements of the list do
pub record IsFound {A : Type 0} (p q : A → Bool) (x : A) : Type 0 where
  pub passes : p x ≡ true
  pub also : q x ≡ true

found_step : {A : Type 0} (p q : A → Bool) (y x : A) (ys : List A) (b : Bool) → p y ≡ b → q y ≡ true → cond b (Some y) (find p ys) ≡ Some x → (find p ys ≡ Some x → IsFound p q x) → IsFound p q x
found_step p q y x ys true e k h more = let s : y ≡ x = cc h in record { passes = ap p (sym s) ∙ e; also = ap q (sym s) ∙ k }
found_step p q y x ys false e k h more = more h

find_passes : {A : Type 0} (p q : A → Bool) (xs : List A) (x : A) → list_all q xs ≡ true → find p xs ≡ Some x → IsFound p q x
find_passes p q [] x a h = absurd (cc h)
find_passes p q (y ∷ ys) x a h =
    let ab = and_parts (q y) (list_all q ys) a in
    found_step p q y x ys (p y) refl ab.0 h (find_passes p q ys x ab.1)

all_plain : list_all is_plain known_shapes ≡ true
unfolding known_shapes
all_plain = refl

-- the form has this opcode, and is neither signed division nor signed modulo
pub record IsForm (opcode : ℕ) (shape : Shape) : Type 0 where
  pub opcode_is : opcode_of shape ≡ opcode
  pub plain : is_plain shape ≡ true

form_found : (opcode : ℕ) (shape : Shape) (r : Option Shape) → find (λ s. opcode_of s == opcode) known_shapes ≡ r → or_unknown r ≡ shape → is_known shape ≡ true → IsForm opcode shape
form_found opcode shape (Some s) e h k =
    let f = find_passes (λ t. opcode_of t == opcode) is_plain known_shapes s all_plain e in
    record { opcode_is = ap opcode_of (sym h) ∙ eqb-true (opcode_of s) opcode f.passes; plain = ap is_plain (sym h) ∙ f.also }
form_found opcode shape None e h k = absurd (cc (ap is_known h, k))

pub form_is : (opcode : ℕ) (shape : Shape) → shape_of opcode ≡ shape → is_known shape ≡ true → IsForm opcode shape
unfolding shape_of
form_is opcode shape h k = form_found opcode shape (find (λ s. opcode_of s == opcode) known_shapes) refl h k

-- a known form other than signed division and modulo is the form that its opcode has
pub form_back : (shape : Shape) → is_known shape ≡ true → is_plain shape ≡ true → shape_of (opcode_of shape) ≡ shape
form_back (Alu Sdiv width source) k p = absurd (cc p)
form_back (Alu Smod width source) k p = absurd (cc p)
form_back (Alu op width source) k p = alu_form op width source
form_back (Neg width) k p = neg_form width
form_back (End order) k p = end_form order
form_back LoadWide k p = wide_form.form
form_back (Load loaded) k p = load_form loaded
form_back (StoreImm size) k p = store_imm_form size
form_back (Store size) k p = store_form size
form_back JumpAlways k p = always_form.form
form_back JumpAlwaysLong k p = always_long_form.form
form_back (JumpIf width relation source) k p = jump_form width relation source
form_back Call k p = call_form.form
form_back Exit k p = exit_form.form
form_back Unknown k p = absurd (cc k)
