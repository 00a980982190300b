-- Facts about all opcodes, each computed once.
use Rattle.std.proofs.Common.{◌≡◌, ℕ, zero, suc, ◌+◌, ◌<◌, length, List, [], ◌∷◌, Bool, true, false, cond, not, ◌==◌, ◌&&◌, subst, refl, arith, ap, ◌∙◌, sym}
use Rattle.std.specs.Prelude.{slice_index_or, count_by}
use Rattle.std.proofs.lemmas.Bool.{agree_below, agree_below_at, eqb-true, and_parts}
use Rattle.fc_isa.specs.declared.shape.Shape.{Shape}
use Rattle.fc_isa.specs.declared.shape.Shape.TheVariants.{Unknown}
use Rattle.fc_isa.specs.declared.table.TheConstants.{SHAPES}
use Rattle.fc_isa.proofs.Forms.{is_plain, form_back}
use Rattle.fc_isa.specs.Shapes.{opcode_of, shape_of, known_shapes, is_known, uses}
use Rattle.fc_isa.specs.OpcodeFields.{opcode_uses_dst, opcode_uses_src, opcode_uses_offset, opcode_uses_imm}

-- a row has the opcode's form: a known form with this opcode, or `Unknown` if no form has it
abbrev row_test : ℕ → Shape → Bool
row_test opcode row = cond (is_known row) ((opcode_of row == opcode) && is_plain row) (not (is_known (shape_of opcode)))

-- each row of a list has its opcode's form, if the list's first row is that of opcode k
abbrev rows_test : ℕ → List Shape → Bool
rows_test k [] = true
rows_test k (row ∷ rows) = row_test k row && rows_test (suc k) rows

all_rows : rows_test 0 SHAPES ≡ true
unfolding shape_of known_shapes
all_rows = refl

row_at : (rows : List Shape) (k i : ℕ) → rows_test k rows ≡ true → i < length rows → row_test (k + i) (slice_index_or rows i Unknown) ≡ true
row_at [] k i h l = absurd (omega arith)
row_at (row ∷ rows) k zero h l =
    let e : k ≡ k + 0 = omega arith in
    subst (λ o. row_test o row ≡ true) e (and_parts (row_test k row) (rows_test (suc k) rows) h).0
row_at (row ∷ rows) k (suc i) h l =
    let e : suc k + i ≡ k + suc i = omega arith in
    subst (λ o. row_test o (slice_index_or rows i Unknown) ≡ true) e (row_at rows (suc k) i (and_parts (row_test k row) (rows_test (suc k) rows) h).1 (omega arith))

unknown_is : (shape : Shape) → not (is_known shape) ≡ true → shape ≡ Unknown
unknown_is Unknown h = refl
unknown_is shape h = absurd (cc h)

tested : (opcode : ℕ) (row : Shape) (known : Bool) → is_known row ≡ known → row_test opcode row ≡ true → row ≡ shape_of opcode
tested opcode row true k h =
    let h' : ((opcode_of row == opcode) && is_plain row) ≡ true = rw k at h in
    let p = and_parts (opcode_of row == opcode) (is_plain row) h' in
    sym (form_back row k p.1) ∙ ap shape_of (eqb-true (opcode_of row) opcode p.0)
tested opcode row false k h =
    let h' : not (is_known (shape_of opcode)) ≡ true = rw k at h in
    unknown_is row (ap not k) ∙ sym (unknown_is (shape_of opcode) h')

-- a row of the table is its opcode's form
pub row_is : (opcode : ℕ) → opcode < 256 → slice_index_or SHAPES opcode Unknown ≡ shape_of opcode
row_is opcode h =
    let row = slice_index_or SHAPES opcode Unknown in
    let e : 0 + opcode ≡ opcode = omega arith in
    tested opcode row (is_known row) refl (subst (λ o. row_test o row ≡ true) e (row_at SHAPES 0 opcode all_rows h))

-- ---- the fields that the rows use

pub known_rows : count_by is_known SHAPES ≡ 117
known_rows = refl

-- the opcode has a known form, and that form uses the field
abbrev told : (Shape → Bool) → ℕ → Bool
told uses opcode = is_known (shape_of opcode) && uses (shape_of opcode)

abbrev told_by : (ℕ → Bool) → ℕ → Bool
told_by uses opcode = is_known (shape_of opcode) && uses opcode

known_told : (k a b : Bool) → (k && a) ≡ (k && b) → k ≡ true → a ≡ b
known_told true a b h e = h
known_told false a b h e = absurd (cc e)

dst_rows : agree_below (told (λ shape. (uses shape).dst)) (told_by opcode_uses_dst) 256 ≡ true
unfolding shape_of known_shapes opcode_uses_dst
dst_rows = refl

src_rows : agree_below (told (λ shape. (uses shape).src)) (told_by opcode_uses_src) 256 ≡ true
unfolding shape_of known_shapes opcode_uses_src
src_rows = refl

offset_rows : agree_below (told (λ shape. (uses shape).offset)) (told_by opcode_uses_offset) 256 ≡ true
unfolding shape_of known_shapes opcode_uses_offset
offset_rows = refl

imm_rows : agree_below (told (λ shape. (uses shape).imm)) (told_by opcode_uses_imm) 256 ≡ true
unfolding shape_of known_shapes opcode_uses_imm
imm_rows = refl

pub row_dst : (opcode : ℕ) → opcode < 256 → is_known (shape_of opcode) ≡ true → (uses (shape_of opcode)).dst ≡ opcode_uses_dst opcode
row_dst opcode l k = known_told _ _ _ (agree_below_at (told (λ shape. (uses shape).dst)) (told_by opcode_uses_dst) 256 opcode dst_rows l) k

pub row_src : (opcode : ℕ) → opcode < 256 → is_known (shape_of opcode) ≡ true → (uses (shape_of opcode)).src ≡ opcode_uses_src opcode
row_src opcode l k = known_told _ _ _ (agree_below_at (told (λ shape. (uses shape).src)) (told_by opcode_uses_src) 256 opcode src_rows l) k

pub row_offset : (opcode : ℕ) → opcode < 256 → is_known (shape_of opcode) ≡ true → (uses (shape_of opcode)).offset ≡ opcode_uses_offset opcode
row_offset opcode l k = known_told _ _ _ (agree_below_at (told (λ shape. (uses shape).offset)) (told_by opcode_uses_offset) 256 opcode offset_rows l) k

pub row_imm : (opcode : ℕ) → opcode < 256 → is_known (shape_of opcode) ≡ true → (uses (shape_of opcode)).imm ≡ opcode_uses_imm opcode
row_imm opcode l k = known_told _ _ _ (agree_below_at (told (λ shape. (uses shape).imm)) (told_by opcode_uses_imm) 256 opcode imm_rows l) k
