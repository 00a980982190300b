-- The frames that calls add from a slot on: no fewer than from a later slot of its function, and
-- more than in a function that it calls.
use Rattle.std.proofs.Common.{◌≡◌, ℕ, zero, suc, ◌+◌, ◌-◌, ◌<◌, ◌≤◌, ◌==◌, ◌||◌, ◌&&◌, not, nat_lt, min, max, Bool, true, false, ℤ, List, [], ◌∷◌, length, drop, Option, Some, None, get_or, inl, inr, refl, sym, ap, ◌∙◌, subst, arith}
use Rattle.std.specs.Prelude.{slice_get}
use Rattle.std.proofs.lemmas.Bool.{cases_lt}
use Rattle.std.proofs.lemmas.Bool.Decides.{nat_tests}
use Rattle.std.proofs.lemmas.List.{get_or-drop, get_or_past}
use Rattle.fc_isa.specs.declared.insn.Insn.{Insn}
use Rattle.fc_isa.specs.declared.insn.Insn.TheVariants.{Alu, Unary, SignExtend, LoadWide, WideSecond, Load, StoreImm, Store, JumpAlways, JumpAlwaysLong, JumpIf, CallHelper, CallLocal, Exit}
use Rattle.fc_isa.specs.declared.rule.Rule.TheVariants.{JumpTarget}
use Rattle.fc_isa.specs.Program.{is_program}
use Rattle.fc_isa.specs.Flow.{target, landing}
use Rattle.fc_image.specs.Functions.{is_at, calls, is_called, is_start, starts_within, depths, frames}
use Rattle.fc_image.specs.Laws.{frames_at}
use Rattle.fc_image.specs.ShapeRules.{is_place, is_instruction, is_later, leaves, IsShapedBy}
use Rattle.fc_image.proofs.FunctionTables.{length-depths, depth_is, rest_of}
use Rattle.fc_image.proofs.PathLaws.{offset_lands, not_true, first_false, second_false, placed}
use Rattle.fc_image.proofs.Costs.{flow_there}

-- ---- the frames of a slot, from those of later ones

pub stay_frames : (code : List Insn) (slot : ℕ) (insn : Insn) → slice_get code slot ≡ Some insn → is_start code (slot + 1) ≡ false → frames_at code (slot + 1) ≤ frames_at code slot
stay_frames code slot insn g s =
    let table = depths (is_start code) 0 code in
    let is = depth_is (is_start code) code slot insn g in
    let rest : rest_of (is_start code (slot + 1)) (drop (suc slot) table) ≡ get_or (drop (suc slot) table) 0 0 = ap (λ b. rest_of b (drop (suc slot) table)) s in
    let n : suc slot + 0 ≡ slot + 1 = omega arith in
    let next : get_or (drop (suc slot) table) 0 0 ≡ get_or table (slot + 1) 0 = get_or-drop (suc slot) table 0 0 ∙ ap (λ k. get_or table k 0) n in
    omega (arith, is, rest, next)

pub call_frames : (code : List Insn) (slot : ℕ) (o : ℤ) → slice_get code slot ≡ Some (CallLocal o) → slot < landing slot o → frames_at code (landing slot o) < frames_at code slot
call_frames code slot o g lt =
    let table = depths (is_start code) 0 code in
    let is = depth_is (is_start code) code slot (CallLocal o) g in
    let at = offset_lands table slot o lt in
    omega (arith, is, at)

past_frames : (code : List Insn) (slot : ℕ) → length code ≤ slot → frames_at code slot ≡ 0
past_frames code slot le = get_or_past (depths (is_start code) 0 code) slot 0 (let n = length-depths (is_start code) 0 code in omega (arith, n, le))

-- if no function starts after a slot, up to a later one, the later slot needs no more frames
within_frames : (code : List Insn) (slot n : ℕ) → starts_within code slot n ≡ false → frames_at code (slot + n) ≤ frames_at code slot
within_frames code slot zero e = let z : slot + 0 ≡ slot = omega arith in rw z (omega arith)
within_frames code slot (suc n) e =
    let a = within_frames code slot n (first_false (starts_within code slot n) (is_start code (slot + suc n)) e) in
    let z : slot + suc n ≡ slot + n + 1 = omega arith in
    let s : is_start code (slot + n + 1) ≡ false = ap (is_start code) (sym z) ∙ second_false (starts_within code slot n) (is_start code (slot + suc n)) e in
    let b : frames_at code (slot + n + 1) ≤ frames_at code (slot + n) = elim (cases_lt (slot + n) (length code)) [
      | inl lt ↦ let i = flow_there code (slot + n) lt in stay_frames code (slot + n) i.0 i.1 s
      | inr ge ↦ let p = past_frames code (slot + n + 1) (omega (arith, ge)) in omega (arith, p)
    ] in
    let c : frames_at code (slot + suc n) ≡ frames_at code (slot + n + 1) = ap (frames_at code) z in
    omega (arith, a, b, c)

-- ---- a jump stays in its function

pub jump_frames : (code : List Insn) (slot : ℕ) (o : ℤ) → not (is_place code (target slot o)) ≡ false → not (is_later slot (target slot o)) ≡ false → leaves code slot (target slot o) ≡ false → frames_at code (landing slot o) ≤ frames_at code slot
jump_frames code slot o p l e = go (target slot o) refl (not_true (is_place code (target slot o)) p) (not_true (is_later slot (target slot o)) l) e
  where
    test : (a b : ℕ) → nat_lt a b ≡ true → a < b
    test a b h = grind (arith, nat_tests, h)

    tested : (a b : ℕ) → a < b → nat_lt a b ≡ true
    tested a b h = grind (arith, nat_tests, h)

    only : (b c : Bool) → b ≡ true → (b && c) ≡ false → c ≡ false
    only true c h f = f
    only false c h f = absurd (cc h)

    go : (t : Option ℕ) → target slot o ≡ t → is_place code (target slot o) ≡ true → is_later slot (target slot o) ≡ true → leaves code slot (target slot o) ≡ false → frames_at code (landing slot o) ≤ frames_at code slot
    go None k f g h = let n : false ≡ true = rw k at f in absurd (cc n)
    go (Some t) k f g h =
        let in_code : is_instruction (slice_get code t) ≡ true = rw k at f in
        let later : nat_lt slot t ≡ true = rw k at g in
        let lt = test slot t later in
        let low : min slot t ≡ slot = omega (arith, lt) in
        let far : max slot t - slot ≡ t - slot = omega (arith, lt) in
        let crossed : (nat_lt t (length code) && starts_within code (min slot t) (max slot t - min slot t)) ≡ false = rw k at h in
        let stays : (nat_lt t (length code) && starts_within code slot (t - slot)) ≡ false = rw (low, far) at crossed in
        let at_t : landing slot o ≡ t = rw k refl in
        let none = only (nat_lt t (length code)) (starts_within code slot (t - slot)) (tested t (length code) (placed code t in_code)) stays in
        let z : slot + (t - slot) ≡ landing slot o = omega (arith, at_t, lt) in
        subst (λ k. frames_at code k ≤ frames_at code slot) z (within_frames code slot (t - slot) none)

-- ---- no function starts at a second half

-- one of these calls leads to the place
record Called (slot : ℕ) (code : List Insn) (place : ℕ) : Type 0 where
  at : ℕ
  offset : ℤ
  stands : slice_get code at ≡ Some (CallLocal offset)
  aims : target (slot + at) offset ≡ Some place

aims_at : (o : Option ℕ) (place : ℕ) → is_at o place ≡ true → o ≡ Some place
aims_at None place e = absurd (cc e)
aims_at (Some t) place e = let same : t ≡ place = grind (arith, nat_tests, e) in ap Some same

call_there : (slot : ℕ) (insn : Insn) (place : ℕ) → calls slot insn place ≡ true → (offset : ℤ) × (insn ≡ CallLocal offset) × (target slot offset ≡ Some place)
call_there slot (CallLocal offset) place e = (offset, refl, aims_at (target slot offset) place e)
call_there slot Exit place e = absurd (cc e)
call_there slot WideSecond place e = absurd (cc e)
call_there slot (JumpAlways offset) place e = absurd (cc e)
call_there slot (JumpAlwaysLong offset) place e = absurd (cc e)
call_there slot (JumpIf j) place e = absurd (cc e)
call_there slot (LoadWide dst value) place e = absurd (cc e)
call_there slot (Alu op width dst operand) place e = absurd (cc e)
call_there slot (Unary op dst) place e = absurd (cc e)
call_there slot (SignExtend extension dst src) place e = absurd (cc e)
call_there slot (Load loaded dst base offset) place e = absurd (cc e)
call_there slot (StoreImm size base offset imm) place e = absurd (cc e)
call_there slot (Store size base offset src) place e = absurd (cc e)
call_there slot (CallHelper number) place e = absurd (cc e)

called_by : (slot : ℕ) (code : List Insn) (place : ℕ) → is_called slot code place ≡ true → Called slot code place
called_by slot [] place e = absurd (cc e)
called_by slot (insn ∷ code) place e = go (calls slot insn place) refl e (called_by (slot + 1) code place)
  where
    go : (b : Bool) → calls slot insn place ≡ b → (b || is_called (slot + 1) code place) ≡ true → (is_called (slot + 1) code place ≡ true → Called (slot + 1) code place) → Called slot (insn ∷ code) place
    go true f g ih =
        let c = call_there slot insn place f in
        let z : slot ≡ slot + 0 = omega arith in
        record { at = 0; offset = c.0; stands = ap Some c.1; aims = subst (λ k. target k c.0 ≡ Some place) z c.2 }
    go false f g ih =
        let c = ih g in
        let z : slot + 1 + c.at ≡ slot + suc c.at = omega arith in
        record { at = suc c.at; offset = c.offset; stands = c.stands; aims = subst (λ k. target k c.offset ≡ Some place) z c.aims }

pub no_half : (allowed : Bool) (code : List Insn) (place : ℕ) → IsShapedBy allowed code → slice_get code (suc place) ≡ Some WideSecond → is_start code (suc place) ≡ false
unfolding is_start
no_half allowed code place s g = go (is_called 0 code (suc place)) refl
  where
    not_zero : (n : ℕ) → (suc n == 0) ≡ false
    not_zero n = grind (arith, nat_tests)

    go : (b : Bool) → is_called 0 code (suc place) ≡ b → (b || (suc place == 0)) ≡ false
    go false e = not_zero place
    go true e =
        let c = called_by 0 code (suc place) e in
        let z : 0 + c.at ≡ c.at = omega arith in
        let aims : target c.at c.offset ≡ Some (suc place) = ap (λ k. target k c.offset) (sym z) ∙ c.aims in
        let is = not_true (is_place code (target c.at c.offset)) (s.each JumpTarget c.at (CallLocal c.offset) c.stands) in
        let bad : is_instruction (Some WideSecond) ≡ true = ap is_instruction (sym g) ∙ ap (is_place code) (sym aims) ∙ is in
        absurd (cc bad)

-- a wide load is followed by its second half
pub second_half : (code : List Insn) (slot dst value : ℕ) → is_program code ≡ true → slice_get code slot ≡ Some (LoadWide dst value) → slice_get code (suc slot) ≡ Some WideSecond
second_half [] slot dst value p e = absurd (cc e)
second_half (LoadWide d v ∷ WideSecond ∷ rest) zero dst value p e = refl
second_half (LoadWide d v ∷ WideSecond ∷ rest) (suc zero) dst value p e = absurd (cc e)
second_half (LoadWide d v ∷ WideSecond ∷ rest) (suc (suc slot)) dst value p e = second_half rest slot dst value p e
second_half (LoadWide d v ∷ rest) slot dst value p e = absurd (cc p)
second_half (WideSecond ∷ rest) slot dst value p e = absurd (cc p)
second_half (i ∷ rest) zero dst value p e = absurd (cc e)
second_half (i ∷ rest) (suc slot) dst value p e = second_half rest slot dst value p e

-- the frames of a program are the first function's own frame, and those that calls add
pub first_and_added : (code : List Insn) → frames code ≡ 1 + frames_at code 0
unfolding frames
first_and_added code = refl
