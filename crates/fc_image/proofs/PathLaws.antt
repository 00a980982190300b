-- The targets of offsets in a program that passes the control-flow checks.
use Rattle.std.proofs.Common.{◌≡◌, ℕ, suc, ◌+◌, ◌-◌, ◌<◌, ◌||◌, not, Bool, true, false, if◌then◌else◌, List, length, drop, Option, Some, None, get_or, refl, ap, ◌∙◌, arith, ℤ, pos, negsuc}
use Rattle.std.specs.Prelude.{slice_get, nat_lt, nat_le, unwrap_or}
use Rattle.std.proofs.lemmas.Bool.Decides.{nat_tests}
use Rattle.std.proofs.lemmas.List.{get_or-drop}
use Rattle.std.proofs.lemmas.Option.{slice_get_within}
use Rattle.fc_isa.specs.declared.insn.Insn.{Insn}
use Rattle.fc_isa.specs.Flow.{target, landing}
use Rattle.fc_image.specs.LoopLaws.{IsLater}
use Rattle.fc_image.specs.Functions.{at_offset}
use Rattle.fc_image.specs.ShapeRules.{is_instruction, is_place, is_later}

pub not_true : (b : Bool) → not b ≡ false → b ≡ true
not_true true e = refl
not_true false e = absurd (cc e)

pub first_false : (a b : Bool) → (a || b) ≡ false → a ≡ false
first_false false b e = refl
first_false true b e = absurd (cc e)

pub second_false : (a b : Bool) → (a || b) ≡ false → b ≡ false
second_false false b e = e
second_false true b e = absurd (cc e)

pub placed : (code : List Insn) (t : ℕ) → is_instruction (slice_get code t) ≡ true → t < length code
placed code t e = go (slice_get code t) refl e
  where
    go : (o : Option Insn) → slice_get code t ≡ o → is_instruction o ≡ true → t < length code
    go None f g = absurd (cc g)
    go (Some insn) f g = slice_get_within code t insn f

nat_lt_true : (a b : ℕ) → nat_lt a b ≡ true → a < b
nat_lt_true a b e = grind (arith, nat_tests, e)

-- if an offset's target is an instruction at a later slot, the jump lands at a later slot of the
-- program
pub lands : (code : List Insn) (slot : ℕ) (o : ℤ) → not (is_place code (target slot o)) ≡ false → not (is_later slot (target slot o)) ≡ false → IsLater (length code) slot (landing slot o)
lands code slot o p l = go (target slot o) refl (not_true (is_place code (target slot o)) p) (not_true (is_later slot (target slot o)) l)
  where
    go : (t : Option ℕ) → target slot o ≡ t → is_place code (target slot o) ≡ true → is_later slot (target slot o) ≡ true → IsLater (length code) slot (landing slot o)
    go None e f g = let h : false ≡ true = rw e at f in absurd (cc h)
    go (Some t) e f g =
        let in_code : is_instruction (slice_get code t) ≡ true = rw e at f in
        let later : nat_lt slot t ≡ true = rw e at g in
        let at_t : landing slot o ≡ t = rw e refl in
        (omega (arith, at_t, nat_lt_true slot t later), omega (arith, at_t, placed code t in_code))

-- an instruction that may not end its function has a next one in the program
pub goes_on : (code : List Insn) (slot next : ℕ) (starts : Bool) → slot < next → (not (nat_lt next (length code)) || starts) ≡ false → IsLater (length code) slot next
goes_on code slot next starts lt e =
    let t = not_true (nat_lt next (length code)) (first_false (not (nat_lt next (length code))) starts e) in
    (lt, grind (arith, nat_tests, t))

-- for an offset to a later slot, the entry that is found in the later part of a table is the
-- target's
pub offset_lands : (table : List ℕ) (slot : ℕ) (o : ℤ) → slot < landing slot o → at_offset (drop (suc slot) table) o ≡ get_or table (landing slot o) 0
offset_lands table slot (pos n) lt = let e : suc slot + n ≡ slot + 1 + n = omega arith in get_or-drop (suc slot) table n 0 ∙ ap (λ k. get_or table k 0) e
offset_lands table slot (negsuc n) lt = absurd (back (nat_le n slot) lt)
  where
    back : (b : Bool) → slot < unwrap_or (if b then Some (slot - n) else None) slot → ⊥
    back true h = omega (arith, h)
    back false h = omega (arith, h)
