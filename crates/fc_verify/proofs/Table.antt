-- Facts about loops that the code needs, from the loop that begins at each slot.
use Rattle.std.proofs.Common.{◌≡◌, ℕ, suc, ◌+◌, ◌<◌, ◌≤◌, nat_lt, Bool, true, false, Option, Some, None, List, [], ◌∷◌, length, inl, inr, refl, sym, ap, ◌∙◌, subst, arith}
use Rattle.std.specs.Prelude.{◌⊎◌, ◌||◌, slice_get}
use Rattle.std.proofs.lemmas.Bool.{cases_lt}
use Rattle.std.proofs.lemmas.Bool.Decides.{nat_tests}
use Rattle.fc_isa.specs.declared.insn.Insn.{Insn}
use Rattle.fc_isa.specs.Flow.{Flow, Halts, Goes, Forks, Enters}
use Rattle.fc_image.specs.declared.loops.Loop.{Loop}
use Rattle.fc_image.specs.Loops.{begins, is_in}
use Rattle.fc_image.specs.LoopLaws.{AreLoops, IsBack, IsOnward}
use Rattle.fc_verify.specs.Heads.{IsLoopOf, is_inside, reached}
use Rattle.fc_verify.specs.Pass.{IsWithin}
use Rattle.fc_image.proofs.Costs.{begins_is}
use Rattle.fc_verify.proofs.PassLaws.{inside_is}

pub loop_is : (code : List Insn) (loops : List Loop) (slot : ℕ) → AreLoops code loops → IsLoopOf code (begins loops slot)
loop_is code loops slot a = go (begins loops slot) refl
  where
    go : (o : Option Loop) → begins loops slot ≡ o → IsLoopOf code o
    go None b = tt
    go (Some l) b = let at = begins_is loops slot l b in a.each at.0 l at.1

taken_within : (code : List Insn) (loops : List Loop) (slot t : ℕ) → AreLoops code loops → ((slot < t) × (t < length code)) ⊎ IsBack loops slot t → t < length code
taken_within code loops slot t a (inl later) = later.1
taken_within code loops slot t a (inr back) =
    let is = a.each back.index back.loop back.among in
    let order = is.order in
    let within = is.within in
    let head = back.head in
    omega (arith, order, within, head)

-- the successors of a flow are in the program
pub within_is : (code : List Insn) (loops : List Loop) (slot : ℕ) (f : Flow) → AreLoops code loops → IsOnward (length code) loops slot f → IsWithin (length code) f
within_is code loops slot Halts a o = tt
within_is code loops slot (Goes next) a o = o.1
within_is code loops slot (Forks taken next) a o = (taken_within code loops slot taken a o.0, o.1.1)
within_is code loops slot (Enters start next) a o = (o.0.1, o.1.1)

-- a slot inside a body is in the body of one of the loops
inside_parts : (loops : List Loop) (slot : ℕ) → is_inside loops slot ≡ true → (i : ℕ) × (l : Loop) × (slice_get loops i ≡ Some l) × (is_in l slot ≡ true)
inside_parts [] slot e = absurd (cc e)
inside_parts (m ∷ loops) slot e = go (is_in m slot) refl (inside_parts loops slot) e
  where
    go : (b : Bool) → is_in m slot ≡ b → (is_inside loops slot ≡ true → (i : ℕ) × (l : Loop) × (slice_get loops i ≡ Some l) × (is_in l slot ≡ true)) → (b || is_inside loops slot) ≡ true
        → (i : ℕ) × (l : Loop) × (slice_get (m ∷ loops) i ≡ Some l) × (is_in l slot ≡ true)
    go true b ih g = (0, m, refl, b)
    go false b ih g = let r = ih g in (suc r.0, r.1, r.2, r.3)

-- the bodies that begin before `slot` end before `reach`, and each slot from `slot` on that is
-- before `reach` is in a body
pub record Reaches (loops : List Loop) (slot reach : ℕ) : Type 0 where
  pub all : (i : ℕ) (l : Loop) → slice_get loops i ≡ Some l → l.head < slot → l.last < reach
  pub some : (s : ℕ) → slot ≤ s → s < reach → is_inside loops s ≡ true

pub reaches_none : (loops : List Loop) → Reaches loops 0 0
reaches_none loops = record { all = λ i l at lt. absurd (omega (arith, lt)); some = λ s le lt. absurd (omega (arith, lt)) }

-- with the loop that begins at the slot, each slot up to the new reach is in a body
reached_some : (loops : List Loop) (slot reach s : ℕ) → Reaches loops slot reach → slot ≤ s → s < reached reach (begins loops slot) → is_inside loops s ≡ true
reached_some loops slot reach s r le lt = go (begins loops slot) refl lt
  where
    go : (o : Option Loop) → begins loops slot ≡ o → s < reached reach o → is_inside loops s ≡ true
    go None b lt = r.some s le lt
    go (Some l) b lt = elim (cases_lt s reach) [
      | inl before ↦ r.some s le before
      | inr ge ↦ let at = begins_is loops slot l b in let head = at.2 in inside_is loops at.0 s l at.1 (omega (arith, head, le)) (omega (arith, lt, ge))
    ]

reached_all : (code : List Insn) (loops : List Loop) (slot reach : ℕ) (i : ℕ) (l : Loop) → AreLoops code loops → Reaches loops slot reach → slice_get loops i ≡ Some l → l.head < slot + 1 → l.last < reached reach (begins loops slot)
reached_all code loops slot reach i l a r at lt = elim (cases_lt l.head slot) [
  | inl before ↦ further (begins loops slot) (r.all i l at before)
  | inr ge ↦
      let same : l.head ≡ slot = omega (arith, lt, ge) in
      let here : begins loops slot ≡ Some l = ap (begins loops) (sym same) ∙ a.one i l at in
      subst (λ o. l.last < reached reach o) (sym here) (omega arith)
]
  where
    further : (o : Option Loop) → l.last < reach → l.last < reached reach o
    further None lt = lt
    further (Some m) lt = omega (arith, lt)

pub reaches_on : (code : List Insn) (loops : List Loop) (slot reach : ℕ) → AreLoops code loops → Reaches loops slot reach → Reaches loops (slot + 1) (reached reach (begins loops slot))
reaches_on code loops slot reach a r = record {
  all = λ i l at lt. reached_all code loops slot reach i l a r at lt;
  some = λ s le lt. reached_some loops slot reach s r (omega (arith, le)) lt;
}

-- a slot is in a body exactly if it is before the new reach
pub reached_is : (code : List Insn) (loops : List Loop) (slot reach : ℕ) → AreLoops code loops → Reaches loops slot reach → nat_lt slot (reached reach (begins loops slot)) ≡ is_inside loops slot
reached_is code loops slot reach a r = go (is_inside loops slot) refl
  where
    go : (b : Bool) → is_inside loops slot ≡ b → nat_lt slot (reached reach (begins loops slot)) ≡ is_inside loops slot
    go true e =
        let p = inside_parts loops slot e in
        let l = p.1 in
        let in_body = p.3 in
        let from : l.head ≤ slot = grind (arith, nat_tests, in_body) in
        let to : slot ≤ l.last = grind (arith, nat_tests, in_body) in
        let far = reached_all code loops slot reach p.0 l a r p.2 (omega (arith, from)) in
        let before : slot < reached reach (begins loops slot) = omega (arith, to, far) in
        grind (arith, nat_tests, before) ∙ sym e
    go false e = elim (cases_lt slot (reached reach (begins loops slot))) [
      | inl lt ↦ absurd (cc (e, reached_some loops slot reach slot r (omega arith) lt))
      | inr ge ↦ grind (arith, nat_tests, ge) ∙ sym e
    ]
