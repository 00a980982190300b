-- The loops of a program, found from its last slot back.
use Rattle.std.proofs.Common.{◌≡◌, ◌≢◌, ℕ, zero, suc, ◌-◌, ◌==◌, ◌<◌, ◌≤◌, Bool, true, false, if◌then◌else◌, Option, Some, None, List, [], ◌∷◌, length, drop, get_or, get_or-set_same, get_or-set_other, length-set, replicate, inl, inr, refl, sym, ap, ◌∙◌, subst, arith}
use Rattle.std.specs.Prelude.{slice_get, slice_set}
use Rattle.std.proofs.lemmas.Bool.{cases_eq, cases_lt}
use Rattle.std.proofs.lemmas.Bool.Decides.{nat_tests}
use Rattle.std.proofs.lemmas.List.{drop_all}
use Rattle.fc_isa.specs.declared.insn.Jump.{Jump}
use Rattle.fc_isa.specs.declared.insn.Insn.{Insn}
use Rattle.fc_isa.specs.declared.insn.Insn.TheVariants.{JumpIf}
use Rattle.fc_image.specs.declared.loops.Loop.{Loop}
use Rattle.fc_image.specs.Loops.{bound_of, step_of, loop_at, loop_if, and_loop, loops_from, loops_of, begins, ends}
use Rattle.fc_image.specs.Tables.{IsLow, AreLow, AreHeads, headed}
use Rattle.fc_image.proofs.CostTable.{drop_at}
use Rattle.fc_image.proofs.LoopForm.{bound_is, step_is, loop_by_is, if_at}
use Rattle.fc_image.proofs.Costs.{flow_there}

-- ---- the loop of which an instruction is the back jump

record Here (slot : ℕ) (l : Loop) : Type 0 where
  last : l.last ≡ slot
  low : IsLow slot l

jump_here : (code : List Insn) (slot : ℕ) (j : Jump) (l : Loop) → loop_at code slot (JumpIf j) ≡ Some l → Here slot l
jump_here code slot j l e =
    let r = loop_by_is slot j (bound_of j.width j.relation j.right) (step_of (slice_get code (slot - 1)) j.left) l e in
    let b = bound_is j.width j.relation j.right l.bound r.bound in
    let s = step_is (slice_get code (slot - 1)) j.left l.step r.step in
    let last = r.last in
    record { last = sym last; low = record { order = r.order; last = omega (arith, last); some = b.3; few = b.4; step = s.1 } }

loop_here : (code : List Insn) (slot : ℕ) (insn : Insn) (l : Loop) → loop_at code slot insn ≡ Some l → Here slot l
loop_here code slot (JumpIf j) l e = jump_here code slot j l e
loop_here code slot insn l e = absurd (cc e)

here : (allowed : Bool) (code : List Insn) (slot : ℕ) (insn : Insn) (l : Loop) → loop_if allowed code slot insn ≡ Some l → Here slot l
here allowed code slot insn l e = loop_here code slot insn l (if_at allowed code slot insn l e)

-- the loop of a back jump ends at the jump's slot
pub at_low : (code : List Insn) (slot : ℕ) (insn : Insn) → AreLow slot (loop_at code slot insn)
at_low code slot insn = go (loop_at code slot insn) refl
  where
    go : (o : Option Loop) → loop_at code slot insn ≡ o → AreLow slot o
    go None e = tt
    go (Some l) e = (loop_here code slot insn l e).low

pub low_in : (slot count : ℕ) (o : Option Loop) → slot ≤ count → AreLow slot o → AreLow count o
low_in slot count None le h = tt
low_in slot count (Some l) le h = record { order = h.order; last = let x = h.last in omega (arith, x, le); some = h.some; few = h.few; step = h.step }

-- ---- the list, slot by slot

abbrev pub From : Bool → List Insn → ℕ → List Loop
From allowed code slot = loops_from allowed code slot (drop slot code)

from_here : (allowed : Bool) (code : List Insn) (slot : ℕ) (insn : Insn) → slice_get code slot ≡ Some insn → From allowed code slot ≡ and_loop (loop_if allowed code slot insn) (From allowed code (suc slot))
from_here allowed code slot insn e = ap (loops_from allowed code slot) (drop_at code slot insn e)

-- a loop with another head doesn't change which loop begins at a slot
begins_on : (o : Option Loop) (loops : List Loop) (h : ℕ) → ((l : Loop) → o ≡ Some l → l.head ≢ h) → begins (and_loop o loops) h ≡ begins loops h
begins_on None loops h n = refl
begins_on (Some l) loops h n = let other = n l refl in let t : (l.head == h) ≡ false = grind (arith, nat_tests, other) in ap (λ b. if b then Some l else begins loops h) t

ends_on : (o : Option Loop) (loops : List Loop) (h : ℕ) → ((l : Loop) → o ≡ Some l → l.last ≢ h) → ends (and_loop o loops) h ≡ ends loops h
ends_on None loops h n = refl
ends_on (Some l) loops h n = let other = n l refl in let t : (l.last == h) ≡ false = grind (arith, nat_tests, other) in ap (λ b. if b then Some l else ends loops h) t

empty_from : (allowed : Bool) (code : List Insn) (slot : ℕ) → length code ≤ slot → From allowed code slot ≡ []
empty_from allowed code slot ge = ap (loops_from allowed code slot) (drop_all slot code ge)

pub begins_from : (allowed : Bool) (code : List Insn) (n h : ℕ) → n ≤ h → begins (loops_of allowed code) h ≡ begins (From allowed code n) h
unfolding loops_of
begins_from allowed code zero h le = refl
begins_from allowed code (suc n) h le = begins_from allowed code n h (omega (arith, le)) ∙ elim (cases_lt n (length code)) [
  | inl lt ↦
      let i = flow_there code n lt in
      ap (λ l. begins l h) (from_here allowed code n i.0 i.1)
      ∙ begins_on (loop_if allowed code n i.0) (From allowed code (suc n)) h (λ l e same. let x = here allowed code n i.0 l e in let o = x.low.order in let last = x.last in absurd (omega (arith, o, last, same, le)))
  | inr ge ↦ ap (λ l. begins l h) (empty_from allowed code n ge ∙ sym (empty_from allowed code (suc n) (omega (arith, ge))))
]

ends_from : (allowed : Bool) (code : List Insn) (n h : ℕ) → n ≤ h → ends (loops_of allowed code) h ≡ ends (From allowed code n) h
unfolding loops_of
ends_from allowed code zero h le = refl
ends_from allowed code (suc n) h le = ends_from allowed code n h (omega (arith, le)) ∙ elim (cases_lt n (length code)) [
  | inl lt ↦
      let i = flow_there code n lt in
      ap (λ l. ends l h) (from_here allowed code n i.0 i.1)
      ∙ ends_on (loop_if allowed code n i.0) (From allowed code (suc n)) h (λ l e same. let last = (here allowed code n i.0 l e).last in absurd (omega (arith, last, same, le)))
  | inr ge ↦ ap (λ l. ends l h) (empty_from allowed code n ge ∙ sym (empty_from allowed code (suc n) (omega (arith, ge))))
]

-- no loop of the instructions from a slot on ends before that slot
ends_past : (allowed : Bool) (code : List Insn) (first : ℕ) (rest : List Insn) (slot : ℕ) → slot < first → ends (loops_from allowed code first rest) slot ≡ None
ends_past allowed code first [] slot lt = refl
ends_past allowed code first (insn ∷ rest) slot lt =
    ends_on (loop_if allowed code first insn) (loops_from allowed code (suc first) rest) slot (λ l e same. let last = (here allowed code first insn l e).last in absurd (omega (arith, last, same, lt)))
    ∙ ends_past allowed code (suc first) rest slot (omega (arith, lt))

-- the loop that ends at a slot is that of the slot's instruction
pub ends_here : (allowed : Bool) (code : List Insn) (slot : ℕ) (insn : Insn) → slice_get code slot ≡ Some insn → ends (loops_of allowed code) slot ≡ loop_if allowed code slot insn
ends_here allowed code slot insn e = ends_from allowed code slot slot (omega arith) ∙ ap (λ l. ends l slot) (from_here allowed code slot insn e) ∙ go (loop_if allowed code slot insn) refl
  where
    go : (o : Option Loop) → loop_if allowed code slot insn ≡ o → ends (and_loop o (From allowed code (suc slot))) slot ≡ o
    go None f = ends_past allowed code (suc slot) (drop (suc slot) code) slot (omega arith)
    go (Some l) f =
        let last = (here allowed code slot insn l f).last in
        let t : (l.last == slot) ≡ true = grind (arith, nat_tests, last) in
        ap (λ b. if b then Some l else ends (From allowed code (suc slot)) slot) t

-- ---- the table

-- an entry for each of 1,024 slots: the loop that begins at the slot, of those that end at `slot`
-- or later
pub record AreHeadsFrom (allowed : Bool) (code : List Insn) (slot : ℕ) (heads : List (Option Loop)) : Type 0 where
  pub count : length heads ≡ 1024
  pub each : (h : ℕ) → h < 1024 → get_or heads h None ≡ begins (From allowed code slot) h
  pub low : (h : ℕ) → AreLow 1024 (get_or heads h None)

pub heads_more : (allowed : Bool) (code : List Insn) (slot : ℕ) (insn : Insn) (heads : List (Option Loop)) → slot < 1024 → slice_get code slot ≡ Some insn → AreHeadsFrom allowed code (suc slot) heads → AreHeadsFrom allowed code slot (headed heads (loop_if allowed code slot insn))
heads_more allowed code slot insn heads few stands t = go (loop_if allowed code slot insn) refl
  where
    rest : List Loop
    rest = From allowed code (suc slot)

    is : From allowed code slot ≡ and_loop (loop_if allowed code slot insn) rest
    is = from_here allowed code slot insn stands

    go : (o : Option Loop) → loop_if allowed code slot insn ≡ o → AreHeadsFrom allowed code slot (headed heads o)
    go None e = record { count = t.count; each = λ h lt. t.each h lt ∙ ap (λ l. begins l h) (sym (is ∙ ap (λ o. and_loop o rest) e)); low = t.low }
    go (Some l) e =
        let x = here allowed code slot insn l e in
        let order = x.low.order in
        let last = x.last in
        let size = t.count in
        let in_table : l.head < length heads = omega (arith, order, last, few, size) in
        record {
          count = length-set heads l.head (Some l) ∙ size;
          each = λ h lt. elim (cases_eq h l.head) [
            | inl same ↦
                let b : (l.head == h) ≡ true = grind (arith, nat_tests, same) in
                subst (λ n. get_or (slice_set heads l.head (Some l)) n None ≡ Some l) (sym same) (get_or-set_same heads l.head (Some l) None in_table)
                ∙ sym (ap (λ l. begins l h) (is ∙ ap (λ o. and_loop o rest) e) ∙ ap (λ c. if c then Some l else begins rest h) b)
            | inr other ↦
                let b : (l.head == h) ≡ false = grind (arith, nat_tests, other) in
                get_or-set_other heads l.head h (Some l) None other ∙ t.each h lt
                ∙ sym (ap (λ l. begins l h) (is ∙ ap (λ o. and_loop o rest) e) ∙ ap (λ c. if c then Some l else begins rest h) b)
          ];
          low = λ h. elim (cases_eq h l.head) [
            | inl same ↦ subst (λ n. AreLow 1024 (get_or (slice_set heads l.head (Some l)) n None)) (sym same) (subst (AreLow 1024) (sym (get_or-set_same heads l.head (Some l) None in_table)) (low_in slot 1024 (Some l) (omega (arith, few)) x.low))
            | inr other ↦ subst (AreLow 1024) (sym (get_or-set_other heads l.head h (Some l) None other)) (t.low h)
          ];
        }

-- with the entries from slot 0 on, the table has all loops
pub heads_are : (allowed : Bool) (code : List Insn) (heads : List (Option Loop)) → AreHeadsFrom allowed code 0 heads → AreHeads (loops_of allowed code) heads
heads_are allowed code heads t = record { count = t.count; each = λ h lt. t.each h lt ∙ sym (begins_from allowed code 0 h (omega arith)); low = t.low }

-- the default for entries past a table's end doesn't matter
pub default_in : (xs : List (Option Loop)) (i : ℕ) (d e : Option Loop) → i < length xs → get_or xs i d ≡ get_or xs i e
default_in [] i d e lt = absurd (omega (arith, lt))
default_in (x ∷ xs) zero d e lt = refl
default_in (x ∷ xs) (suc i) d e lt = default_in xs i d e (omega (arith, lt))

pub none_in : (n h : ℕ) → get_or {A = Option Loop} (replicate n None) h None ≡ None
none_in zero h = refl
none_in (suc n) zero = refl
none_in (suc n) (suc h) = none_in n h

pub heads_first : (allowed : Bool) (code : List Insn) (heads : List (Option Loop)) (slot : ℕ) → length code ≤ slot → length heads ≡ 1024 → ((h : ℕ) → get_or heads h None ≡ None) → AreHeadsFrom allowed code slot heads
heads_first allowed code heads slot ge size none = record {
  count = size;
  each = λ h lt. none h ∙ ap (λ l. begins l h) (sym (empty_from allowed code slot ge));
  low = λ h. subst (AreLow 1024) (sym (none h)) tt;
}
