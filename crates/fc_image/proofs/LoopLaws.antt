-- The rules of the control flow imply the facts about counted loops that typings, paths and runs
-- need.
use Rattle.std.proofs.Common.{◌≡◌, ◌≢◌, ◌⊎◌, ℕ, zero, suc, ◌+◌, ◌-◌, ◌==◌, ◌||◌, ◌&&◌, ◌<◌, ◌≤◌, not, nat_lt, min, max, Bool, true, false, ℤ, pos, Option, Some, None, List, [], ◌∷◌, length, take, drop, refl, sym, ap, ◌∙◌, subst, inl, inr, arith}
use Rattle.std.specs.Prelude.{slice_get}
use Rattle.std.specs.List.{list_any}
use Rattle.std.proofs.lemmas.Int.{ints}
use Rattle.std.proofs.lemmas.Bool.Decides.{nat_tests}
use Rattle.std.proofs.lemmas.Bool.{cases_eq}
use Rattle.std.proofs.lemmas.Option.{get_or_from_slice_get, slice_get-get_or, slice_get_within}
use Rattle.std.proofs.lemmas.List.Folds.{Any-from_list_any, list_any-from_Any}
use Rattle.fc_isa.specs.declared.insn.Width.TheVariants.{W64}
use Rattle.fc_isa.specs.declared.insn.AluOp.TheVariants.{Add}
use Rattle.fc_isa.specs.declared.insn.Operand.TheVariants.{Imm}
use Rattle.fc_isa.specs.declared.insn.Jump.{Jump}
use Rattle.fc_isa.specs.declared.insn.Insn.{Insn}
use Rattle.fc_isa.specs.declared.insn.Insn.TheVariants.{Alu, LoadWide, WideSecond, JumpAlways, JumpAlwaysLong, JumpIf, CallLocal, Exit}
use Rattle.fc_isa.specs.declared.rule.Rule.TheVariants.{JumpTarget, BackwardJump, Boundary, BackwardCall}
use Rattle.fc_isa.specs.Flow.{jump_offset, target, landing, Flow, Halts, Goes, Forks, Enters, flow}
use Rattle.fc_isa.specs.Program.{IsInsn, is_wide_load, is_program}
use Rattle.fc_isa.specs.Writes.{is_call, writes}
use Rattle.fc_image.specs.Flow.{flow_of, flow_at}
use Rattle.fc_image.specs.Functions.{with_offset, calls, is_called, is_start, starts_within, slots_taken, may_end, is_open_end}
use Rattle.fc_image.specs.Laws.{frames_at}
use Rattle.fc_image.specs.declared.loops.Loop.{Loop}
use Rattle.fc_image.specs.Loops.{is_in, is_exit, crosses, spoils, is_undisturbed, loop_if, loops_of, ends, body, is_written, has_call}
use Rattle.fc_image.specs.LoopLaws.{FlowsTo, Calls, JumpsBack, IsLoop, IsBack, IsOnward, AreLoops, AreBodies, IsCounter, AreCounters, ShapedLoopsAreLoops, IsLater, IsForward}
use Rattle.fc_image.specs.ShapeRules.{is_instruction, is_place, is_later, leaves, leads_back, IsShapedBy}
use Rattle.fc_isa.specs.declared.version.ImageVersion.{ImageVersion}
use Rattle.fc_image.specs.Head.{loops_allowed}
use Rattle.fc_image.specs.Loops.{loops_in}
use Rattle.fc_image.specs.Paths.{IsLongest, longest}
use Rattle.fc_image.specs.ShapeRules.{IsShaped}
use Rattle.fc_image.proofs.Attained.{longest_in}
use Rattle.fc_image.proofs.PathLaws.{not_true, first_false, second_false, placed, lands, goes_on}
use Rattle.fc_image.proofs.FrameLaws.{second_half, no_half, stay_frames, call_frames, jump_frames, first_and_added}
use Rattle.fc_image.proofs.LoopForm.{IsJump, has_jump, is_among, loop_last, calm, IsAside, aside, nested, begins_first, ends_last}
use Rattle.fc_image.proofs.Costs.{flow_here}

-- ---- the successors of a flow

-- the instruction leads to slot t by a jump, as the next slot, or past the second half of a wide
-- load
data Leads (slot : ℕ) (insn : Insn) (t : ℕ) : Type 0 where
  Jumps : (offset : ℤ) → jump_offset insn ≡ Some offset → landing slot offset ≡ t → Leads slot insn t
  Falls : t ≡ slot + 1 → is_wide_load insn ≡ false → may_end insn ≡ false → slots_taken insn ≡ 1 → Leads slot insn t
  Skips : t ≡ slot + 2 → (dst value : ℕ) → insn ≡ LoadWide dst value → Leads slot insn t

leads : (slot : ℕ) (insn : Insn) (t : ℕ) → FlowsTo (flow slot insn) t → Leads slot insn t
leads slot (JumpAlways offset) t h = Jumps offset refl (sym h)
leads slot (JumpAlwaysLong offset) t h = Jumps offset refl (sym h)
leads slot (JumpIf j) t (inl h) = Jumps j.offset refl (sym h)
leads slot (JumpIf j) t (inr h) = Falls h refl refl refl
leads slot (LoadWide dst value) t h = Skips h dst value refl
leads slot Exit t h = absurd h
leads slot WideSecond t h = absurd h
leads slot insn t h = Falls h refl refl refl

halting : (slot : ℕ) (insn : Insn) → flow slot insn ≡ Halts → (insn ≡ Exit) ⊎ (insn ≡ WideSecond)
halting slot Exit e = inl refl
halting slot WideSecond e = inr refl
halting slot insn e = absurd (cc e)

-- a slot with a flow has an instruction with that flow
flow_insn : (code : List Insn) (slot : ℕ) (f : Flow) → flow_at code slot ≡ Some f → (insn : Insn) × (slice_get code slot ≡ Some insn) × (flow slot insn ≡ f)
unfolding flow_at
flow_insn code slot f e = go (slice_get code slot) refl e
  where
    go : (o : Option Insn) → slice_get code slot ≡ o → flow_of slot o ≡ Some f → (insn : Insn) × (slice_get code slot ≡ Some insn) × (flow slot insn ≡ f)
    go None g h = absurd (cc h)
    go (Some insn) g h = (insn, g, cc h)

-- ---- wide loads

-- the instruction before a second half is a wide load
first_half : (code : List Insn) (slot : ℕ) (insn : Insn) → is_program code ≡ true → slice_get code (suc slot) ≡ Some WideSecond → slice_get code slot ≡ Some insn → is_wide_load insn ≡ true
first_half [] slot insn p e g = absurd (cc e)
first_half (LoadWide d v ∷ WideSecond ∷ rest) zero insn p e g = let same : LoadWide d v ≡ insn = cc g in ap is_wide_load (sym same)
first_half (LoadWide d v ∷ WideSecond ∷ rest) (suc zero) insn p e g = absurd (no_first rest p e)
  where
    no_first : (rest : List Insn) → is_program rest ≡ true → slice_get rest 0 ≡ Some WideSecond → ⊥
    no_first [] p e = absurd (cc e)
    no_first (WideSecond ∷ rest) p e = absurd (cc p)
    no_first (i ∷ rest) p e = absurd (cc e)
first_half (LoadWide d v ∷ WideSecond ∷ rest) (suc (suc slot)) insn p e g = first_half rest slot insn p e g
first_half (LoadWide d v ∷ rest) slot insn p e g = absurd (cc p)
first_half (WideSecond ∷ rest) slot insn p e g = absurd (cc p)
first_half (i ∷ rest) zero insn p e g = absurd (no_first rest p e)
  where
    no_first : (rest : List Insn) → is_program rest ≡ true → slice_get rest 0 ≡ Some WideSecond → ⊥
    no_first [] p e = absurd (cc e)
    no_first (WideSecond ∷ rest) p e = absurd (cc p)
    no_first (i ∷ rest) p e = absurd (cc e)
first_half (i ∷ rest) (suc slot) insn p e g = first_half rest slot insn p e g

-- ---- consequences of the rules for one loop

-- the landing place of a jump is an instruction of the program
record LandsOn (code : List Insn) (slot : ℕ) (offset : ℤ) (t : ℕ) : Type 0 where
  at : target slot offset ≡ Some t
  is : is_instruction (slice_get code t) ≡ true

place_of : (code : List Insn) (slot : ℕ) (offset : ℤ) (t : ℕ) → is_place code (target slot offset) ≡ true → landing slot offset ≡ t → LandsOn code slot offset t
place_of code slot offset t e lands = go (target slot offset) refl e
  where
    go : (o : Option ℕ) → target slot offset ≡ o → is_place code o ≡ true → LandsOn code slot offset t
    go None f g = absurd (cc g)
    go (Some s) f g = let same : s ≡ t = (rw f at lands) in record { at = f ∙ ap Some same; is = subst (λ k. is_instruction (slice_get code k) ≡ true) same g }

jump_lands : (allowed : Bool) (code : List Insn) (slot : ℕ) (insn : Insn) (offset : ℤ) (t : ℕ) → IsShapedBy allowed code → slice_get code slot ≡ Some insn → jump_offset insn ≡ Some offset → landing slot offset ≡ t → LandsOn code slot offset t
jump_lands allowed code slot insn offset t s g o lands =
    let first = first_false (with_offset (jump_offset insn) (λ o. not (is_place code (target slot o)))) _ (s.each JumpTarget slot insn g) in
    let e : not (is_place code (target slot offset)) ≡ false = subst (λ x. with_offset x (λ o. not (is_place code (target slot o))) ≡ false) o first in
    place_of code slot offset t (not_true (is_place code (target slot offset)) e) lands

-- in a program that passes the checks, no jump leads into a loop's body from outside, out of the
-- body, or to the loop's back jump
jump_aside : (allowed : Bool) (code : List Insn) (l : Loop) (slot : ℕ) (insn : Insn) (offset : ℤ) (t : ℕ) → IsShapedBy allowed code → IsJump allowed code l → slice_get code slot ≡ Some insn → jump_offset insn ≡ Some offset → landing slot offset ≡ t → IsAside l slot t
jump_aside allowed code l slot insn offset t s j g o lands =
    let d = second_false (spoils l slot insn) (with_offset (jump_offset insn) (λ o. crosses l slot (target slot o))) (calm allowed code l s j slot insn g) in
    let c : crosses l slot (target slot offset) ≡ false = subst (λ x. with_offset x (λ o. crosses l slot (target slot o)) ≡ false) o d in
    let p = jump_lands allowed code slot insn offset t s g o lands in
    aside l slot t (subst (λ x. crosses l slot x ≡ false) p.at c)

half_is : (code : List Insn) (slot t : ℕ) → slice_get code slot ≡ Some WideSecond → slot ≡ t → is_instruction (slice_get code t) ≡ true → ⊥
half_is code slot t g e is =
    let h : slice_get code t ≡ Some WideSecond = subst (λ k. slice_get code k ≡ Some WideSecond) e g in
    let bad : is_instruction (Some WideSecond) ≡ true = subst (λ o. is_instruction o ≡ true) h is in
    absurd (cc bad)

head_stands : (allowed : Bool) (code : List Insn) (l : Loop) → IsShapedBy allowed code → IsJump allowed code l → is_instruction (slice_get code l.head) ≡ true
head_stands allowed code l s j = (jump_lands allowed code l.last (JumpIf j.jump) j.jump.offset l.head s j.stands refl j.lands).is

inside : (l : Loop) (slot : ℕ) → l.head ≤ slot → slot ≤ l.last → is_in l slot ≡ true
inside l slot a b = grind (arith, nat_tests, a, b)

within : (l : Loop) (slot : ℕ) → is_in l slot ≡ true → (l.head ≤ slot) × (slot ≤ l.last)
within l slot e = (grind (arith, nat_tests, e), grind (arith, nat_tests, e))

closed : (allowed : Bool) (code : List Insn) (l : Loop) (k t : ℕ) (insn : Insn) → IsShapedBy allowed code → is_program code ≡ true → IsJump allowed code l → slice_get code k ≡ Some insn → FlowsTo (flow k insn) t → l.head < t → t ≤ l.last → l.head ≤ k
closed allowed code l k t insn s p j g h from upto = go (leads k insn t h)
  where
    go : Leads k insn t → l.head ≤ k
    go (Jumps offset o lands) =
        let a = jump_aside allowed code l k insn offset t s j g o lands in
        (within l k (a.side ∙ inside l t (omega (arith, from)) upto)).0
    go (Falls e w x y) = omega (arith, e, from)
    go (Skips e dst value w) = elim (cases_eq l.head (suc k)) [
      | inl same ↦ absurd (half_is code (suc k) l.head (second_half code k dst value p (g ∙ ap Some w)) (sym same) (head_stands allowed code l s j))
      | inr d ↦ omega (arith, e, from, d)
    ]

stays : (allowed : Bool) (code : List Insn) (l : Loop) (k t : ℕ) (insn : Insn) → IsShapedBy allowed code → is_program code ≡ true → IsJump allowed code l → slice_get code k ≡ Some insn → k ≢ l.last → FlowsTo (flow k insn) t → l.head ≤ k → k ≤ l.last → t ≤ l.last
stays allowed code l k t insn s p j g other h from upto = go (leads k insn t h)
  where
    before : k < l.last
    before = omega (arith, upto, other)

    go : Leads k insn t → t ≤ l.last
    go (Jumps offset o lands) =
        let a = jump_aside allowed code l k insn offset t s j g o lands in
        (within l t (sym a.side ∙ inside l k from upto)).1
    go (Falls e w x y) = omega (arith, e, before)
    go (Skips e dst value w) = elim (cases_eq (suc k) l.last) [
      | inl same ↦
          let half = second_half code k dst value p (g ∙ ap Some w) in
          let jump : slice_get code (suc k) ≡ Some (JumpIf j.jump) = subst (λ n. slice_get code n ≡ Some (JumpIf j.jump)) (sym same) j.stands in
          absurd (cc (half, jump))
      | inr d ↦ omega (arith, e, before, d)
    ]

-- in a program that passes the checks, no exit is in the body of a loop
no_exit : (allowed : Bool) (code : List Insn) (l : Loop) (k : ℕ) → IsShapedBy allowed code → IsJump allowed code l → l.head ≤ k → k ≤ l.last → slice_get code k ≡ Some Exit → ⊥
no_exit allowed code l k s j from upto g =
    let c = first_false (spoils l k Exit) _ (calm allowed code l s j k Exit g) in
    bad (is_in l k) (writes Exit l.counter && not (suc k == l.last)) (inside l k from upto) c
  where
    bad : (a b : Bool) → a ≡ true → (a && (b || true)) ≡ false → ⊥
    bad false b e f = absurd (cc e)
    bad true true e f = absurd (cc f)
    bad true false e f = absurd (cc f)

halts_not : (allowed : Bool) (code : List Insn) (l : Loop) (k : ℕ) → IsShapedBy allowed code → IsJump allowed code l → l.head ≤ k → k ≤ l.last → (slice_get code k ≡ Some WideSecond → ⊥) → flow_at code k ≡ Some Halts → ⊥
halts_not allowed code l k s j from upto half e =
    let i = flow_insn code k Halts e in
    elim (halting k i.0 i.2) [
      | inl exit ↦ absurd (no_exit allowed code l k s j from upto (i.1 ∙ ap Some exit))
      | inr second ↦ absurd (half (i.1 ∙ ap Some second))
    ]

-- no flow leads to a second half
half_not : (allowed : Bool) (code : List Insn) (k t : ℕ) (insn : Insn) → IsShapedBy allowed code → is_program code ≡ true → slice_get code k ≡ Some insn → FlowsTo (flow k insn) t → slice_get code t ≡ Some WideSecond → ⊥
half_not allowed code k t insn s p g h e = go (leads k insn t h)
  where
    go : Leads k insn t → ⊥
    go (Jumps offset o lands) = half_is code t t e refl (jump_lands allowed code k insn offset t s g o lands).is
    go (Falls at w x y) =
        let n : t ≡ suc k = omega (arith, at) in
        let h = first_half code k insn p (subst (λ x. slice_get code x ≡ Some WideSecond) n e) g in
        absurd (cc (h, w))
    go (Skips at dst value w) =
        let half = second_half code k dst value p (g ∙ ap Some w) in
        let n : t ≡ suc (suc k) = omega (arith, at) in
        let h = first_half code (suc k) WideSecond p (subst (λ x. slice_get code x ≡ Some WideSecond) n e) half in
        absurd (cc h)

starts_not : (allowed : Bool) (code : List Insn) (l : Loop) → IsShapedBy allowed code → IsJump allowed code l → flow_at code l.head ≡ Some Halts → ⊥
starts_not allowed code l s j e =
    let o = j.order in
    halts_not allowed code l l.head s j (omega arith) (omega (arith, o)) (λ g. half_is code l.head l.head g refl (head_stands allowed code l s j)) e

goes_not : (allowed : Bool) (code : List Insn) (l : Loop) (k t : ℕ) (insn : Insn) → IsShapedBy allowed code → is_program code ≡ true → IsJump allowed code l → slice_get code k ≡ Some insn → FlowsTo (flow k insn) t → l.head < t → t ≤ l.last → flow_at code t ≡ Some Halts → ⊥
goes_not allowed code l k t insn s p j g h from upto e = halts_not allowed code l t s j (omega (arith, from)) upto (half_not allowed code k t insn s p g h) e

-- ---- no function starts in a body except at its head

starts_none : (code : List Insn) (from n m : ℕ) → starts_within code from n ≡ false → m < n → is_start code (from + suc m) ≡ false
starts_none code from zero m e lt = absurd (omega (arith, lt))
starts_none code from (suc n) m e lt = elim (cases_eq m n) [
  | inl same ↦ subst (λ k. is_start code (from + suc k) ≡ false) (sym same) (second_false (starts_within code from n) (is_start code (from + suc n)) e)
  | inr d ↦ starts_none code from n m (first_false (starts_within code from n) (is_start code (from + suc n)) e) (omega (arith, lt, d))
]

call_is : (code : List Insn) (first k : ℕ) (insn : Insn) (place : ℕ) → slice_get code k ≡ Some insn → calls (first + k) insn place ≡ true → is_called first code place ≡ true
call_is [] first k insn place e c = absurd (cc e)
call_is (x ∷ code) first zero insn place e c =
    let same : x ≡ insn = cc e in
    let z : first + 0 ≡ first = omega arith in
    ap (λ b. b || is_called (first + 1) code place) (subst (λ n. calls n x place ≡ true) z (subst (λ i. calls (first + 0) i place ≡ true) (sym same) c))
call_is (x ∷ code) first (suc k) insn place e c =
    let m : first + suc k ≡ first + 1 + k = omega arith in
    either (calls first x place) (call_is code (first + 1) k insn place e (subst (λ n. calls n insn place ≡ true) m c))
  where
    either : (b : Bool) → is_called (first + 1) code place ≡ true → (b || is_called (first + 1) code place) ≡ true
    either true h = refl
    either false h = h

starts_at : (code : List Insn) (place : ℕ) → is_called 0 code place ≡ true → is_start code place ≡ true
unfolding is_start
starts_at code place e = ap (λ b. b || (place == 0)) e

whole : (allowed : Bool) (code : List Insn) (l : Loop) (k t : ℕ) (insn : Insn) → IsShapedBy allowed code → IsJump allowed code l → slice_get code k ≡ Some insn → Calls (flow k insn) t → l.head < t → t ≤ l.last → ⊥
whole allowed code l k t (CallLocal offset) s j g h from upto =
    let p = place_of code k offset t (not_true (is_place code (target k offset)) (s.each JumpTarget k (CallLocal offset) g)) (sym h) in
    let called : calls k (CallLocal offset) t ≡ true = rw p.at (grind (arith, nat_tests)) in
    let z : k ≡ 0 + k = omega arith in
    let start = starts_at code t (call_is code 0 k (CallLocal offset) t g (subst (λ n. calls n (CallLocal offset) t ≡ true) z called)) in
    let q = jump_lands allowed code l.last (JumpIf j.jump) j.jump.offset l.head s j.stands refl j.lands in
    let o = j.order in
    let b : leaves code l.last (target l.last j.jump.offset) ≡ false = first_false _ _ (s.each Boundary l.last (JumpIf j.jump) j.stands) in
    let b' : (nat_lt l.head (length code) && starts_within code (min l.last l.head) (max l.last l.head - min l.last l.head)) ≡ false = subst (λ x. leaves code l.last x ≡ false) q.at b in
    let there : nat_lt l.head (length code) ≡ true = (let w = placed code l.head q.is in grind (arith, nat_tests, w)) in
    let low : min l.last l.head ≡ l.head = omega (arith, o) in
    let far : max l.last l.head - l.head ≡ l.last - l.head = omega (arith, o) in
    let none : starts_within code l.head (l.last - l.head) ≡ false = only (nat_lt l.head (length code)) (starts_within code l.head (l.last - l.head)) there (rw (low, far) at b') in
    let at : l.head + suc (t - l.head - 1) ≡ t = omega (arith, from) in
    let not_start = subst (λ n. is_start code n ≡ false) at (starts_none code l.head (l.last - l.head) (t - l.head - 1) none (omega (arith, from, upto))) in
    absurd (cc (start, not_start))
  where
    only : (b c : Bool) → b ≡ true → (b && c) ≡ false → c ≡ false
    only true c h f = f
    only false c h f = absurd (cc h)
whole allowed code l k t insn s j g h from upto = absurd h

-- ---- the counter

adds_at : (allowed : Bool) (code : List Insn) (l : Loop) (k : ℕ) → IsJump allowed code l → suc k ≡ l.last → slice_get code k ≡ Some (Alu Add W64 l.counter (Imm (pos l.step)))
adds_at allowed code l k j e = let at : l.last - 1 ≡ k = omega (arith, e) in subst (λ n. slice_get code n ≡ Some (Alu Add W64 l.counter (Imm (pos l.step)))) at j.adds

only : (allowed : Bool) (code : List Insn) (l : Loop) (k : ℕ) (insn : Insn) → IsShapedBy allowed code → is_program code ≡ true → IsJump allowed code l → slice_get code k ≡ Some insn → FlowsTo (flow k insn) l.last → suc k ≡ l.last
only allowed code l k insn s p j g h = go (leads k insn l.last h)
  where
    go : Leads k insn l.last → suc k ≡ l.last
    go (Jumps offset o lands) =
        let a = jump_aside allowed code l k insn offset l.last s j g o lands in
        let same : (l.last == l.last) ≡ true = grind (arith, nat_tests) in
        absurd (cc (same, a.other))
    go (Falls e w x y) = omega (arith, e)
    go (Skips e dst value w) =
        let half = second_half code k dst value p (g ∙ ap Some w) in
        let add = adds_at allowed code l (suc k) j (omega (arith, e)) in
        absurd (cc (half, add))

then : (allowed : Bool) (code : List Insn) (l : Loop) (k t : ℕ) (insn : Insn) → IsJump allowed code l → slice_get code k ≡ Some insn → FlowsTo (flow k insn) t → suc k ≡ l.last → t ≡ l.last
then allowed code l k t insn j g h e =
    let it : insn ≡ Alu Add W64 l.counter (Imm (pos l.step)) = cc (g, adds_at allowed code l k j e) in
    let to : t ≡ k + 1 = subst (λ i. FlowsTo (flow k i) t) it h in
    omega (arith, to, e)

keeps : (allowed : Bool) (code : List Insn) (l : Loop) (k : ℕ) (insn : Insn) → IsShapedBy allowed code → IsJump allowed code l → l.head ≤ k → k ≤ l.last → suc k ≢ l.last → slice_get code k ≡ Some insn → writes insn l.counter ≡ false
keeps allowed code l k insn s j from upto other g =
    let c = first_false (spoils l k insn) _ (calm allowed code l s j k insn g) in
    let not_last : (suc k == l.last) ≡ false = grind (arith, nat_tests, other) in
    plain (is_in l k) (writes insn l.counter) (suc k == l.last) (is_exit insn) (inside l k from upto) not_last c
  where
    plain : (a b c d : Bool) → a ≡ true → c ≡ false → (a && ((b && not c) || d)) ≡ false → b ≡ false
    plain false b c d e f h = absurd (cc e)
    plain true false c d e f h = refl
    plain true true true d e f h = absurd (cc f)
    plain true true false d e f h = absurd (cc h)

jumps_back : (allowed : Bool) (code : List Insn) (l : Loop) → IsJump allowed code l → JumpsBack code l
jumps_back allowed code l j = record { jump = j.jump; stands = j.stands; width = j.width; relation = j.relation; left = j.left; right = j.right }

add_fits : (allowed : Bool) (code : List Insn) (l : Loop) → ((slot : ℕ) (insn : Insn) → slice_get code slot ≡ Some insn → IsInsn insn) → IsJump allowed code l → IsInsn (Alu Add W64 l.counter (Imm (pos l.step)))
add_fits allowed code l n j = n (l.last - 1) (Alu Add W64 l.counter (Imm (pos l.step))) j.adds

counter_of : (allowed : Bool) (code : List Insn) (l : Loop) → ((slot : ℕ) (insn : Insn) → slice_get code slot ≡ Some insn → IsInsn insn) → IsShapedBy allowed code → IsJump allowed code l → IsCounter code l
counter_of allowed code l n s j =
    let fits = add_fits allowed code l n j in
    record {
      step = j.step;
      low = omega (arith, ints, fits.1);
      few = j.few;
      counter = fits.0;
      jumps = jumps_back allowed code l j;
      add = λ k insn e g. cc (g, adds_at allowed code l k j e);
      keeps = λ k insn from upto other g. keeps allowed code l k insn s j from upto other g;
    }

-- ---- the code of a body

get_drop : (code : List Insn) (h i : ℕ) → slice_get (drop h code) i ≡ slice_get code (h + i)
get_drop code zero i = let e : i ≡ 0 + i = omega arith in ap (slice_get code) e
get_drop [] (suc h) i = refl
get_drop (x ∷ code) (suc h) i = let e : suc (h + i) ≡ suc h + i = omega arith in get_drop code h i ∙ ap (slice_get (x ∷ code)) e

get_take : (code : List Insn) (n i : ℕ) → i < n → slice_get (take n code) i ≡ slice_get code i
get_take code zero i lt = absurd (omega (arith, lt))
get_take [] (suc n) i lt = refl
get_take (x ∷ code) (suc n) zero lt = refl
get_take (x ∷ code) (suc n) (suc i) lt = get_take code n i (omega (arith, lt))

take_past : (code : List Insn) (n i : ℕ) (insn : Insn) → slice_get (take n code) i ≡ Some insn → i < n
take_past code zero i insn e = absurd (cc e)
take_past [] (suc n) i insn e = absurd (cc e)
take_past (x ∷ code) (suc n) zero insn e = omega arith
take_past (x ∷ code) (suc n) (suc i) insn e = let r = take_past code n i insn e in omega (arith, r)

some_in : (test : Insn → Bool) (xs : List Insn) (i : ℕ) (insn : Insn) → slice_get xs i ≡ Some insn → test insn ≡ true → list_any test xs ≡ true
some_in test xs i insn e t = list_any-from_Any test xs (i, insn, slice_get_within xs i insn e, get_or_from_slice_get xs i insn insn e, t)

in_some : (test : Insn → Bool) (xs : List Insn) → list_any test xs ≡ true → (i : ℕ) × (insn : Insn) × (slice_get xs i ≡ Some insn) × (test insn ≡ true)
in_some test xs e = let a = Any-from_list_any test xs e in (a.0, a.1, slice_get-get_or xs a.0 a.1 a.2 ∙ ap Some a.3, a.4)

pub in_body : (test : Insn → Bool) (code : List Insn) (l : Loop) (slot : ℕ) (insn : Insn) → l.head ≤ slot → slot ≤ l.last → slice_get code slot ≡ Some insn → test insn ≡ true → list_any test (body code l) ≡ true
in_body test code l slot insn a b e t =
    let at : l.head + (slot - l.head) ≡ slot = omega (arith, a) in
    some_in test (body code l) (slot - l.head) insn
    (get_take (drop l.head code) (suc l.last - l.head) (slot - l.head) (omega (arith, a, b)) ∙ get_drop code l.head (slot - l.head) ∙ ap (slice_get code) at ∙ e) t

-- if an instruction of an inner body passes a test, one of the outer body does
body_in : (test : Insn → Bool) (code : List Insn) (l m : Loop) → l.head ≤ m.head → m.head ≤ m.last → m.last ≤ l.last → list_any test (body code m) ≡ true → list_any test (body code l) ≡ true
body_in test code l m from order upto e =
    let r = in_some test (body code m) e in
    let few = take_past (drop m.head code) (suc m.last - m.head) r.0 r.1 r.2 in
    let at : slice_get code (m.head + r.0) ≡ Some r.1 = sym (get_drop code m.head r.0) ∙ sym (get_take (drop m.head code) (suc m.last - m.head) r.0 few) ∙ r.2 in
    in_body test code l (m.head + r.0) r.1 (omega (arith, from)) (omega (arith, few, upto, order)) at r.3

-- ---- forward flows

if_other : (allowed : Bool) (code : List Insn) (slot : ℕ) (insn : Insn) → ((j : _) → insn ≡ JumpIf j → ⊥) → loop_if allowed code slot insn ≡ None
if_other false code slot insn n = refl
if_other true code slot (JumpIf j) n = absurd (n j refl)
if_other true code slot insn n = refl

-- a jump that isn't the back jump of a loop leads to a later slot
not_back : (allowed : Bool) (code : List Insn) (slot : ℕ) (insn : Insn) (offset : ℤ) → IsShapedBy allowed code → slice_get code slot ≡ Some insn → jump_offset insn ≡ Some offset → loop_if allowed code slot insn ≡ None → IsLater (length code) slot (landing slot offset)
not_back allowed code slot insn offset s g o none =
    let place = first_false (with_offset (jump_offset insn) (λ o. not (is_place code (target slot o)))) _ (s.each JumpTarget slot insn g) in
    let at : not (is_place code (target slot offset)) ≡ false = subst (λ x. with_offset x (λ o. not (is_place code (target slot o))) ≡ false) o place in
    let back : (not (is_undisturbed code (loop_if allowed code slot insn)) && leads_back slot insn) ≡ false = s.each BackwardJump slot insn g in
    let later : leads_back slot insn ≡ false = subst (λ x. (not (is_undisturbed code x) && leads_back slot insn) ≡ false) none back in
    lands code slot offset at (subst (λ x. with_offset x (λ o. not (is_later slot (target slot o))) ≡ false) o later)

-- the slot after a conditional jump is a later slot of the program
past_jump : (allowed : Bool) (code : List Insn) (slot : ℕ) (j : Jump) → IsShapedBy allowed code → slice_get code slot ≡ Some (JumpIf j) → IsLater (length code) slot (slot + 1)
past_jump allowed code slot j s g =
    goes_on code slot (slot + 1) (is_start code (slot + 1)) (omega arith) (second_false (leaves code slot (target slot j.offset)) (not (nat_lt (slot + 1) (length code)) || is_start code (slot + 1)) (s.each Boundary slot (JumpIf j) g))

onward : (allowed : Bool) (code : List Insn) (slot : ℕ) (insn : Insn) → IsShapedBy allowed code → slice_get code slot ≡ Some insn → IsOnward (length code) (loops_of allowed code) slot (flow slot insn)
onward allowed code slot (JumpAlways offset) s g = not_back allowed code slot (JumpAlways offset) offset s g refl (if_other allowed code slot (JumpAlways offset) (λ j e. absurd (cc e)))
onward allowed code slot (JumpAlwaysLong offset) s g = not_back allowed code slot (JumpAlwaysLong offset) offset s g refl (if_other allowed code slot (JumpAlwaysLong offset) (λ j e. absurd (cc e)))
onward allowed code slot (JumpIf j) s g = (taken (loop_if allowed code slot (JumpIf j)) refl, past_jump allowed code slot j s g)
  where
    taken : (o : Option Loop) → loop_if allowed code slot (JumpIf j) ≡ o → IsLater (length code) slot (landing slot j.offset) ⊎ IsBack (loops_of allowed code) slot (landing slot j.offset)
    taken None e = inl (not_back allowed code slot (JumpIf j) j.offset s g refl e)
    taken (Some l) e =
        let r = is_among allowed code slot (JumpIf j) l g e in
        let p = has_jump allowed code r.0 l r.1 in
        let last = is_last allowed code slot j l e in
        let same : JumpIf p.jump ≡ JumpIf j = cc (p.stands, subst (λ n. slice_get code n ≡ Some (JumpIf j)) last g) in
        let jump : p.jump ≡ j = cc same in
        inr (record { index = r.0; loop = l; among = r.1; last = last; head = ap (λ n. landing n j.offset) last ∙ ap (λ x. landing l.last x.offset) (sym jump) ∙ p.lands })
      where
        is_last : (allowed : Bool) (code : List Insn) (slot : ℕ) (j : _) (l : Loop) → loop_if allowed code slot (JumpIf j) ≡ Some l → slot ≡ l.last
        is_last false code slot j l e = absurd (cc e)
        is_last true code slot j l e = loop_last code slot j l e
onward allowed code slot (CallLocal offset) s g = (
  lands code slot offset (s.each JumpTarget slot (CallLocal offset) g) (s.each BackwardCall slot (CallLocal offset) g),
  goes_on code slot (slot + 1) (is_start code (slot + 1)) (omega arith) (s.each Boundary slot (CallLocal offset) g),
)
onward allowed code slot Exit s g = tt
onward allowed code slot WideSecond s g = tt
onward allowed code slot (LoadWide dst value) s g = goes_on code slot (slot + 2) (is_start code (slot + 2)) (omega arith) (s.each Boundary slot (LoadWide dst value) g)
onward allowed code slot insn s g = goes_on code slot (slot + 1) (is_start code (slot + 1)) (omega arith) (s.each Boundary slot insn g)

-- except at a back jump each flow leads to later slots
forward_by : (count : ℕ) (loops : List Loop) (slot : ℕ) (f : Flow) → ((i : ℕ) (l : Loop) → slice_get loops i ≡ Some l → slot ≢ l.last) → IsOnward count loops slot f → IsForward count slot f
forward_by count loops slot Halts n o = tt
forward_by count loops slot (Goes next) n o = o
forward_by count loops slot (Forks taken next) n o = (go o.0, o.1)
  where
    go : IsLater count slot taken ⊎ IsBack loops slot taken → IsLater count slot taken
    go (inl l) = l
    go (inr b) = absurd (n b.index b.loop b.among b.last)
forward_by count loops slot (Enters start next) n o = o

-- ---- the three records

last_not : (allowed : Bool) (code : List Insn) (slot i : ℕ) (l : Loop) → ends (loops_of allowed code) slot ≡ None → slice_get (loops_of allowed code) i ≡ Some l → slot ≢ l.last
last_not allowed code slot i l e g same = absurd (cc (e, subst (λ n. ends (loops_of allowed code) n ≡ Some l) (sym same) (ends_last allowed code i l g)))

pub bodies : (allowed : Bool) (code : List Insn) → is_program code ≡ true → IsShapedBy allowed code → AreBodies code (loops_of allowed code)
bodies allowed code p s = record {
  order = λ i l g. (has_jump allowed code i l g).order;
  jumps = λ i l g. let j = has_jump allowed code i l g in flow_here code l.last (JumpIf j.jump) j.stands ∙ ap (λ t. Some (Forks t (l.last + 1))) j.lands;
  after = λ i l g. let j = has_jump allowed code i l g in (past_jump allowed code l.last j.jump s j.stands).1;
  first = λ i l g. begins_first allowed code i l s g;
  last = λ i l g. ends_last allowed code i l g;
  nested = λ i k l m g h from upto. nested allowed code i k l m s g h from upto;
  onward = λ slot insn g e. forward_by (length code) (loops_of allowed code) slot (flow slot insn) (λ i l h. last_not allowed code slot i l e h) (onward allowed code slot insn s g);
  closed = λ i k t l f g e h lt from upto. let n = flow_insn code k f e in closed allowed code l k t n.0 s p (has_jump allowed code i l g) n.1 (subst (λ x. FlowsTo x t) (sym n.2) h) from upto;
  stays = λ i k t l f g e none h from upto.
      let n = flow_insn code k f e in
      stays allowed code l k t n.0 s p (has_jump allowed code i l g) n.1 (last_not allowed code k i l none g) (subst (λ x. FlowsTo x t) (sym n.2) h) from upto;
  whole = λ i k t l f g e h from upto. let n = flow_insn code k f e in whole allowed code l k t n.0 s (has_jump allowed code i l g) n.1 (subst (λ x. Calls x t) (sym n.2) h) from upto;
  exits = λ i k l g from upto e. no_exit allowed code l k s (has_jump allowed code i l g) from upto e;
  starts = λ i l g e. starts_not allowed code l s (has_jump allowed code i l g) e;
  goes = λ i k t l f g e h from upto z. let n = flow_insn code k f e in goes_not allowed code l k t n.0 s p (has_jump allowed code i l g) n.1 (subst (λ x. FlowsTo x t) (sym n.2) h) from upto z;
}

counters : (allowed : Bool) (code : List Insn) → ((slot : ℕ) (insn : Insn) → slice_get code slot ≡ Some insn → IsInsn insn) → is_program code ≡ true → IsShapedBy allowed code → AreCounters code (loops_of allowed code)
counters allowed code n p s = record {
  each = λ i l g. counter_of allowed code l n s (has_jump allowed code i l g);
  only = λ i k l f g e h. let x = flow_insn code k f e in only allowed code l k x.0 s p (has_jump allowed code i l g) x.1 (subst (λ y. FlowsTo y l.last) (sym x.2) h);
  then = λ i k t l f g e h at. let x = flow_insn code k f e in then allowed code l k t x.0 (has_jump allowed code i l g) x.1 (subst (λ y. FlowsTo y t) (sym x.2) h) at;
}

loop_of : (allowed : Bool) (code : List Insn) (i : ℕ) (l : Loop) → ((slot : ℕ) (insn : Insn) → slice_get code slot ≡ Some insn → IsInsn insn) → is_program code ≡ true → IsShapedBy allowed code → slice_get (loops_of allowed code) i ≡ Some l → IsLoop code l
unfolding is_written
loop_of allowed code i l n p s g =
    let j = has_jump allowed code i l g in
    let o = j.order in
    let own : writes (Alu Add W64 l.counter (Imm (pos l.step))) l.counter ≡ true = grind (arith, nat_tests) in
    record {
      order = j.order;
      within = slice_get_within code l.last (JumpIf j.jump) j.stands;
      counter = (add_fits allowed code l n j).0;
      some = j.some;
      few = j.few;
      jumps = jumps_back allowed code l j;
      counts = in_body (λ insn. writes insn l.counter) code l (l.last - 1) (Alu Add W64 l.counter (Imm (pos l.step))) (omega (arith, o)) (omega arith) j.adds own;
      closed = λ k t insn e h lt from upto. closed allowed code l k t insn s p j e h from upto;
      whole = λ k t insn e h from upto. whole allowed code l k t insn s j e h from upto;
    }

typing_loops : (allowed : Bool) (code : List Insn) → ((slot : ℕ) (insn : Insn) → slice_get code slot ≡ Some insn → IsInsn insn) → is_program code ≡ true → IsShapedBy allowed code → AreLoops code (loops_of allowed code)
unfolding is_written has_call
typing_loops allowed code n p s = record {
  each = λ i l g. loop_of allowed code i l n p s g;
  one = λ i l g. begins_first allowed code i l s g;
  inner = λ i k l m r g h from upto e.
      let within = nested allowed code i k l m s g h from upto in
      let o = (has_jump allowed code k m h).order in
      body_in (λ insn. writes insn r) code l m (omega (arith, from)) (omega (arith, o)) (omega (arith, within)) e;
  calls = λ i k l m g h from upto e.
      let within = nested allowed code i k l m s g h from upto in
      let o = (has_jump allowed code k m h).order in
      body_in is_call code l m (omega (arith, from)) (omega (arith, o)) (omega (arith, within)) e;
  onward = λ slot insn g. onward allowed code slot insn s g;
}

-- ---- frames

frames_later : (allowed : Bool) (code : List Insn) (slot t : ℕ) (insn : Insn) → is_program code ≡ true → IsShapedBy allowed code → slice_get code slot ≡ Some insn → FlowsTo (flow slot insn) t → slot < t → frames_at code t ≤ frames_at code slot
frames_later allowed code slot t insn p s g h lt = go (leads slot insn t h)
  where
    b : (with_offset (jump_offset insn) (λ o. leaves code slot (target slot o)) || is_open_end code slot insn) ≡ false
    b = s.each Boundary slot insn g

    end : is_open_end code slot insn ≡ false
    end = second_false (with_offset (jump_offset insn) (λ o. leaves code slot (target slot o))) (is_open_end code slot insn) b

    no_start : (n : ℕ) → may_end insn ≡ false → slots_taken insn ≡ n → is_start code (slot + n) ≡ false
    no_start n e f =
        let ending : (true && (not (nat_lt (slot + n) (length code)) || is_start code (slot + n))) ≡ false = rw (e, f) at end in
        second_false (not (nat_lt (slot + n) (length code))) (is_start code (slot + n)) ending

    go : Leads slot insn t → frames_at code t ≤ frames_at code slot
    go (Jumps offset o lands) =
        let q = jump_lands allowed code slot insn offset t s g o lands in
        let place : not (is_place code (target slot offset)) ≡ false = rw q.at (ap not q.is) in
        let later : not (is_later slot (target slot offset)) ≡ false = rw q.at (grind (arith, nat_tests, lt)) in
        let stays : leaves code slot (target slot offset) ≡ false = subst (λ x. with_offset x (λ o. leaves code slot (target slot o)) ≡ false) o (first_false (with_offset (jump_offset insn) (λ o. leaves code slot (target slot o))) (is_open_end code slot insn) b) in
        subst (λ k. frames_at code k ≤ frames_at code slot) lands (jump_frames code slot offset place later stays)
    go (Falls e w x y) = subst (λ k. frames_at code k ≤ frames_at code slot) (sym e) (stay_frames code slot insn g (no_start 1 x y))
    go (Skips e dst value w) =
        let wide = g ∙ ap Some w in
        let half = second_half code slot dst value p wide in
        let z : suc slot ≡ slot + 1 = omega arith in
        let y : slot + 2 ≡ slot + 1 + 1 = omega arith in
        let first : is_start code (slot + 1) ≡ false = ap (is_start code) (sym z) ∙ no_half allowed code slot s half in
        let last : is_start code (slot + 1 + 1) ≡ false = subst (λ k. is_start code k ≡ false) y (no_start 2 (ap may_end w) (ap slots_taken w)) in
        let a = stay_frames code slot insn g first in
        let c = stay_frames code (slot + 1) WideSecond (subst (λ n. slice_get code n ≡ Some WideSecond) z half) last in
        let at : frames_at code t ≡ frames_at code (slot + 1 + 1) = ap (frames_at code) (e ∙ y) in
        omega (arith, a, c, at)

frames_enter : (allowed : Bool) (code : List Insn) (slot t : ℕ) (insn : Insn) → IsShapedBy allowed code → slice_get code slot ≡ Some insn → Calls (flow slot insn) t → frames_at code t < frames_at code slot
frames_enter allowed code slot t (CallLocal offset) s g h =
    let w = lands code slot offset (s.each JumpTarget slot (CallLocal offset) g) (s.each BackwardCall slot (CallLocal offset) g) in
    subst (λ k. frames_at code k < frames_at code slot) (sym h) (call_frames code slot offset g w.0)
frames_enter allowed code slot t insn s g h = absurd h

pub has_loops : ShapedLoopsAreLoops
has_loops allowed code n p s = record {
  typing = typing_loops allowed code n p s;
  paths = bodies allowed code p s;
  counters = counters allowed code n p s;
  frames = record {
    first = first_and_added code;
    later = λ slot t insn g h lt. frames_later allowed code slot t insn p s g h lt;
    enters = λ slot t insn g h. frames_enter allowed code slot t insn s g h;
  };
}

-- ---- the longest path

pub longest_is : (version : ImageVersion) (code : List Insn) → 0 < length code → is_program code ≡ true → IsShaped version code → IsLongest version code (longest version code)
unfolding longest
longest_is version code some p s = longest_in code (loops_in version code) some (bodies (loops_allowed version) code p s)
