-- Some path is as long as the cost.
use Rattle.std.proofs.Common.{◌≡◌, ℕ, zero, suc, ◌+◌, ◌-◌, ◌*◌, ◌<◌, ◌≤◌, Option, Some, None, List, [], ◌∷◌, length, refl, sym, ap, ◌∙◌, subst, inl, inr, arith}
use Rattle.std.specs.Prelude.{slice_get}
use Rattle.std.proofs.lemmas.Bool.{cases_eq, cases_lt}
use Rattle.fc_isa.specs.declared.insn.Insn.{Insn}
use Rattle.fc_isa.specs.Flow.{Flow, Halts, Goes, Forks, Enters, flow}
use Rattle.fc_image.specs.Flow.{flow_at}
use Rattle.fc_image.specs.declared.loops.Loop.{Loop}
use Rattle.fc_image.specs.Loops.{begins, ends}
use Rattle.fc_image.specs.LoopLaws.{FlowsTo, Calls, AreBodies, IsForward}
use Rattle.fc_image.specs.Paths.{turns, Behind, Return, Turns, opened_loop, opened_loops, TurnsBack, GoesBy, GoesOn, IsPath, IsLongestIn, own_cost, looped, cost_in}
use Rattle.fc_image.specs.Remaining.{own}
use Rattle.fc_image.proofs.Costs.{begins_is, ends_is, cost_is, less_one, flow_there, flow_here, paths_no_longer}

-- ---- the body, if any, in which a path reaches a slot

record IsIn (code : List Insn) (loops : List Loop) (m : Loop) (t : ℕ) : Type 0 where
  index : ℕ
  among : slice_get loops index ≡ Some m
  begun : m.head < t
  upto : t ≤ m.last
  inner : (i : ℕ) (l : Loop) → slice_get loops i ≡ Some l → l.head < t → t ≤ l.last → l.head ≤ m.head
  goes : flow_at code t ≡ Some Halts → ⊥

record IsApart (loops : List Loop) (t : ℕ) : Type 0 where
  apart : (i : ℕ) (l : Loop) → slice_get loops i ≡ Some l → l.head < t → t ≤ l.last → ⊥

abbrev ComesIn : List Insn → List Loop → Option Loop → ℕ → Type 0
ComesIn code loops None t = IsApart loops t
ComesIn code loops (Some m) t = IsIn code loops m t

record IsWithin (code : List Insn) (loops : List Loop) (m : Loop) (t : ℕ) : Type 0 where
  index : ℕ
  among : slice_get loops index ≡ Some m
  begun : m.head ≤ t
  upto : t ≤ m.last
  inner : (i : ℕ) (l : Loop) → slice_get loops i ≡ Some l → l.head ≤ t → t ≤ l.last → l.head ≤ m.head
  goes : flow_at code t ≡ Some Halts → ⊥

record IsOutside (loops : List Loop) (t : ℕ) : Type 0 where
  outside : (i : ℕ) (l : Loop) → slice_get loops i ≡ Some l → l.head ≤ t → t ≤ l.last → ⊥

abbrev StandsIn : List Insn → List Loop → Option Loop → ℕ → Type 0
StandsIn code loops None t = IsOutside loops t
StandsIn code loops (Some m) t = IsWithin code loops m t

-- if no loop begins at a slot, a loop whose head isn't after the slot begins before it
pub not_head : (code : List Insn) (loops : List Loop) (t i : ℕ) (l : Loop) → AreBodies code loops → begins loops t ≡ None → slice_get loops i ≡ Some l → l.head ≤ t → l.head < t
not_head code loops t i l b e g le = elim (cases_eq l.head t) [
  | inl same ↦ absurd (cc (e, subst (λ k. begins loops k ≡ Some l) same (b.first i l g)))
  | inr d ↦ omega (arith, le, d)
]

stands_plain : (code : List Insn) (loops : List Loop) (g : Option Loop) (t : ℕ) → AreBodies code loops → begins loops t ≡ None → ComesIn code loops g t → StandsIn code loops g t
stands_plain code loops None t b e c = record { outside = λ i l g from upto. c.apart i l g (not_head code loops t i l b e g from) upto }
stands_plain code loops (Some m) t b e c = record {
  index = c.index;
  among = c.among;
  begun = let h = c.begun in omega (arith, h);
  upto = c.upto;
  inner = λ i l g from upto. c.inner i l g (not_head code loops t i l b e g from) upto;
  goes = c.goes;
}

stands_head : (code : List Insn) (loops : List Loop) (t : ℕ) (l : Loop) → AreBodies code loops → begins loops t ≡ Some l → IsWithin code loops l t
stands_head code loops t l b e =
    let r = begins_is loops t l e in
    let o = b.order r.0 l r.1 in
    record {
      index = r.0;
      among = r.1;
      begun = omega (arith, r.2);
      upto = omega (arith, r.2, o);
      inner = λ i m g from upto. omega (arith, from, r.2);
      goes = λ h. b.starts r.0 l r.1 (subst (λ k. flow_at code k ≡ Some Halts) (sym r.2) h);
    }

-- a flow within a function keeps a path in its innermost body, or outside of all bodies
goes_in : (code : List Insn) (loops : List Loop) (g : Option Loop) (slot t : ℕ) (f : Flow) → AreBodies code loops → StandsIn code loops g slot → ends loops slot ≡ None → flow_at code slot ≡ Some f → FlowsTo f t → slot < t → ComesIn code loops g t
goes_in code loops None slot t f b s e at leads later = record { apart = λ i l g from upto. s.outside i l g (b.closed i slot t l f g at leads later from upto) (omega (arith, later, upto)) }
goes_in code loops (Some m) slot t f b s e at leads later =
    let begun = s.begun in
    let upto : t ≤ m.last = b.stays s.index slot t m f s.among at e leads s.begun s.upto in
    record {
      index = s.index;
      among = s.among;
      begun = omega (arith, begun, later);
      upto = upto;
      inner = λ i l g from le. s.inner i l g (b.closed i slot t l f g at leads later from le) (omega (arith, later, le));
      goes = b.goes s.index slot t m f s.among at leads (omega (arith, begun, later)) upto;
    }

calls_in : (code : List Insn) (loops : List Loop) (slot t : ℕ) (f : Flow) → AreBodies code loops → flow_at code slot ≡ Some f → Calls f t → IsApart loops t
calls_in code loops slot t f b at calls = record { apart = λ i l g from upto. b.whole i slot t l f g at calls from upto }

-- two loops that begin at one slot are the same
pub same_head : (code : List Insn) (loops : List Loop) (i k : ℕ) (l m : Loop) → AreBodies code loops → slice_get loops i ≡ Some l → slice_get loops k ≡ Some m → l.head ≡ m.head → l ≡ m
same_head code loops i k l m b g h e =
    let a = b.first i l g in
    let c = subst (λ j. begins loops j ≡ Some m) (sym e) (b.first k m h) in
    cc (a, c)

-- if the slot after a loop's end is in the body of another loop, the first loop is in that body too
pub around : (code : List Insn) (loops : List Loop) (i k : ℕ) (l m : Loop) → AreBodies code loops → slice_get loops i ≡ Some l → slice_get loops k ≡ Some m → m.head < l.last + 1 → l.last + 1 ≤ m.last → m.head < l.head
around code loops i k l m b g h from upto = elim (cases_lt m.head l.head) [
  | inl lt ↦ lt
  | inr ge ↦ elim (cases_eq l.head m.head) [
    | inl same ↦ let one = ap (λ x. x.last) (same_head code loops i k l m b g h same) in absurd (omega (arith, one, upto))
    | inr d ↦ let n = b.nested i k l m g h (omega (arith, ge, d)) (omega (arith, from)) in absurd (omega (arith, n, upto))
  ]
]

-- after a loop a path is in the body in which it reached the loop
leaves_in : (code : List Insn) (loops : List Loop) (g : Option Loop) (i : ℕ) (l : Loop) → AreBodies code loops → slice_get loops i ≡ Some l → ComesIn code loops g l.head → ComesIn code loops g (l.last + 1)
leaves_in code loops None i l b g c =
    let o = b.order i l g in
    record { apart = λ k m h from upto. c.apart k m h (around code loops i k l m b g h from upto) (omega (arith, upto, o)) }
leaves_in code loops (Some m) i l b g c =
    let o = b.order i l g in
    let begun = c.begun in
    let n = b.nested c.index i m l c.among g c.begun c.upto in
    record {
      index = c.index;
      among = c.among;
      begun = omega (arith, begun, o);
      upto = omega (arith, n);
      inner = λ k x h from upto. c.inner k x h (around code loops i k l x b g h from upto) (omega (arith, upto, o));
      goes = b.goes c.index l.last (l.last + 1) m (Forks l.head (l.last + 1)) c.among (b.jumps i l g) (inr refl) (omega (arith, begun, o)) (omega (arith, n));
    }

-- at a back jump, the innermost body of the path is that of the jump's loop
ends_in : (code : List Insn) (loops : List Loop) (g : Option Loop) (slot : ℕ) (e : Loop) → AreBodies code loops → ends loops slot ≡ Some e → StandsIn code loops g slot → g ≡ Some e
ends_in code loops None slot e b at s =
    let r = ends_is loops slot e at in
    let o = b.order r.0 e r.1 in
    absurd (s.outside r.0 e r.1 (omega (arith, r.2, o)) (omega (arith, r.2)))
ends_in code loops (Some m) slot e b at s =
    let r = ends_is loops slot e at in
    let o = b.order r.0 e r.1 in
    let le = s.inner r.0 e r.1 (omega (arith, r.2, o)) (omega (arith, r.2)) in
    let begun = s.begun in
    let upto = s.upto in
    elim (cases_eq e.head m.head) [
      | inl same ↦ ap Some (sym (same_head code loops r.0 s.index e m b r.1 s.among same))
      | inr d ↦ let n = b.nested r.0 s.index e m r.1 s.among (omega (arith, le, d)) (omega (arith, begun, r.2)) in absurd (omega (arith, n, upto, r.2))
    ]

-- ---- continuations

-- the continuation begins with the loop of this body, or with no loop if the path is in no body
abbrev Fits : Option Loop → List Behind → Type 0
Fits None [] = Unit {0}
Fits None (Return place ∷ behind) = Unit {0}
Fits None (Turns l k ∷ behind) = ⊥
Fits (Some m) [] = ⊥
Fits (Some m) (Return place ∷ behind) = ⊥
Fits (Some m) (Turns l k ∷ behind) = m ≡ l

-- a path of n steps continues after the end of the body, or of the function
abbrev Rest : List Insn → List Loop → ℕ → List Behind → Type 0
Rest code loops n [] = n ≡ 0
Rest code loops n (Return place ∷ behind) = IsPath code loops n place (opened_loops loops place behind)
Rest code loops n (Turns l zero ∷ behind) = IsPath code loops n (l.last + 1) (opened_loops loops (l.last + 1) behind)
Rest code loops n (Turns l (suc k) ∷ behind) = IsPath code loops n l.head (Turns l k ∷ behind)

abbrev AttainsAt : List Insn → List Loop → Option Loop → ℕ → Type 0
AttainsAt code loops g slot = (n : ℕ) (behind : List Behind) → Fits g behind → Rest code loops n behind → IsPath code loops (own code loops slot + n) slot behind

abbrev Attains : List Insn → List Loop → ℕ → Type 0
Attains code loops t = (g : Option Loop) → ComesIn code loops g t → (n : ℕ) (behind : List Behind) → Fits g behind → Rest code loops n behind → IsPath code loops (cost_in code loops t + n) t (opened_loops loops t behind)

step_flow : (code : List Insn) (loops : List Loop) (n m slot : ℕ) (behind : List Behind) (f : Flow) → ends loops slot ≡ None → flow_at code slot ≡ Some f → m ≡ suc n → GoesBy loops (IsPath code loops n) n behind (Some f) → IsPath code loops m slot behind
unfolding IsPath
step_flow code loops n m slot behind f e at is p =
    subst (λ x. IsPath code loops x slot behind) (sym is)
    (subst (GoesOn code loops (IsPath code loops n) n slot behind) (sym e) (subst (GoesBy loops (IsPath code loops n) n behind) (sym at) p))

step_back : (code : List Insn) (loops : List Loop) (n m slot : ℕ) (behind : List Behind) (l : Loop) → ends loops slot ≡ Some l → m ≡ suc n → TurnsBack loops (IsPath code loops n) slot behind → IsPath code loops m slot behind
unfolding IsPath
step_back code loops n m slot behind l e is p = subst (λ x. IsPath code loops x slot behind) (sym is) (subst (GoesOn code loops (IsPath code loops n) n slot behind) (sym e) p)

own_is : (code : List Insn) (loops : List Loop) (slot : ℕ) (f : Flow) → ends loops slot ≡ None → flow_at code slot ≡ Some f → own code loops slot ≡ own_cost (cost_in code loops) None f
own_is code loops slot f e at = rw (e, at) refl

-- if the later slots have paths as long as their costs, the instruction at a slot begins such a
-- path
stand_attained : (code : List Insn) (loops : List Loop) (g : Option Loop) (slot : ℕ) (f : Flow) → AreBodies code loops → StandsIn code loops g slot → ends loops slot ≡ None → flow_at code slot ≡ Some f → IsForward (length code) slot f
    → ((t : ℕ) → slot < t → t < length code → Attains code loops t) → AttainsAt code loops g slot
stand_attained code loops None slot Halts b s e at w ih n [] fits rest = let o = own_is code loops slot Halts e at in step_flow code loops n (own code loops slot + n) slot [] Halts e at (omega (arith, o)) rest
stand_attained code loops None slot Halts b s e at w ih n (Return place ∷ behind) fits rest = let o = own_is code loops slot Halts e at in step_flow code loops n (own code loops slot + n) slot (Return place ∷ behind) Halts e at (omega (arith, o)) rest
stand_attained code loops None slot Halts b s e at w ih n (Turns l k ∷ behind) fits rest = absurd fits
stand_attained code loops (Some m) slot Halts b s e at w ih n behind fits rest = absurd (s.goes at)
stand_attained code loops g slot (Goes next) b s e at w ih n behind fits rest =
    let o = own_is code loops slot (Goes next) e at in
    step_flow code loops (cost_in code loops next + n) (own code loops slot + n) slot behind (Goes next) e at (omega (arith, o))
    (ih next w.0 w.1 g (goes_in code loops g slot next (Goes next) b s e at refl w.0) n behind fits rest)
stand_attained code loops g slot (Forks taken next) b s e at w ih n behind fits rest =
    let o = own_is code loops slot (Forks taken next) e at in
    elim (cases_lt (cost_in code loops next) (cost_in code loops taken)) [
      | inl lt ↦ step_flow code loops (cost_in code loops taken + n) (own code loops slot + n) slot behind (Forks taken next) e at (omega (arith, o, lt))
          (inl (ih taken w.0.0 w.0.1 g (goes_in code loops g slot taken (Forks taken next) b s e at (inl refl) w.0.0) n behind fits rest))
      | inr ge ↦ step_flow code loops (cost_in code loops next + n) (own code loops slot + n) slot behind (Forks taken next) e at (omega (arith, o, ge))
          (inr (ih next w.1.0 w.1.1 g (goes_in code loops g slot next (Forks taken next) b s e at (inr refl) w.1.0) n behind fits rest))
    ]
stand_attained code loops g slot (Enters start next) b s e at w ih n behind fits rest =
    let o = own_is code loops slot (Enters start next) e at in
    let after = ih next w.1.0 w.1.1 g (goes_in code loops g slot next (Enters start next) b s e at refl w.1.0) n behind fits rest in
    step_flow code loops (cost_in code loops start + (cost_in code loops next + n)) (own code loops slot + n) slot behind (Enters start next) e at (omega (arith, o))
    (ih start w.0.0 w.0.1 None (calls_in code loops slot start (Enters start next) b at refl) (cost_in code loops next + n) (Return next ∷ behind) tt after)

back_attained : (code : List Insn) (loops : List Loop) (slot : ℕ) (l : Loop) → AreBodies code loops → ends loops slot ≡ Some l → AttainsAt code loops (Some l) slot
back_attained code loops slot l b e n behind fits rest =
    let r = ends_is loops slot l e in
    let f : flow_at code slot ≡ Some (Forks l.head (l.last + 1)) = subst (λ k. flow_at code k ≡ Some (Forks l.head (l.last + 1))) r.2 (b.jumps r.0 l r.1) in
    let one : own code loops slot ≡ 1 = rw (e, f) refl in
    step_back code loops n (own code loops slot + n) slot behind l e (omega (arith, one)) (go behind fits rest (sym r.2))
  where
    go : (behind : List Behind) → Fits (Some l) behind → Rest code loops n behind → slot ≡ l.last → TurnsBack loops (IsPath code loops n) slot behind
    go [] fits rest at = absurd fits
    go (Return place ∷ behind) fits rest at = absurd fits
    go (Turns m zero ∷ behind) fits rest at = (at ∙ ap (λ x. x.last) fits, rest)
    go (Turns m (suc k) ∷ behind) fits rest at = (at ∙ ap (λ x. x.last) fits, rest)

any_attained : (code : List Insn) (loops : List Loop) (g : Option Loop) (slot : ℕ) → AreBodies code loops → slot < length code → StandsIn code loops g slot → ((t : ℕ) → slot < t → t < length code → Attains code loops t) → AttainsAt code loops g slot
any_attained code loops g slot b lt s ih = go (ends loops slot) refl
  where
    go : (o : Option Loop) → ends loops slot ≡ o → AttainsAt code loops g slot
    go None e = let i = flow_there code slot lt in stand_attained code loops g slot (flow slot i.0) b s e (flow_here code slot i.0 i.1) (b.onward slot i.0 i.1 e) ih
    go (Some l) e = subst (λ x. AttainsAt code loops x slot) (sym (ends_in code loops g slot l b e s)) (back_attained code loops slot l b e)

-- if one iteration has a path as long as its cost, so have k iterations
laps : (code : List Insn) (loops : List Loop) (l : Loop) (n : ℕ) (behind : List Behind) → AttainsAt code loops (Some l) l.head → Rest code loops n (Turns l 0 ∷ behind) → (k : ℕ) → Rest code loops (k * own code loops l.head + n) (Turns l k ∷ behind)
laps code loops l n behind way rest zero = let e : n ≡ 0 * own code loops l.head + n = omega arith in subst (λ x. Rest code loops x (Turns l 0 ∷ behind)) e rest
laps code loops l n behind way rest (suc k) =
    let e : own code loops l.head + (k * own code loops l.head + n) ≡ suc k * own code loops l.head + n = omega arith in
    subst (λ x. IsPath code loops x l.head (Turns l k ∷ behind)) e (way (k * own code loops l.head + n) (Turns l k ∷ behind) refl (laps code loops l n behind way rest k))

come_attained : (code : List Insn) (loops : List Loop) (t : ℕ) → AreBodies code loops → t < length code → ((u : ℕ) → t < u → u < length code → Attains code loops u) → Attains code loops t
come_attained code loops t b lt ih g c n behind fits rest = go (begins loops t) refl
  where
    go : (o : Option Loop) → begins loops t ≡ o → IsPath code loops (cost_in code loops t + n) t (opened_loop o behind)
    go None e =
        let same : own code loops t ≡ cost_in code loops t = sym (cost_is code loops t b lt ∙ ap (λ o. looped (cost_in code loops) o (own code loops t)) e) in
        subst (λ x. IsPath code loops (x + n) t behind) same (any_attained code loops g t b lt (stands_plain code loops g t b e c) ih n behind fits rest)
    go (Some l) e =
        let r = begins_is loops t l e in
        let o = b.order r.0 l r.1 in
        let cost : cost_in code loops t ≡ turns l * own code loops t + cost_in code loops (l.last + 1) = cost_is code loops t b lt ∙ ap (λ o. looped (cost_in code loops) o (own code loops t)) e in
        let tail = ih (l.last + 1) (omega (arith, o, r.2)) (b.after r.0 l r.1) g (leaves_in code loops g r.0 l b r.1 (subst (ComesIn code loops g) (sym r.2) c)) n behind fits rest in
        let way : AttainsAt code loops (Some l) t = any_attained code loops (Some l) t b lt (stands_head code loops t l b e) ih in
        let more = laps code loops l (cost_in code loops (l.last + 1) + n) behind (subst (AttainsAt code loops (Some l)) (sym r.2) way) tail (turns l - 1) in
        let h : own code loops l.head ≡ own code loops t = ap (own code loops) r.2 in
        let sum : (turns l - 1) * own code loops l.head + (cost_in code loops (l.last + 1) + n) ≡ (turns l - 1) * own code loops t + (cost_in code loops (l.last + 1) + n) = ap (λ x. (turns l - 1) * x + (cost_in code loops (l.last + 1) + n)) h in
        let all = less_one (turns l) (own code loops t) (omega arith) in
        let is : own code loops t + ((turns l - 1) * own code loops t + (cost_in code loops (l.last + 1) + n)) ≡ cost_in code loops t + n = omega (arith, all, cost) in
        subst (λ x. IsPath code loops x t (Turns l (turns l - 1) ∷ behind)) is
        (way ((turns l - 1) * own code loops t + (cost_in code loops (l.last + 1) + n)) (Turns l (turns l - 1) ∷ behind) refl (subst (λ x. Rest code loops x (Turns l (turns l - 1) ∷ behind)) sum more))

attained : (code : List Insn) (loops : List Loop) → AreBodies code loops → (fuel t : ℕ) → t < length code → length code ≤ t + fuel → Attains code loops t
attained code loops b zero t lt le = absurd (omega (arith, lt, le))
attained code loops b (suc fuel) t lt le = come_attained code loops t b lt (λ u later within. attained code loops b fuel u within (omega (arith, le, later)))

path_of : (code : List Insn) (loops : List Loop) → 0 < length code → AreBodies code loops → IsPath code loops (cost_in code loops 0) 0 (opened_loops loops 0 [])
path_of code loops some b =
    let z : cost_in code loops 0 + 0 ≡ cost_in code loops 0 = omega arith in
    subst (λ n. IsPath code loops n 0 (opened_loops loops 0 [])) z
    (attained code loops b (length code) 0 some (omega arith) None (record { apart = λ i l g from upto. absurd (omega (arith, from)) }) 0 [] tt refl)

pub longest_in : (code : List Insn) (loops : List Loop) → 0 < length code → AreBodies code loops → IsLongestIn code loops (cost_in code loops 0)
longest_in code loops some b = record { path = path_of code loops some b; greatest = λ n p. paths_no_longer code loops n b p }
