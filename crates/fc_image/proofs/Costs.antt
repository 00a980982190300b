-- The cost of a slot, from the costs of the slots after it; no path has more steps than its cost.
use Rattle.std.proofs.Common.{◌≡◌, ℕ, zero, suc, ◌+◌, ◌-◌, ◌*◌, ◌<◌, ◌≤◌, ◌==◌, nat_lt, Bool, true, false, if◌then◌else◌, Option, Some, None, List, [], ◌∷◌, length, drop, get_or, refl, sym, ap, ◌∙◌, subst, inl, inr, arith}
use Rattle.std.specs.Prelude.{slice_get, slice_index}
use Rattle.std.proofs.lemmas.Bool.Decides.{nat_tests}
use Rattle.std.proofs.lemmas.Bool.{cases_lt}
use Rattle.std.proofs.lemmas.List.{get_or-drop}
use Rattle.std.proofs.lemmas.Option.{slice_get_within}
use Rattle.fc_isa.specs.declared.insn.Insn.{Insn}
use Rattle.fc_isa.specs.Flow.{Flow, Halts, Goes, Forks, Enters, flow}
use Rattle.fc_image.specs.Flow.{flow_of, flow_at}
use Rattle.fc_image.specs.declared.loops.Loop.{Loop}
use Rattle.fc_image.specs.Loops.{begins, ends}
use Rattle.fc_image.specs.Paths.{turns, Behind, Return, Turns, opened_loop, opened_loops, TurnsBack, GoesBy, GoesOn, IsPath, along, own_cost, looped, cost_at, own_of, cost_of, costs, cost_in}
use Rattle.fc_image.specs.Remaining.{own_by, own, left}
use Rattle.fc_image.specs.LoopLaws.{AreBodies, IsForward}

-- ---- the table

pub begins_is : (loops : List Loop) (slot : ℕ) (l : Loop) → begins loops slot ≡ Some l → (i : ℕ) × (slice_get loops i ≡ Some l) × (l.head ≡ slot)
begins_is [] slot l e = absurd (cc e)
begins_is (m ∷ loops) slot l e = go (begins_is loops slot l) (m.head == slot) refl e
  where
    go : (begins loops slot ≡ Some l → (i : ℕ) × (slice_get loops i ≡ Some l) × (l.head ≡ slot)) → (b : Bool) → (m.head == slot) ≡ b → (if b then Some m else begins loops slot) ≡ Some l → (i : ℕ) × (slice_get (m ∷ loops) i ≡ Some l) × (l.head ≡ slot)
    go ih true f g = let same : m ≡ l = cc g in let at : m.head ≡ slot = grind (arith, nat_tests, f) in (0, ap Some same, subst (λ x. x.head ≡ slot) same at)
    go ih false f g = let r = ih g in (suc r.0, r.1, r.2)

pub ends_is : (loops : List Loop) (slot : ℕ) (l : Loop) → ends loops slot ≡ Some l → (i : ℕ) × (slice_get loops i ≡ Some l) × (l.last ≡ slot)
ends_is [] slot l e = absurd (cc e)
ends_is (m ∷ loops) slot l e = go (ends_is loops slot l) (m.last == slot) refl e
  where
    go : (ends loops slot ≡ Some l → (i : ℕ) × (slice_get loops i ≡ Some l) × (l.last ≡ slot)) → (b : Bool) → (m.last == slot) ≡ b → (if b then Some m else ends loops slot) ≡ Some l → (i : ℕ) × (slice_get (m ∷ loops) i ≡ Some l) × (l.last ≡ slot)
    go ih true f g = let same : m ≡ l = cc g in let at : m.last ≡ slot = grind (arith, nat_tests, f) in (0, ap Some same, subst (λ x. x.last ≡ slot) same at)
    go ih false f g = let r = ih g in (suc r.0, r.1, r.2)

pub cost_here : (loops : List Loop) (first : ℕ) (code : List Insn) (k : ℕ) (insn : Insn) → slice_get code k ≡ Some insn → slice_index (costs loops first code) k ≡ cost_of loops (first + k) insn (drop (suc k) (costs loops first code))
unfolding costs
cost_here loops first [] k insn e = absurd (cc e)
cost_here loops first (x ∷ code) zero insn e =
    let same : x ≡ insn = cc e in
    let at : first ≡ first + 0 = omega arith in
    ap (λ i. cost_of loops first i (costs loops (suc first) code)) same ∙ ap (λ n. cost_of loops n insn (costs loops (suc first) code)) at
cost_here loops first (x ∷ code) (suc k) insn e =
    let at : suc first + k ≡ first + suc k = omega arith in
    cost_here loops (suc first) code k insn e ∙ ap (λ n. cost_of loops n insn (drop (suc k) (costs loops (suc first) code))) at

pub later_is : (table : List ℕ) (slot t : ℕ) → slot < t → cost_at (drop (suc slot) table) slot t ≡ slice_index table t
later_is table slot t lt =
    let test : nat_lt slot t ≡ true = grind (arith, nat_tests, lt) in
    let e : suc slot + (t - suc slot) ≡ t = omega (arith, lt) in
    ap (λ b. if b then slice_index (drop (suc slot) table) (t - suc slot) else 0) test ∙ get_or-drop (suc slot) table (t - suc slot) 0 ∙ ap (λ k. get_or table k 0) e

along_same : (at to : ℕ → ℕ) (count slot : ℕ) (f : Flow) → IsForward count slot f → ((t : ℕ) → slot < t → at t ≡ to t) → along at f ≡ along to f
along_same at to count slot Halts w h = refl
along_same at to count slot (Goes next) w h = ap (λ n. 1 + n) (h next w.0)
along_same at to count slot (Forks taken next) w h = let a = h taken w.0.0 in let b = h next w.1.0 in rw (a, b) refl
along_same at to count slot (Enters start next) w h = let a = h start w.0.0 in let b = h next w.1.0 in rw (a, b) refl

own_same : (at to : ℕ → ℕ) (count slot : ℕ) (o : Option Loop) (f : Flow) → (o ≡ None → IsForward count slot f) → ((t : ℕ) → slot < t → at t ≡ to t) → own_cost at o f ≡ own_cost to o f
own_same at to count slot None f w h = along_same at to count slot f (w refl) h
own_same at to count slot (Some l) f w h = refl

looped_same : (at to : ℕ → ℕ) (slot n : ℕ) (o : Option Loop) → ((l : Loop) → o ≡ Some l → slot < l.last + 1) → ((t : ℕ) → slot < t → at t ≡ to t) → looped at o n ≡ looped to o n
looped_same at to slot n None w h = refl
looped_same at to slot n (Some l) w h = ap (λ k. turns l * n + k) (h (l.last + 1) (w l refl))

pub flow_there : (code : List Insn) (slot : ℕ) → slot < length code → (insn : Insn) × (slice_get code slot ≡ Some insn)
flow_there [] slot lt = absurd (omega (arith, lt))
flow_there (x ∷ code) zero lt = (x, refl)
flow_there (x ∷ code) (suc slot) lt = flow_there code slot (omega (arith, lt))

pub flow_here : (code : List Insn) (slot : ℕ) (insn : Insn) → slice_get code slot ≡ Some insn → flow_at code slot ≡ Some (flow slot insn)
unfolding flow_at
flow_here code slot insn e = ap (flow_of slot) e

-- the cost of a slot is its own cost, or that of all iterations and the rest if a loop begins there
pub cost_is : (code : List Insn) (loops : List Loop) (slot : ℕ) → AreBodies code loops → slot < length code → cost_in code loops slot ≡ looped (cost_in code loops) (begins loops slot) (own code loops slot)
unfolding cost_in
cost_is code loops slot b lt =
    let i = flow_there code slot lt in
    let table = costs loops 0 code in
    let z : 0 + slot ≡ slot = omega arith in
    let at : (t : ℕ) → slot < t → cost_at (drop (suc slot) table) slot t ≡ slice_index table t = later_is table slot in
    cost_here loops 0 code slot i.0 i.1
    ∙ ap (λ n. cost_of loops n i.0 (drop (suc slot) table)) z
    ∙ looped_same (cost_at (drop (suc slot) table) slot) (slice_index table) slot (own_of loops slot i.0 (drop (suc slot) table)) (begins loops slot)
    (λ l e. let r = begins_is loops slot l e in let o = b.order r.0 l r.1 in omega (arith, o, r.2)) at
    ∙ ap (looped (slice_index table) (begins loops slot)) (own_same (cost_at (drop (suc slot) table) slot) (slice_index table) (length code) slot (ends loops slot) (flow slot i.0) (λ none. b.onward slot i.0 i.1 none) at)
    ∙ ap (λ o. looped (slice_index table) (begins loops slot) (own_by (slice_index table) (ends loops slot) o)) (sym (flow_here code slot i.0 i.1))

-- ---- the cost of a continuation

pub less_one : (k a : ℕ) → 1 ≤ k → a + (k - 1) * a ≡ k * a
less_one zero a h = absurd (omega arith)
less_one (suc k) a h = let e : suc k - 1 ≡ k = omega arith in rw e (omega arith)

pub head_within : (code : List Insn) (loops : List Loop) (slot : ℕ) (l : Loop) → AreBodies code loops → begins loops slot ≡ Some l → slot < length code
head_within code loops slot l b e =
    let r = begins_is loops slot l e in
    let o = b.order r.0 l r.1 in
    let w = b.after r.0 l r.1 in
    omega (arith, o, w, r.2)

pub past : (code : List Insn) (slot n : ℕ) (f : Flow) → length code ≤ slot → flow_at code slot ≡ Some f → ⊥
unfolding flow_at
past code slot n f ge e = go (slice_get code slot) refl e
  where
    go : (o : Option Insn) → slice_get code slot ≡ o → flow_of slot o ≡ Some f → ⊥
    go None g h = absurd (cc h)
    go (Some insn) g h = let lt = slice_get_within code slot insn g in absurd (omega (arith, lt, ge))

pub come_left : (code : List Insn) (loops : List Loop) (slot : ℕ) (behind : List Behind) → AreBodies code loops → own code loops slot + left code loops (opened_loops loops slot behind) ≤ cost_in code loops slot + left code loops behind
come_left code loops slot behind b = go (begins loops slot) refl
  where
    plain : (o : Option Flow) → flow_at code slot ≡ o → begins loops slot ≡ None → own code loops slot ≤ cost_in code loops slot
    plain None f e = rw f (omega arith)
    plain (Some w) f e = elim (cases_lt slot (length code)) [
      | inl lt ↦ let c = cost_is code loops slot b lt ∙ ap (λ o. looped (cost_in code loops) o (own code loops slot)) e in omega (arith, c)
      | inr ge ↦ absurd (past code slot slot w ge f)
    ]

    go : (o : Option Loop) → begins loops slot ≡ o → own code loops slot + left code loops (opened_loop o behind) ≤ cost_in code loops slot + left code loops behind
    go None e = let p = plain (flow_at code slot) refl e in omega (arith, p)
    go (Some l) e =
        let r = begins_is loops slot l e in
        let c = cost_is code loops slot b (head_within code loops slot l b e) ∙ ap (λ o. looped (cost_in code loops) o (own code loops slot)) e in
        let t = less_one (turns l) (own code loops slot) (omega arith) in
        let h : own code loops l.head ≡ own code loops slot = ap (own code loops) r.2 in
        rw h (omega (arith, c, t))

-- ---- no path is longer than its bound

no_longer : (code : List Insn) (loops : List Loop) → AreBodies code loops → (n slot : ℕ) (behind : List Behind) → IsPath code loops n slot behind → n ≤ own code loops slot + left code loops behind
unfolding IsPath
no_longer code loops b zero slot behind p = absurd p
no_longer code loops b (suc n) slot behind p = go (ends loops slot) refl p (no_longer code loops b n)
  where
    Before : Type 0
    Before = (slot : ℕ) (behind : List Behind) → IsPath code loops n slot behind → n ≤ own code loops slot + left code loops behind

    come : Before → (t : ℕ) (behind : List Behind) → IsPath code loops n t (opened_loops loops t behind) → n ≤ cost_in code loops t + left code loops behind
    come ih t behind h = let a = ih t (opened_loops loops t behind) h in let c = come_left code loops t behind b in omega (arith, a, c)

    with : (o : Option Flow) → flow_at code slot ≡ o → ends loops slot ≡ None → (behind : List Behind) → GoesBy loops (IsPath code loops n) n behind o → Before → suc n ≤ own_by (cost_in code loops) None o + left code loops behind
    with None f e behind h ih = absurd h
    with (Some Halts) f e [] h ih = omega (arith, h)
    with (Some Halts) f e (Return place ∷ behind) h ih = let a = come ih place behind h in omega (arith, a)
    with (Some Halts) f e (Turns l k ∷ behind) h ih = absurd h
    with (Some (Goes next)) f e behind h ih = let a = come ih next behind h in omega (arith, a)
    with (Some (Forks taken next)) f e behind (inl h) ih = let a = come ih taken behind h in omega (arith, a)
    with (Some (Forks taken next)) f e behind (inr h) ih = let a = come ih next behind h in omega (arith, a)
    with (Some (Enters start next)) f e behind h ih = let a = come ih start (Return next ∷ behind) h in omega (arith, a)

    back : (behind : List Behind) → TurnsBack loops (IsPath code loops n) slot behind → Before → suc n ≤ 1 + left code loops behind
    back [] h ih = absurd h
    back (Return place ∷ behind) h ih = absurd h
    back (Turns l zero ∷ behind) h ih = let a = come ih (l.last + 1) behind h.1 in omega (arith, a)
    back (Turns l (suc k) ∷ behind) h ih = let a = ih l.head (Turns l k ∷ behind) h.1 in omega (arith, a)

    one : (l : Loop) → ends loops slot ≡ Some l → own code loops slot ≡ 1
    one l e =
        let r = ends_is loops slot l e in
        let f : flow_at code slot ≡ Some (Forks l.head (l.last + 1)) = subst (λ k. flow_at code k ≡ Some (Forks l.head (l.last + 1))) r.2 (b.jumps r.0 l r.1) in
        rw (e, f) refl

    go : (o : Option Loop) → ends loops slot ≡ o → GoesOn code loops (IsPath code loops n) n slot behind o → Before → suc n ≤ own code loops slot + left code loops behind
    go None e h ih = rw e (with (flow_at code slot) refl e behind h ih)
    go (Some l) e h ih = let a = back behind h ih in let c = one l e in omega (arith, a, c)

pub paths_no_longer : (code : List Insn) (loops : List Loop) (n : ℕ) → AreBodies code loops → IsPath code loops n 0 (opened_loops loops 0 []) → n ≤ cost_in code loops 0
paths_no_longer code loops n b p = let a = no_longer code loops b n 0 (opened_loops loops 0 []) p in let c = come_left code loops 0 [] b in omega (arith, a, c)
