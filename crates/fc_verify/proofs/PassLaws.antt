-- The pass over the slots: the pass's result is a typing, and if the pass has no result, the
-- program has no typing.
use Rattle.std.proofs.Common.{◌≡◌, ◌≢◌, ◌⊎◌, ℕ, zero, suc, ◌+◌, ◌<◌, ◌≤◌, ◌&&◌, ◌||◌, not, true, false, Bool, if◌then◌else◌, Option, Some, None, List, [], ◌∷◌, length, map, refl, sym, ap, ◌∙◌, subst, inl, inr, arith, length-set, get_or-set_same}
use Rattle.std.specs.Prelude.{is_some, slice_get, slice_set}
use Rattle.std.proofs.lemmas.Int.{ints}
use Rattle.std.proofs.lemmas.Bool.{cases_eq, cases_lt}
use Rattle.std.proofs.lemmas.Bool.Decides.{nat_tests}
use Rattle.std.proofs.lemmas.Option.{slice_get_within}
use Rattle.fc_isa.specs.declared.insn.Insn.{Insn}
use Rattle.fc_isa.specs.declared.version.ImageVersion.{ImageVersion}
use Rattle.fc_isa.specs.declared.version.ImageVersion.TheVariants.{One, Two}
use Rattle.fc_isa.specs.declared.insn.Insn.TheVariants.{JumpIf}
use Rattle.fc_isa.specs.Program.{IsInsn}
use Rattle.fc_isa.specs.Flow.{Flow, Halts, Goes, Forks, Enters, flow}
use Rattle.fc_kinds.specs.declared.kind.Kind.{Kind}
use Rattle.fc_kinds.specs.Kinds.{kind_at, KindWithin, Within}
use Rattle.fc_kinds.specs.Lattice.{joined}
use Rattle.fc_kinds.specs.Containing.{IsKind, AreKinds}
use Rattle.fc_kinds.specs.Values.{with_some}
use Rattle.fc_kinds.specs.Transfer.{transfer, enter, is_number}
use Rattle.fc_kinds.specs.Refinement.{when}
use Rattle.fc_kinds.specs.Entry.{entry, fourth_kind}
use Rattle.fc_verify.specs.Typing.{States, state_at, Leads}
use Rattle.fc_kinds.proofs.KindLaws.{within_same, kind_within_same, set_past, within_trans}
use Rattle.fc_kinds.proofs.JoinLaws.{joined_at, joined_kinds, join_least}
use Rattle.fc_kinds.proofs.Monotone.{is_number_follows}
use Rattle.fc_kinds.proofs.TransferLaws.{transfer_meets, enter_within, enter_kinds}
use Rattle.fc_kinds.proofs.RefinementLaws.{when_follows, WayFollows}
use Rattle.fc_kinds.proofs.WayLaws.{are_numbers, AreNumbers}
use Rattle.fc_image.specs.declared.loops.Loop.{Loop}
use Rattle.fc_image.specs.Loops.{is_in, begins, loops_in}
use Rattle.fc_verify.specs.Heads.{IsLoopOf, IsHeadState, settled, gives_number, is_inside}
use Rattle.fc_isa.specs.Writes.{computes}
use Rattle.fc_kinds.specs.Ways.{Way, kinds_when, ways_after}
use Rattle.fc_verify.specs.Typing.{AllLead, IsWellTypedAt, IsTypingWith, IsTypingOf}
use Rattle.fc_verify.specs.Pass.{led, passed_on, passed_with, passed, pass_from, beginning, pass_with, pass, is_typable}
use Rattle.fc_image.specs.LoopLaws.{FlowsTo, Calls, IsLoop, IsBack, IsOnward, AreLoops, IsLater}
use Rattle.fc_verify.proofs.Rules.{IsUnder, IsSound}
use Rattle.fc_verify.proofs.Heads.{settles, least, inner_under, body_keeps, back}
use Rattle.fc_verify.proofs.Narrow.{way_inside}
use Rattle.fc_verify.proofs.HandedOn.{AreWithin, leads_same, leads_then, leads_wider, are_within_then, set_other, leads_join, AllWays, all_lead, lead_all, all_then, WaysBy, all_from, all_to, led_length, led_keeps, led_grows, led_brings, led_all}
use Rattle.fc_image.proofs.Costs.{begins_is}

-- ---- well-formed abstract values

pub effect_kinds : (vars : ℕ) (insn : Insn) (ks after : List Kind) → IsInsn insn → AreKinds ks → transfer vars insn ks ≡ Some after → AreKinds after
effect_kinds vars insn ks after i a e =
    let m = transfer_meets vars insn ks ks after i a (within_same ks) e in
    let same : m.after ≡ after = cc (m.is, e) in
    subst AreKinds same m.kinds

way_kinds : (taken : Bool) (insn : Insn) (ks k : List Kind) → IsInsn insn → AreKinds ks → AreNumbers insn ks → kinds_when taken insn ks ≡ Some k → AreKinds k
way_kinds taken (JumpIf j) ks k n a m e = go (when j taken ks) (subst (λ o. WayFollows o (when j taken ks)) e (when_follows j taken ks ks n.0 n.1 a (within_same ks) m.0 m.1))
  where
    go : (o : Option (List Kind)) → WayFollows (Some k) o → AreKinds k
    go None h = absurd h
    go (Some x) h = h.1
way_kinds taken insn ks k n a m e = subst AreKinds (cc e) a

fourth_is : (version : ImageVersion) → IsKind (fourth_kind version)
fourth_is One = tt
fourth_is Two = grind (arith, ints)

pub entry_kinds : (version : ImageVersion) → AreKinds (entry version)
entry_kinds version = record { count = refl; each = λ r. each_is (entry version) (tt, (grind (arith, ints), (grind (arith, ints), (omega arith, (fourth_is version, (tt, (tt, (tt, (tt, (tt, (grind (arith, ints), tt))))))))))) r }
  where
    EachIs : List Kind → Type 0
    EachIs [] = Unit {0}
    EachIs (k ∷ ks) = IsKind k × EachIs ks

    each_is : (ks : List Kind) → EachIs ks → (r : ℕ) → IsKind (kind_at ks r)
    each_is [] h r = tt
    each_is (k ∷ ks) h zero = h.0
    each_is (k ∷ ks) h (suc r) = each_is ks h.1 r

-- ---- control flow

pub inside_is : (loops : List Loop) (i slot : ℕ) (l : Loop) → slice_get loops i ≡ Some l → l.head ≤ slot → slot ≤ l.last → is_inside loops slot ≡ true
inside_is [] i slot l e a b = absurd (cc e)
inside_is (m ∷ loops) zero slot l e a b =
    let same : m ≡ l = cc e in
    let t : is_in l slot ≡ true = grind (arith, nat_tests, a, b) in
    ap (λ x. x || is_inside loops slot) (subst (λ x. is_in x slot ≡ true) (sym same) t)
inside_is (m ∷ loops) (suc i) slot l e a b = either (is_in m slot) (inside_is loops i slot l e a b)
  where
    either : (x : Bool) → is_inside loops slot ≡ true → (x || is_inside loops slot) ≡ true
    either true h = refl
    either false h = h

pub sound_of : (code : List Insn) (l : Loop) → IsLoop code l → IsSound l
sound_of code l i = record { counter = i.counter; some = i.some; few = i.few }

-- a property of all states at slots of the program is one of each branch along a flow
flow_below : (P : ℕ → List Kind → Type 0) (count : ℕ) (loops : List Loop) (slot : ℕ) (f : Flow) (insn : Insn) (before after : List Kind)
    → ((i : ℕ) (l : Loop) → slice_get loops i ≡ Some l → l.head < count) → IsOnward count loops slot f → ((t : ℕ) (ks : List Kind) → t < count → P t ks) → WaysBy P f insn before after
flow_below P count loops slot Halts insn before after h o p = tt
flow_below P count loops slot (Goes next) insn before after h o p = p next after o.1
flow_below P count loops slot (Forks taken next) insn before after h o p = (λ k e. p taken k (go o.0), λ k e. p next k o.1.1)
  where
    go : IsLater count slot taken ⊎ IsBack loops slot taken → taken < count
    go (inl l) = l.1
    go (inr b) = subst (λ t. t < count) (sym b.head) (h b.index b.loop b.among)
flow_below P count loops slot (Enters start next) insn before after h o p = (p start (enter before) o.0.1, p next after o.1.1)

-- ---- soundness: the invariants of the pass

-- the loop's head was passed, and this state is under that of the head
record IsFound (slot : ℕ) (states : States) (l : Loop) (ks : List Kind) : Type 0 where
  passed : l.head < slot
  head : List Kind
  is : state_at states l.head ≡ Some head
  under : IsUnder l head ks

record Inner (loops : List Loop) (slot : ℕ) (states : States) (k : ℕ) (ks : List Kind) : Type 0 where
  fit : AreKinds ks
  found : (i : ℕ) (l : Loop) → slice_get loops i ≡ Some l → l.head < k → k ≤ l.last → IsFound slot states l ks

record Sound (version : ImageVersion) (vars : ℕ) (code : List Insn) (loops : List Loop) (slot : ℕ) (states : States) : Type 0 where
  count : length states ≡ length code
  entered : Leads states 0 (entry version)
  inner : (k : ℕ) (ks : List Kind) → state_at states k ≡ Some ks → Inner loops slot states k ks
  done : (k : ℕ) (insn : Insn) (ks : List Kind) → k < slot → slice_get code k ≡ Some insn → state_at states k ≡ Some ks → IsWellTypedAt vars loops states k insn ks
  heads : (i : ℕ) (l : Loop) (ks : List Kind) → slice_get loops i ≡ Some l → l.head < slot → state_at states l.head ≡ Some ks → IsHeadState code l ks

under_join : (l : Loop) (head a b : List Kind) → IsUnder l head a → IsUnder l head b → IsUnder l head (joined a b)
under_join l head a b p q = record { each = λ r n. subst (λ k. KindWithin k (kind_at head r)) (sym (joined_at a b r)) (join_least (kind_at a r) (kind_at b r) (kind_at head r) (p.each r n) (q.each r n)) }

inner_join : (loops : List Loop) (slot : ℕ) (states : States) (k : ℕ) (a b : List Kind) → Inner loops slot states k a → Inner loops slot states k b → Inner loops slot states k (joined a b)
inner_join loops slot states k a b p q = record {
  fit = joined_kinds a b p.fit q.fit;
  found = λ i l g lt le.
      let x = p.found i l g lt le in
      let y = q.found i l g lt le in
      let same : y.head ≡ x.head = cc (x.is, y.is) in
      record { passed = x.passed; head = x.head; is = x.is; under = under_join l x.head a b x.under (subst (λ h. IsUnder l h b) same y.under) };
}

under_same : (l : Loop) (ks : List Kind) → IsUnder l ks ks
under_same l ks = record { each = λ r n. kind_within_same (kind_at ks r) }

under_then : (l : Loop) (head a b : List Kind) → Within a b → IsUnder l head b → IsUnder l head a
under_then l head a b w u = record { each = λ r n. within_trans (kind_at a r) (kind_at b r) (kind_at head r) (w.each r) (u.each r n) }

-- a slot that is found with the state `found` is passed with `kinds`, and `after` is the state
-- after its instruction
pub record Passed (vars : ℕ) (code : List Insn) (loops : List Loop) (slot : ℕ) (insn : Insn) (found kinds after : List Kind) : Type 0 where
  pub settled_is : settled code (begins loops slot) found ≡ Some kinds
  pub effect : transfer vars insn kinds ≡ Some after
  pub number : is_inside loops slot ≡ true → gives_number (computes insn) after ≡ true

pub passed_parts : (vars : ℕ) (code : List Insn) (loops : List Loop) (slot : ℕ) (insn : Insn) (found : List Kind) (states next : States) → passed_with vars code loops slot insn (Some found) states ≡ Some next
    → (kinds : List Kind) × (after : List Kind) × Passed vars code loops slot insn found kinds after × (led slot (slice_set states slot (Some kinds)) (ways_after slot insn kinds after) ≡ next)
passed_parts vars code loops slot insn found states next e = one (settled code (begins loops slot) found) refl e
  where
    Parts : Type 0
    Parts = (kinds : List Kind) × (after : List Kind) × Passed vars code loops slot insn found kinds after × (led slot (slice_set states slot (Some kinds)) (ways_after slot insn kinds after) ≡ next)

    three : (kinds after : List Kind) (b c : Bool) → is_inside loops slot ≡ b → gives_number (computes insn) after ≡ c → settled code (begins loops slot) found ≡ Some kinds → transfer vars insn kinds ≡ Some after
        → (if b && not c then None else Some (led slot (slice_set states slot (Some kinds)) (ways_after slot insn kinds after))) ≡ Some next → Parts
    three kinds after true true p q s t g = (kinds, after, record { settled_is = s; effect = t; number = λ h. q }, cc g)
    three kinds after true false p q s t g = absurd (cc g)
    three kinds after false c p q s t g = (kinds, after, record { settled_is = s; effect = t; number = λ h. absurd (cc (h, p)) }, cc g)

    two : (kinds : List Kind) (o : Option (List Kind)) → transfer vars insn kinds ≡ o → settled code (begins loops slot) found ≡ Some kinds
        → with_some o (λ after. passed_on (is_inside loops slot) slot insn kinds after states) ≡ Some next → Parts
    two kinds None t s g = absurd (cc g)
    two kinds (Some after) t s g = three kinds after (is_inside loops slot) (gives_number (computes insn) after) refl refl s t g

    one : (o : Option (List Kind)) → settled code (begins loops slot) found ≡ o → with_some o (λ kinds. with_some (transfer vars insn kinds) (λ after. passed_on (is_inside loops slot) slot insn kinds after states)) ≡ Some next → Parts
    one None s g = absurd (cc g)
    one (Some kinds) s g = two kinds (transfer vars insn kinds) refl s g

-- the state of a slot after its loop invariant is formed
pub record IsSettled (code : List Insn) (loops : List Loop) (slot : ℕ) (found kinds : List Kind) : Type 0 where
  pub fit : AreKinds kinds
  pub within : Within found kinds
  pub head : (l : Loop) → begins loops slot ≡ Some l → IsHeadState code l kinds

pub settled_now : (code : List Insn) (loops : List Loop) (slot : ℕ) (found kinds : List Kind) → AreLoops code loops → AreKinds found → settled code (begins loops slot) found ≡ Some kinds → IsSettled code loops slot found kinds
unfolding settled
settled_now code loops slot found kinds a f e = go (begins loops slot) refl e
  where
    go : (o : Option Loop) → begins loops slot ≡ o → settled code o found ≡ Some kinds → IsSettled code loops slot found kinds
    go None b g = let same : found ≡ kinds = cc g in subst (IsSettled code loops slot found) same (record { fit = f; within = within_same found; head = λ l h. absurd (cc (h, b)) })
    go (Some m) b g =
        let at = begins_is loops slot m b in
        let s = settles code m found kinds (sound_of code m (a.each at.0 m at.1)) f g in
        record { fit = s.kinds; within = s.within; head = λ l h. let same : m ≡ l = cc (b, h) in subst (λ x. IsHeadState code x kinds) same s.head }

pub settled_fit : (code : List Insn) (o : Option Loop) (found kinds : List Kind) → IsLoopOf code o → AreKinds found → settled code o found ≡ Some kinds → AreKinds kinds
unfolding settled
settled_fit code None found kinds l f e = let same : found ≡ kinds = cc e in subst AreKinds same f
settled_fit code (Some m) found kinds l f e = (settles code m found kinds (sound_of code m l) f e).kinds

-- after its loop invariant is formed, a slot's state is still under those of the heads around it
settled_under : (code : List Insn) (loops : List Loop) (slot : ℕ) (found kinds head : List Kind) (i : ℕ) (l : Loop) → AreLoops code loops → AreKinds found → settled code (begins loops slot) found ≡ Some kinds
    → slice_get loops i ≡ Some l → l.head < slot → slot ≤ l.last → IsHeadState code l head → IsUnder l head found → IsUnder l head kinds
unfolding settled
settled_under code loops slot found kinds head i l a f e g lt le h u = go (begins loops slot) refl e
  where
    go : (o : Option Loop) → begins loops slot ≡ o → settled code o found ≡ Some kinds → IsUnder l head kinds
    go None b s = let same : found ≡ kinds = cc s in subst (IsUnder l head) same u
    go (Some m) b s =
        let at = begins_is loops slot m b in
        let k = a.each at.0 m at.1 in
        let inside : l.head < m.head = omega (arith, lt, at.2) in
        let before : m.head ≤ l.last = omega (arith, le, at.2) in
        inner_under code l m head found kinds (sound_of code m k) h f u s
        (λ r w. a.inner i at.0 l m r g at.1 inside before w) (λ c. a.calls i at.0 l m g at.1 inside before c) k.counts

-- ---- one slot

by_flow : (P : ℕ → List Kind → Type 0) (f : Flow) (insn : Insn) (before after : List Kind) → ((t : ℕ) → FlowsTo f t → P t after)
    → ((taken : Bool) (t : ℕ) (k : List Kind) → FlowsTo f t → kinds_when taken insn after ≡ Some k → P t k) → ((t : ℕ) → Calls f t → P t (enter before)) → WaysBy P f insn before after
by_flow P Halts insn before after h w c = tt
by_flow P (Goes next) insn before after h w c = h next refl
by_flow P (Forks taken next) insn before after h w c = (λ k e. w true taken k (inl refl) e, λ k e. w false next k (inr refl) e)
by_flow P (Enters start next) insn before after h w c = (c start refl, h next refl)

abbrev HeadsIn : List Insn → List Loop → ℕ → States → Type 0
HeadsIn code loops slot states = (i : ℕ) (l : Loop) (ks : List Kind) → slice_get loops i ≡ Some l → l.head < slot → state_at states l.head ≡ Some ks → IsHeadState code l ks

-- if a slot is in a loop's body, the loop's head was passed, and the slot's state is under the
-- head's
head_at : (loops : List Loop) (slot : ℕ) (base : States) (kinds : List Kind) → state_at base slot ≡ Some kinds → Inner loops (suc slot) base slot kinds → (i : ℕ) (l : Loop) → slice_get loops i ≡ Some l → l.head ≤ slot → slot ≤ l.last
    → IsFound (suc slot) base l kinds
head_at loops slot base kinds here n i l g from le = elim (cases_lt l.head slot) [
  | inl lt ↦ n.found i l g lt le
  | inr ge ↦ let same : slot ≡ l.head = omega (arith, from, ge) in record { passed = omega (arith, from); head = kinds; is = subst (λ k. state_at base k ≡ Some kinds) same here; under = under_same l kinds }
]

-- the state after an instruction of a body is still under that of the head
after_under : (vars : ℕ) (code : List Insn) (loops : List Loop) (slot : ℕ) (insn : Insn) (found kinds after : List Kind) (base : States) → IsInsn insn → slice_get code slot ≡ Some insn
    → Passed vars code loops slot insn found kinds after → AreKinds kinds → HeadsIn code loops (suc slot) base → (i : ℕ) (l : Loop) → slice_get loops i ≡ Some l → l.head ≤ slot → slot ≤ l.last → (h : IsFound (suc slot) base l kinds) → IsUnder l h.head after
after_under vars code loops slot insn found kinds after base n stands p f heads i l g from le h =
    body_keeps vars code l slot insn h.head kinds after from le stands n (heads i l h.head g h.passed h.is) f (effect_kinds vars insn kinds after n f p.effect) h.under p.effect
    (p.number (inside_is loops i slot l g from le))

ways_inner : (vars : ℕ) (code : List Insn) (loops : List Loop) (slot : ℕ) (insn : Insn) (found kinds after : List Kind) (base : States) → AreLoops code loops → IsInsn insn → slice_get code slot ≡ Some insn
    → Passed vars code loops slot insn found kinds after → AreKinds kinds → state_at base slot ≡ Some kinds → Inner loops (suc slot) base slot kinds → HeadsIn code loops (suc slot) base
    → WaysBy (λ t ks. slot < t → Inner loops (suc slot) base t ks) (flow slot insn) insn kinds after
ways_inner vars code loops slot insn found kinds after base a n stands p f here inner heads =
    by_flow (λ t ks. slot < t → Inner loops (suc slot) base t ks) (flow slot insn) insn kinds after
    (λ t leads. on t after leads fit (within_same after))
    (λ taken t k leads e. on t k leads (way_kinds taken insn after k n fit (are_numbers vars insn kinds after p.effect) e) (way_inside taken insn after k n fit e))
    (λ t calls later. record { fit = enter_kinds kinds f; found = λ i l g lt le. absurd ((a.each i l g).whole slot t insn stands calls lt le) })
  where
    fit : AreKinds after
    fit = effect_kinds vars insn kinds after n f p.effect

    on : (t : ℕ) (ks : List Kind) → FlowsTo (flow slot insn) t → AreKinds ks → Within ks after → slot < t → Inner loops (suc slot) base t ks
    on t ks leads k w later = record {
      fit = k;
      found = λ i l g lt le.
          let from = (a.each i l g).closed slot t insn stands leads later lt le in
          let upto : slot ≤ l.last = omega (arith, later, le) in
          let h = head_at loops slot base kinds here inner i l g from upto in
          let u = after_under vars code loops slot insn found kinds after base n stands p f heads i l g from upto h in
          record { passed = h.passed; head = h.head; is = h.is; under = under_then l h.head ks after w u };
    }

lead_grow : (states next : States) (ws : List Way) → AreWithin states next → AllLead states ws → AllLead next ws
lead_grow states next [] w a = tt
lead_grow states next (v ∷ ws) w a = (leads_then states next v.target v.kinds a.0 w, lead_grow states next ws w a.1)

inner_more : (loops : List Loop) (slot k : ℕ) (states next : States) (ks : List Kind) → ((j : ℕ) → j < slot → state_at next j ≡ state_at states j) → Inner loops slot states k ks → Inner loops (suc slot) next k ks
inner_more loops slot k states next ks same n = record {
  fit = n.fit;
  found = λ i l g lt le. let o = n.found i l g lt le in record { passed = let b = o.passed in omega (arith, b); head = o.head; is = same l.head o.passed ∙ o.is; under = o.under };
}

sound_none : (version : ImageVersion) (vars : ℕ) (code : List Insn) (loops : List Loop) (slot : ℕ) (states : States) → Sound version vars code loops slot states → state_at states slot ≡ None → Sound version vars code loops (suc slot) states
sound_none version vars code loops slot states s e = record {
  count = s.count;
  entered = s.entered;
  inner = λ k ks f. inner_more loops slot k states states ks (λ j lt. refl) (s.inner k ks f);
  done = λ k insn ks lt g f. elim (cases_lt k slot) [
    | inl before ↦ s.done k insn ks before g f
    | inr ge ↦ let same : k ≡ slot = omega (arith, lt, ge) in absurd (cc (e, subst (λ j. state_at states j ≡ Some ks) same f))
  ];
  heads = λ i l ks g lt f. elim (cases_lt l.head slot) [
    | inl before ↦ s.heads i l ks g before f
    | inr ge ↦ let same : l.head ≡ slot = omega (arith, lt, ge) in absurd (cc (e, subst (λ j. state_at states j ≡ Some ks) same f))
  ];
}

-- the state on a loop's back jump is within the state of the loop's head
back_leads : (vars : ℕ) (code : List Insn) (loops : List Loop) (slot : ℕ) (insn : Insn) (found kinds after : List Kind) (base : States) → AreLoops code loops → IsInsn insn → slice_get code slot ≡ Some insn
    → Passed vars code loops slot insn found kinds after → AreKinds kinds → Inner loops (suc slot) base slot kinds → HeadsIn code loops (suc slot) base
    → (t : ℕ) → IsBack loops slot t → (k : List Kind) → kinds_when true insn after ≡ Some k → (head : List Kind) × (state_at base t ≡ Some head) × Within k head
back_leads vars code loops slot insn found kinds after base a n stands p f inner heads t b k e =
    let l = b.loop in
    let is = a.each b.index l b.among in
    let j = is.jumps in
    let last = b.last in
    let same : insn ≡ JumpIf j.jump = cc (stands, subst (λ i. slice_get code i ≡ Some (JumpIf j.jump)) (sym last) j.stands) in
    let lt : l.head < slot = let o = is.order in omega (arith, o, last) in
    let upto : slot ≤ l.last = omega (arith, last) in
    let from : l.head ≤ slot = omega (arith, lt) in
    let h = inner.found b.index l b.among lt upto in
    let u = after_under vars code loops slot insn found kinds after base n stands p f heads b.index l b.among from upto h in
    let numbers : AreNumbers (JumpIf j.jump) after = subst (λ i. AreNumbers i after) same (are_numbers vars insn kinds after p.effect) in
    let counts : is_number (kind_at after l.counter) ≡ true = subst (λ r. is_number (kind_at after r) ≡ true) j.left numbers.0 in
    let taken : when j.jump true after ≡ Some k = subst (λ i. kinds_when true i after ≡ Some k) same e in (
      h.head,
      subst (λ i. state_at base i ≡ Some h.head) (sym b.head) h.is,
      back code l j.jump h.head after k (sound_of code l is) (heads b.index l h.head b.among h.passed h.is) (effect_kinds vars insn kinds after n f p.effect) u counts j.width j.relation j.left j.right taken
          (way_inside true insn after k n (effect_kinds vars insn kinds after n f p.effect) e),
    )

-- each branch leads to a slot whose state contains the branch's state
ways_lead : (next : States) (count : ℕ) (loops : List Loop) (slot : ℕ) (f : Flow) (insn : Insn) (before after : List Kind) → IsOnward count loops slot f → WaysBy (λ t ks. slot < t → Leads next t ks) f insn before after
    → ((t : ℕ) → IsBack loops slot t → (k : List Kind) → kinds_when true insn after ≡ Some k → Leads next t k) → WaysBy (Leads next) f insn before after
ways_lead next count loops slot Halts insn before after o w b = tt
ways_lead next count loops slot (Goes n) insn before after o w b = w o.0
ways_lead next count loops slot (Forks taken n) insn before after o w b = (λ k e. go k e o.0, λ k e. w.1 k e o.1.0)
  where
    go : (k : List Kind) → kinds_when true insn after ≡ Some k → IsLater count slot taken ⊎ IsBack loops slot taken → Leads next taken k
    go k e (inl l) = w.0 k e l.0
    go k e (inr h) = b taken h k e
ways_lead next count loops slot (Enters start n) insn before after o w b = (w.0 o.0.0, w.1 o.1.0)

sound_some : (version : ImageVersion) (vars : ℕ) (code : List Insn) (loops : List Loop) (slot : ℕ) (insn : Insn) (states : States) (found kinds after : List Kind) → AreLoops code loops → IsInsn insn → slice_get code slot ≡ Some insn
    → Sound version vars code loops slot states → state_at states slot ≡ Some found → Passed vars code loops slot insn found kinds after
    → Sound version vars code loops (suc slot) (led slot (slice_set states slot (Some kinds)) (ways_after slot insn kinds after))
sound_some version vars code loops slot insn states found kinds after a n stands s e p =
    let ws = ways_after slot insn kinds after in
    let base = slice_set states slot (Some kinds) in
    let next = led slot base ws in
    let there = slice_get_within code slot insn stands in
    let size = s.count in
    let lt : slot < length states = omega (arith, there, size) in
    let base_size : length base ≡ length code = length-set states slot (Some kinds) ∙ size in
    let here : state_at base slot ≡ Some kinds = get_or-set_same states slot (Some kinds) None lt in
    let other : (k : ℕ) → k ≢ slot → state_at base k ≡ state_at states k = λ k d. set_other states slot k (Some kinds) d in
    let was = s.inner slot found e in
    let set = settled_now code loops slot found kinds a was.fit p.settled_is in
    let earlier : (k : ℕ) → k < slot → state_at base k ≡ state_at states k = λ k b. other k (λ same. absurd (omega (arith, b, same))) in
    let heads : HeadsIn code loops (suc slot) base = λ i l ks g b f. elim (cases_lt l.head slot) [
      | inl before ↦ s.heads i l ks g before (sym (earlier l.head before) ∙ f)
      | inr ge ↦
          let same : l.head ≡ slot = omega (arith, b, ge) in
          let k : kinds ≡ ks = cc (here, subst (λ j. state_at base j ≡ Some ks) same f) in
          subst (IsHeadState code l) k (set.head l (subst (λ j. begins loops j ≡ Some l) same (a.one i l g)))
    ] in
    let settled_in : Inner loops (suc slot) base slot kinds = record {
      fit = set.fit;
      found = λ i l g b le.
          let o = was.found i l g b le in
          record { passed = omega (arith, b); head = o.head; is = earlier l.head b ∙ o.is; under = settled_under code loops slot found kinds o.head i l a was.fit p.settled_is g b le (s.heads i l o.head g o.passed o.is) o.under };
    } in
    let inner : (k : ℕ) (ks : List Kind) → state_at base k ≡ Some ks → Inner loops (suc slot) base k ks = λ k ks f. elim (cases_eq k slot) [
      | inl same ↦
          let is : kinds ≡ ks = cc (here, subst (λ j. state_at base j ≡ Some ks) same f) in
          subst (λ j. Inner loops (suc slot) base j ks) (sym same) (subst (Inner loops (suc slot) base slot) is settled_in)
      | inr d ↦ inner_more loops slot k states base ks earlier (s.inner k ks (sym (other k d) ∙ f))
    ] in
    let onward = a.onward slot insn stands in
    let ways : AllWays (λ t ks. slot < t → Inner loops (suc slot) base t ks) ws =
    all_from (λ t ks. slot < t → Inner loops (suc slot) base t ks) (flow slot insn) insn kinds after
    (ways_inner vars code loops slot insn found kinds after base a n stands p set.fit here settled_in heads) in
    let below : AllWays (λ t ks. t < length base) ws =
    all_from (λ t ks. t < length base) (flow slot insn) insn kinds after
    (flow_below (λ t ks. t < length base) (length code) loops slot (flow slot insn) insn kinds after (λ i l g. let x = a.each i l g in let o = x.order in let w = x.within in omega (arith, o, w)) onward
    (λ t ks b. omega (arith, b, base_size))) in
    let brought : WaysBy (λ t ks. slot < t → Leads next t ks) (flow slot insn) insn kinds after =
    all_to (λ t ks. slot < t → Leads next t ks) (flow slot insn) insn kinds after (led_brings slot base ws below) in
    let keeps : (k : ℕ) → k ≤ slot → state_at next k ≡ state_at base k = λ k b. led_keeps slot k base ws b in
    let grows : AreWithin states next = are_within_then states base next
    (record {
      each = λ k ks f. elim (cases_eq k slot) [
        | inl same ↦
            let is : found ≡ ks = cc (e, subst (λ j. state_at states j ≡ Some ks) same f) in
            subst (λ j. Leads base j ks) (sym same) (record { state = kinds; state_is = here; within = subst (λ x. Within x kinds) is set.within })
        | inr d ↦ leads_same base k ks (other k d ∙ f)
      ];
    })
    (led_grows slot base ws) in
    let lead : WaysBy (Leads next) (flow slot insn) insn kinds after =
    ways_lead next (length code) loops slot (flow slot insn) insn kinds after onward brought (λ t b k f.
    let r = back_leads vars code loops slot insn found kinds after base a n stands p set.fit settled_in heads t b k f in
    let bl = a.each b.index b.loop b.among in
    let le : t ≤ slot = let o = bl.order in let x = b.last in let y = b.head in omega (arith, o, x, y) in
    record { state = r.0; state_is = keeps t le ∙ r.1; within = r.2 }) in
    record {
      count = led_length slot base ws ∙ base_size;
      entered = leads_then states next 0 (entry version) s.entered grows;
      inner = λ k ks f.
          let i = led_all (Inner loops (suc slot) base) slot base ws (λ j x y u v. inner_join loops (suc slot) base j x y u v) inner ways k ks f in
          record { fit = i.fit; found = λ j l g b le. let o = i.found j l g b le in record { passed = o.passed; head = o.head; is = (let q = o.passed in keeps l.head (omega (arith, q))) ∙ o.is; under = o.under } };
      done = λ k i ks b g f. elim (cases_lt k slot) [
        | inl before ↦
            let o = s.done k i ks before g (sym (earlier k before) ∙ (sym (keeps k (omega (arith, before))) ∙ f)) in
            record { after = o.after; effect = o.effect; lead = lead_grow states next (ways_after k i ks o.after) grows o.lead; number = λ h. o.number h }
        | inr ge ↦
            let same : k ≡ slot = omega (arith, b, ge) in
            let is : kinds ≡ ks = cc (here, sym (keeps slot (omega arith)) ∙ subst (λ j. state_at next j ≡ Some ks) same f) in
            let it : insn ≡ i = cc (stands, subst (λ j. slice_get code j ≡ Some i) same g) in
            let now : IsWellTypedAt vars loops next slot insn kinds =
            record { after = after; effect = p.effect; lead = all_lead next ws (all_from (Leads next) (flow slot insn) insn kinds after lead); number = p.number } in
            subst (λ j. IsWellTypedAt vars loops next j i ks) (sym same) (subst (λ x. IsWellTypedAt vars loops next slot x ks) it (subst (IsWellTypedAt vars loops next slot insn) is now))
      ];
      heads = λ i l ks g b f. heads i l ks g b (sym (keeps l.head (omega (arith, b))) ∙ f);
    }

sound_step : (version : ImageVersion) (vars : ℕ) (code : List Insn) (loops : List Loop) (slot : ℕ) (insn : Insn) (states next : States) → AreLoops code loops → IsInsn insn → slice_get code slot ≡ Some insn → Sound version vars code loops slot states
    → passed vars code loops slot insn states ≡ Some next → Sound version vars code loops (suc slot) next
sound_step version vars code loops slot insn states next a n stands s e = go (state_at states slot) refl e
  where
    go : (o : Option (List Kind)) → state_at states slot ≡ o → passed_with vars code loops slot insn o states ≡ Some next → Sound version vars code loops (suc slot) next
    go None f g = let same : states ≡ next = cc g in subst (Sound version vars code loops (suc slot)) same (sound_none version vars code loops slot states s f)
    go (Some found) f g =
        let r = passed_parts vars code loops slot insn found states next g in
        subst (Sound version vars code loops (suc slot)) r.3 (sound_some version vars code loops slot insn states found r.0 r.1 a n stands s f r.2)

-- the instructions `rest` are those of the program from `slot` on
abbrev AreFrom : List Insn → ℕ → List Insn → Type 0
AreFrom code slot rest = (k : ℕ) (insn : Insn) → slice_get rest k ≡ Some insn → slice_get code (slot + k) ≡ Some insn

from_next : (code : List Insn) (slot : ℕ) (insn : Insn) (rest : List Insn) → AreFrom code slot (insn ∷ rest) → (slice_get code slot ≡ Some insn) × AreFrom code (slot + 1) rest
from_next code slot insn rest h =
    let z : slot + 0 ≡ slot = omega arith in (
      subst (λ k. slice_get code k ≡ Some insn) z (h 0 insn refl),
      λ k i e. let m : slot + suc k ≡ slot + 1 + k = omega arith in subst (λ j. slice_get code j ≡ Some i) m (h (suc k) i e),
    )

abbrev AreInsns : List Insn → Type 0
AreInsns code = (slot : ℕ) (insn : Insn) → slice_get code slot ≡ Some insn → IsInsn insn

sound_from : (version : ImageVersion) (vars : ℕ) (code : List Insn) (loops : List Loop) (slot : ℕ) (rest : List Insn) (states last : States) → AreLoops code loops → AreInsns code → AreFrom code slot rest → length code ≡ slot + length rest
    → Sound version vars code loops slot states → pass_from vars code loops slot rest states ≡ Some last → Sound version vars code loops (length code) last
unfolding pass_from
sound_from version vars code loops slot [] states last a n at len s e =
    let same : states ≡ last = cc e in
    let end : slot ≡ length code = omega (arith, len) in
    subst (Sound version vars code loops (length code)) same (subst (λ k. Sound version vars code loops k states) end s)
sound_from version vars code loops slot (insn ∷ rest) states last a n at len s e =
    let f = from_next code slot insn rest at in
    go (λ next t g. sound_from version vars code loops (slot + 1) rest next last a n f.1 (omega (arith, len)) t g) (passed vars code loops slot insn states) refl e
  where
    go : ((next : States) → Sound version vars code loops (slot + 1) next → pass_from vars code loops (slot + 1) rest next ≡ Some last → Sound version vars code loops (length code) last)
        → (o : Option States) → passed vars code loops slot insn states ≡ o → with_some o (pass_from vars code loops (slot + 1) rest) ≡ Some last → Sound version vars code loops (length code) last
    go ih None f g = absurd (cc g)
    go ih (Some next) f g =
        let h = from_next code slot insn rest at in
        let m : suc slot ≡ slot + 1 = omega arith in
        ih next (subst (λ k. Sound version vars code loops k next) m (sound_step version vars code loops slot insn states next a (n slot insn h.0) h.0 s f)) g

-- ---- at first

pub none_at : (code : List Insn) (slot : ℕ) → state_at (map (λ i. None) code) slot ≡ None
none_at [] slot = refl
none_at (insn ∷ code) zero = refl
none_at (insn ∷ code) (suc slot) = none_at code slot

pub nones : (code : List Insn) → length (map {A = Insn} {B = Option (List Kind)} (λ i. None) code) ≡ length code
nones [] = refl
nones (i ∷ code) = ap suc (nones code)

pub first_is : (version : ImageVersion) (code : List Insn) (k : ℕ) (ks : List Kind) → state_at (beginning version code) k ≡ Some ks → (k ≡ 0) × (entry version ≡ ks)
first_is version [] k ks e = absurd (cc e)
first_is version (insn ∷ code) zero ks e = (refl, cc e)
first_is version (insn ∷ code) (suc k) ks e = absurd (cc (e, none_at code k))

sound_first : (version : ImageVersion) (vars : ℕ) (code : List Insn) (loops : List Loop) → 0 < length code → Sound version vars code loops 0 (beginning version code)
sound_first version vars [] loops some = absurd (omega (arith, some))
sound_first version vars (insn ∷ code) loops some = record {
  count = ap suc (nones code);
  entered = leads_same (beginning version (insn ∷ code)) 0 (entry version) refl;
  inner = λ k ks e. let f = first_is version (insn ∷ code) k ks e in record { fit = subst AreKinds f.1 (entry_kinds version); found = λ i l g lt le. absurd (omega (arith, lt, f.0)) };
  done = λ k i ks lt g e. absurd (omega (arith, lt));
  heads = λ i l ks g lt e. absurd (omega (arith, lt));
}

sound_typing : (version : ImageVersion) (vars : ℕ) (code : List Insn) (loops : List Loop) (states : States) → AreLoops code loops → Sound version vars code loops (length code) states → IsTypingWith version vars code loops states
sound_typing version vars code loops states a s = record {
  entered = s.entered;
  each = λ slot insn ks g e. s.done slot insn ks (slice_get_within code slot insn g) g e;
  heads = λ i l ks g e. let x = a.each i l g in s.heads i l ks g (let o = x.order in let w = x.within in omega (arith, o, w)) e;
}

-- ---- exactness: the states stay within every typing

record Bounded (typing states : States) : Type 0 where
  within : AreWithin states typing
  fit : (k : ℕ) (ks : List Kind) → state_at states k ≡ Some ks → AreKinds ks

narrow_when : (typing : States) (b : Bool) (t : ℕ) (insn : Insn) (after wide k : List Kind) → IsInsn insn → AreKinds after → AreNumbers insn wide → Within after wide → kinds_when b insn after ≡ Some k
    → ((x : List Kind) → kinds_when b insn wide ≡ Some x → Leads typing t x) → Leads typing t k
narrow_when typing b t (JumpIf j) after wide k n a m w e l = go (when j b wide) refl (subst (λ o. WayFollows o (when j b wide)) e (when_follows j b after wide n.0 n.1 a w m.0 m.1))
  where
    go : (o : Option (List Kind)) → when j b wide ≡ o → WayFollows (Some k) o → Leads typing t k
    go None f h = absurd h
    go (Some x) f h = leads_wider typing t k x h.0 (l x f)
narrow_when typing b t insn after wide k n a m w e l = subst (Leads typing t) (cc e) (leads_wider typing t after wide w (l wide refl))

pub set_all : (states : States) (slot : ℕ) (kinds : List Kind) (P : ℕ → List Kind → Type 0) → P slot kinds → ((k : ℕ) (ks : List Kind) → state_at states k ≡ Some ks → P k ks) → (k : ℕ) (ks : List Kind) → state_at (slice_set states slot (Some kinds)) k ≡ Some ks → P k ks
set_all states slot kinds P p h k ks e =
    elim (cases_eq k slot) [
      | inl same ↦ elim (cases_lt slot (length states)) [
        | inl lt ↦ subst (λ i. P i ks) (sym same) (let is : kinds ≡ ks = cc (get_or-set_same states slot (Some kinds) None lt, subst (λ i. state_at (slice_set states slot (Some kinds)) i ≡ Some ks) same e) in subst (P slot) is p)
        | inr ge ↦ h k ks (ap (λ s. state_at s k) (sym (set_past states slot (Some kinds) ge)) ∙ e)
      ]
      | inr d ↦ h k ks (sym (set_other states slot k (Some kinds) d) ∙ e)
    ]

allowed : (b c : Bool) → (b ≡ true → c ≡ true) → (b && not c) ≡ false
allowed false c h = refl
allowed true true h = refl
allowed true false h = absurd (cc (h refl))

-- if the branches from wider states lead to states that contain theirs, so do the branches from
-- narrower states
ways_narrow : (typing : States) (f : Flow) (insn : Insn) (ks wider after wide : List Kind) → IsInsn insn → AreKinds after → AreNumbers insn wide → Within ks wider → Within after wide
    → WaysBy (Leads typing) f insn wider wide → WaysBy (Leads typing) f insn ks after
ways_narrow typing Halts insn ks wider after wide n a m v w h = tt
ways_narrow typing (Goes next) insn ks wider after wide n a m v w h = leads_wider typing next after wide w h
ways_narrow typing (Forks taken next) insn ks wider after wide n a m v w h = (λ k e. go true taken k e h.0, λ k e. go false next k e h.1)
  where
    go : (b : Bool) (t : ℕ) (k : List Kind) → kinds_when b insn after ≡ Some k → ((x : List Kind) → kinds_when b insn wide ≡ Some x → Leads typing t x) → Leads typing t k
    go b t k e l = narrow_when typing b t insn after wide k n a m w e l
ways_narrow typing (Enters start next) insn ks wider after wide n a m v w h = (leads_wider typing start (enter ks) (enter wider) (enter_within ks wider v) h.0, leads_wider typing next after wide w h.1)

pub fit_ways : (vars slot : ℕ) (f : Flow) (insn : Insn) (ks after : List Kind) → IsInsn insn → AreNumbers insn after → AreKinds ks → AreKinds after → WaysBy (λ t k. slot < t → AreKinds k) f insn ks after
fit_ways vars slot f insn ks after n m a b = by_flow (λ t k. slot < t → AreKinds k) f insn ks after (λ t l lt. b) (λ taken t k l e lt. way_kinds taken insn after k n b m e) (λ t c lt. enter_kinds ks a)

led_within : (typing : States) (slot : ℕ) (states : States) (ws : List Way) → AreWithin states typing → AllWays (Leads typing) ws → AreWithin (led slot states ws) typing
led_within typing slot states ws w a = record { each = led_all (Leads typing) slot states ws (leads_join typing) w.each (all_then (Leads typing) (λ t ks. slot < t → Leads typing t ks) ws (λ t ks l lt. l) a) }

-- a slot's state, after its loop invariant is formed, is within the typing's
record SettlesWithin (code : List Insn) (loops : List Loop) (slot : ℕ) (found wider : List Kind) : Type 0 where
  kinds : List Kind
  is : settled code (begins loops slot) found ≡ Some kinds
  within : Within kinds wider
  fit : AreKinds kinds

settles_within : (code : List Insn) (loops : List Loop) (slot : ℕ) (found wider : List Kind) → AreLoops code loops → AreKinds found → Within found wider
    → ((i : ℕ) (l : Loop) → slice_get loops i ≡ Some l → l.head ≡ slot → IsHeadState code l wider) → SettlesWithin code loops slot found wider
unfolding settled
settles_within code loops slot found wider a f w h = go (begins loops slot) refl
  where
    go : (o : Option Loop) → begins loops slot ≡ o → SettlesWithin code loops slot found wider
    go None b = record { kinds = found; is = rw b refl; within = w; fit = f }
    go (Some l) b =
        let at = begins_is loops slot l b in
        let is = sound_of code l (a.each at.0 l at.1) in
        let r = least code l found wider is f w (h at.0 l at.1 at.2) in
        record { kinds = r.kinds; is = rw b r.is; within = r.within; fit = (settles code l found r.kinds is f r.is).kinds }

gives_narrow : (o : Option ℕ) (after wide : List Kind) → Within after wide → gives_number o wide ≡ true → gives_number o after ≡ true
gives_narrow None after wide w e = refl
gives_narrow (Some dst) after wide w e = is_number_follows (kind_at after dst) (kind_at wide dst) (w.each dst) e

bounded_some : (version : ImageVersion) (vars : ℕ) (code : List Insn) (loops : List Loop) (slot : ℕ) (insn : Insn) (states typing : States) (found : List Kind) → AreLoops code loops → IsInsn insn → slice_get code slot ≡ Some insn → IsTypingWith version vars code loops typing
    → Bounded typing states → state_at states slot ≡ Some found → (next : States) × (passed_with vars code loops slot insn (Some found) states ≡ Some next) × Bounded typing next
bounded_some version vars code loops slot insn states typing found a n stands t b e =
    let there = b.within.each slot found e in
    let s = settles_within code loops slot found there.state a (b.fit slot found e) there.within (λ i l g same. t.heads i l there.state g (subst (λ k. state_at typing k ≡ Some there.state) (sym same) there.state_is)) in
    let typed = t.each slot insn there.state stands there.state_is in
    let m = transfer_meets vars insn s.kinds there.state typed.after n s.fit s.within typed.effect in
    let fit = effect_kinds vars insn s.kinds m.after n s.fit m.is in
    let ws = ways_after slot insn s.kinds m.after in
    let base = slice_set states slot (Some s.kinds) in
    let lead : AllWays (Leads typing) ws =
    all_from (Leads typing) (flow slot insn) insn s.kinds m.after
    (ways_narrow typing (flow slot insn) insn s.kinds there.state m.after typed.after n fit (are_numbers vars insn there.state typed.after typed.effect) s.within m.within
    (all_to (Leads typing) (flow slot insn) insn there.state typed.after (lead_all typing (ways_after slot insn there.state typed.after) typed.lead))) in
    let in_base : (P : ℕ → List Kind → Type 0) → P slot s.kinds → ((k : ℕ) (ks : List Kind) → state_at states k ≡ Some ks → P k ks) → (k : ℕ) (ks : List Kind) → state_at base k ≡ Some ks → P k ks =
    set_all states slot s.kinds in
    let within : AreWithin base typing = record { each = in_base (Leads typing) (record { state = there.state; state_is = there.state_is; within = s.within }) b.within.each } in
    let number : (is_inside loops slot && not (gives_number (computes insn) m.after)) ≡ false =
    allowed (is_inside loops slot) (gives_number (computes insn) m.after) (λ h. gives_narrow (computes insn) m.after typed.after m.within (typed.number h)) in (
      led slot base ws,
      rw (s.is, m.is, number) refl,
      record {
        within = led_within typing slot base ws within lead;
        fit = led_all (λ k ks. AreKinds ks) slot base ws (λ k x y p q. joined_kinds x y p q) (in_base (λ k ks. AreKinds ks) s.fit b.fit)
            (all_from (λ t ks. slot < t → AreKinds ks) (flow slot insn) insn s.kinds m.after (fit_ways vars slot (flow slot insn) insn s.kinds m.after n (are_numbers vars insn s.kinds m.after m.is) s.fit fit));
      },
    )

bounded_from : (version : ImageVersion) (vars : ℕ) (code : List Insn) (loops : List Loop) (slot : ℕ) (rest : List Insn) (states typing : States) → AreLoops code loops → AreInsns code → AreFrom code slot rest → IsTypingWith version vars code loops typing
    → Bounded typing states → pass_from vars code loops slot rest states ≡ None → ⊥
unfolding pass_from
bounded_from version vars code loops slot [] states typing a n at t b e = absurd (cc e)
bounded_from version vars code loops slot (insn ∷ rest) states typing a n at t b e =
    let h = from_next code slot insn rest at in
    go (λ next c g. bounded_from version vars code loops (slot + 1) rest next typing a n h.1 t c g) (bounded_some version vars code loops slot insn states typing) (n slot insn h.0) h.0 (state_at states slot) refl e
  where
    go : ((next : States) → Bounded typing next → pass_from vars code loops (slot + 1) rest next ≡ None → ⊥)
        → ((found : List Kind) → AreLoops code loops → IsInsn insn → slice_get code slot ≡ Some insn → IsTypingWith version vars code loops typing → Bounded typing states → state_at states slot ≡ Some found
        → (next : States) × (passed_with vars code loops slot insn (Some found) states ≡ Some next) × Bounded typing next)
        → IsInsn insn → slice_get code slot ≡ Some insn
        → (o : Option (List Kind)) → state_at states slot ≡ o → with_some (passed_with vars code loops slot insn o states) (pass_from vars code loops (slot + 1) rest) ≡ None → ⊥
    go ih some i stands None f g = ih states b g
    go ih some i stands (Some found) f g =
        let r = some found a i stands t b f in
        ih r.0 r.2 (rw r.1 at g)

-- the result of the pass is a typing; if the pass has no result, the program has no typing
abbrev pub IsExact : ImageVersion → ℕ → List Insn → List Loop → Option States → Type 0
IsExact version vars code loops (Some states) = IsTypingWith version vars code loops states
IsExact version vars code loops None = (t : States) → IsTypingWith version vars code loops t → ⊥

pub exact : (version : ImageVersion) (vars : ℕ) (code : List Insn) (loops : List Loop) → 0 < length code → AreInsns code → AreLoops code loops → IsExact version vars code loops (pass_with version vars code loops)
exact version vars code loops some n a = go (pass_with version vars code loops) refl
  where
    all : AreFrom code 0 code
    all k insn e = let z : k ≡ 0 + k = omega arith in subst (λ j. slice_get code j ≡ Some insn) z e

    go : (o : Option States) → pass_with version vars code loops ≡ o → IsExact version vars code loops o
    go None e = λ t typing. bounded_from version vars code loops 0 code (beginning version code) t a n all typing (record {
      within = record { each = λ k ks f. let x = first_is version code k ks f in subst (λ j. Leads t j ks) (sym x.0) (subst (Leads t 0) x.1 typing.entered) };
      fit = λ k ks f. subst AreKinds (first_is version code k ks f).1 (entry_kinds version);
    }) e
    go (Some last) e = sound_typing version vars code loops last a (sound_from version vars code loops 0 code (beginning version code) last a n all (omega arith) (sound_first version vars code loops some) e)

-- ---- the two results

pub typed_states : (version : ImageVersion) (vars : ℕ) (code : List Insn) → 0 < length code → AreInsns code → AreLoops code (loops_in version code) → is_typable version vars code ≡ true → (states : States) × IsTypingOf version vars code states
typed_states version vars code some n a t = go (pass version vars code) (exact version vars code (loops_in version code) some n a) t
  where
    go : (o : Option States) → IsExact version vars code (loops_in version code) o → is_some o ≡ true → (states : States) × IsTypingOf version vars code states
    go None e f = absurd (cc f)
    go (Some states) e f = (states, e)

pub untypable : (version : ImageVersion) (vars : ℕ) (code : List Insn) → 0 < length code → AreInsns code → AreLoops code (loops_in version code) → is_typable version vars code ≡ false → (typing : States) → IsTypingOf version vars code typing → ⊥
untypable version vars code some n a t = go (pass version vars code) (exact version vars code (loops_in version code) some n a) t
  where
    go : (o : Option States) → IsExact version vars code (loops_in version code) o → is_some o ≡ false → (typing : States) → IsTypingOf version vars code typing → ⊥
    go None e f = e
    go (Some states) e f = absurd (cc f)
