-- The first broken rule with its first slot, as a relation and as a function.
use Rattle.std.proofs.Common.{◌≡◌, ◌++◌, ◌==◌, ◌&&◌, ℕ, zero, suc, ◌+◌, ◌<◌, ◌≤◌, Bool, true, false, if◌then◌else◌, List, [], ◌∷◌, Option, Some, None, refl, sym, ap, ◌∙◌, subst, arith}
use Rattle.std.specs.Prelude.{slice_get, nat_lt, length, get_or, MatchOption}
use Rattle.std.proofs.lemmas.Option.{get_or_from_slice_get, slice_get-get_or, slice_get_within}
use Rattle.std.proofs.lemmas.Bool.Decides.{nat_tests}
use Rattle.fc_isa.specs.declared.insn.Insn.{Insn}
use Rattle.fc_isa.specs.declared.rule.Rule.{Rule}
use Rattle.fc_isa.specs.declared.rule.Rule.TheVariants.{JumpTarget, BackwardJump, Boundary, BackwardCall, FrameDepth, Cost, Helper}
use Rattle.std.specs.List.{AllByRecursion}
use Rattle.fc_isa.specs.Rules.{number_of}
use Rattle.fc_image.specs.Functions.{frames}
use Rattle.fc_image.specs.Head.{Head, frames_allowed, loops_allowed}
use Rattle.fc_image.specs.Paths.{longest}
use Rattle.fc_image.specs.ShapeRules.{breaks_flow, breaks_shape, IsShapeFault, KeepsRule, least, or_next, first_broken, flow_rules, shape_fault}
use Rattle.fc_image.specs.Laws.{KeepsLimits}

-- ---- the first slot

-- none of these slots, the first of which is `from`, passes the test
record NonePasses (test : ℕ → Insn → Bool) (from : ℕ) (code : List Insn) : Type 0 where
  each : (k : ℕ) (insn : Insn) → slice_get code k ≡ Some insn → test (from + k) insn ≡ false

record LeastPasses (test : ℕ → Insn → Bool) (from : ℕ) (code : List Insn) (slot : ℕ) : Type 0 where
  index : ℕ
  insn : Insn
  slot_is : slot ≡ from + index
  stands : slice_get code index ≡ Some insn
  passes : test slot insn ≡ true
  before : (k : ℕ) (i : Insn) → k < index → slice_get code k ≡ Some i → test (from + k) i ≡ false

none_more : (test : ℕ → Insn → Bool) (from : ℕ) (insn : Insn) (code : List Insn) → test from insn ≡ false → NonePasses test (from + 1) code → NonePasses test from (insn ∷ code)
none_more test from insn code e h = record { each = go }
  where
    go : (k : ℕ) (i : Insn) → slice_get (insn ∷ code) k ≡ Some i → test (from + k) i ≡ false
    go zero i g = let same : insn ≡ i = cc g in let n : from + 0 ≡ from = omega arith in ap (λ x. test x i) n ∙ ap (test from) (sym same) ∙ e
    go (suc k) i g = let n : from + suc k ≡ from + 1 + k = omega arith in ap (λ x. test x i) n ∙ h.each k i g

least_none : (test : ℕ → Insn → Bool) (from : ℕ) (code : List Insn) → least test from code ≡ None → NonePasses test from code
least_none test from [] e = record { each = λ k i g. absurd (cc g) }
least_none test from (insn ∷ code) e = go (test from insn) refl e (least_none test (from + 1) code)
  where
    go : (b : Bool) → test from insn ≡ b → (if b then Some from else least test (from + 1) code) ≡ None → (least test (from + 1) code ≡ None → NonePasses test (from + 1) code) → NonePasses test from (insn ∷ code)
    go true t f rest = absurd (cc f)
    go false t f rest = none_more test from insn code t (rest f)

least_some : (test : ℕ → Insn → Bool) (from : ℕ) (code : List Insn) (slot : ℕ) → least test from code ≡ Some slot → LeastPasses test from code slot
least_some test from [] slot e = absurd (cc e)
least_some test from (insn ∷ code) slot e = go (test from insn) refl e (least_some test (from + 1) code slot)
  where
    go : (b : Bool) → test from insn ≡ b → (if b then Some from else least test (from + 1) code) ≡ Some slot → (least test (from + 1) code ≡ Some slot → LeastPasses test (from + 1) code slot) → LeastPasses test from (insn ∷ code) slot
    go true t f rest =
        let same : from ≡ slot = cc f in
        record { index = 0; insn = insn; slot_is = omega (arith, same); stands = refl; passes = subst (λ x. test x insn ≡ true) same t; before = λ k i lt g. absurd (omega arith) }
    go false t f rest =
        let r = rest f in
        record {
          index = suc r.index;
          insn = r.insn;
          slot_is = omega (arith, r.slot_is);
          stands = r.stands;
          passes = r.passes;
          before = λ k i lt g. before k i lt g;
        }
      where
        before : (k : ℕ) (i : Insn) → k < suc (rest f).index → slice_get (insn ∷ code) k ≡ Some i → test (from + k) i ≡ false
        before zero i lt g = let same : insn ≡ i = cc g in let n : from + 0 ≡ from = omega arith in ap (λ x. test x i) n ∙ ap (test from) (sym same) ∙ t
        before (suc k) i lt g = let n : from + suc k ≡ from + 1 + k = omega arith in ap (λ x. test x i) n ∙ (rest f).before k i (omega arith) g

-- ---- one rule, and the rules in their order

none_least : (test : ℕ → Insn → Bool) (from : ℕ) (code : List Insn) → NonePasses test from code → least test from code ≡ None
none_least test from [] h = refl
none_least test from (insn ∷ code) h =
    let n : from + 0 ≡ from = omega arith in
    let t : test from insn ≡ false = ap (λ k. test k insn) (sym n) ∙ h.each 0 insn refl in
    ap (λ (b : Bool). if b then Some from else least test (from + 1) code) t
    ∙ none_least test (from + 1) code (record { each = λ k i g. let m : from + 1 + k ≡ from + suc k = omega arith in ap (λ x. test x i) m ∙ h.each (suc k) i g })

least_is : (test : ℕ → Insn → Bool) (from : ℕ) (code : List Insn) (index slot : ℕ) (insn : Insn) → slot ≡ from + index → slice_get code index ≡ Some insn → test slot insn ≡ true
    → ((k : ℕ) (i : Insn) → k < index → slice_get code k ≡ Some i → test (from + k) i ≡ false) → least test from code ≡ Some slot
least_is test from [] index slot insn e g t b = absurd (cc g)
least_is test from (i ∷ code) zero slot insn e g t b =
    let n : slot ≡ from = omega (arith, e) in
    let same : i ≡ insn = cc g in
    let t' : test from i ≡ true = ap (test from) same ∙ ap (λ k. test k insn) (sym n) ∙ t in
    ap (λ (b : Bool). if b then Some from else least test (from + 1) code) t' ∙ ap Some (sym n)
least_is test from (i ∷ code) (suc index) slot insn e g t b =
    let n : from + 0 ≡ from = omega arith in
    let f : test from i ≡ false = ap (λ k. test k i) (sym n) ∙ b 0 i (omega arith) refl in
    ap (λ (b : Bool). if b then Some from else least test (from + 1) code) f
    ∙ least_is test (from + 1) code index slot insn (omega (arith, e)) g t (λ k j lt h. let m : from + 1 + k ≡ from + suc k = omega arith in ap (λ x. test x j) m ∙ b (suc k) j (omega arith) h)

-- the test of the instruction at slot k gives b
abbrev pub Tests : (ℕ → Insn → Bool) → Bool → List Insn → ℕ → Type 0
Tests test b code k = (insn : Insn) × (insn ≡ get_or code k insn) × (test k insn ≡ b)

failed : (test : ℕ → Insn → Bool) (code : List Insn) (k : ℕ) (i : Insn) → Tests test false code k → slice_get code k ≡ Some i → test (0 + k) i ≡ false
failed test code k i t g =
    let n : 0 + k ≡ k = omega arith in
    ap (λ x. test x i) n ∙ ap (test k) (sym (t.1 ∙ get_or_from_slice_get code k i t.0 g)) ∙ t.2

pub least_found : (test : ℕ → Insn → Bool) (code : List Insn) (o : Option ℕ)
    → MatchOption o ((k : ℕ) → 0 ≤ k → k < length code → Tests test false code k) (λ slot. (0 ≤ slot) × (slot < length code) × Tests test true code slot × ((k : ℕ) → 0 ≤ k → k < slot → Tests test false code k))
    → o ≡ least test 0 code
least_found test code None none =
    sym (none_least test 0 code (record { each = λ k i g. failed test code k i (none k (omega arith) (slice_get_within code k i g)) g }))
least_found test code (Some slot) some =
    let t = some.2 in
    let n : slot ≡ 0 + slot = omega arith in
    let stands : slice_get code slot ≡ Some t.0 = slice_get-get_or code slot t.0 some.1 ∙ ap Some (sym t.1) in
    sym (least_is test 0 code slot slot t.0 n stands t.2 (λ k i lt g. failed test code k i (some.3 k (omega arith) lt) g))

-- the slot breaks the rule, and no slot before it does
record Breaks (head : Head) (code : List Insn) (rule : Rule) (slot : ℕ) : Type 0 where
  pub insn : Insn
  pub stands : slice_get code slot ≡ Some insn
  pub broken : breaks_shape head code slot insn rule ≡ true
  pub slots_before : (k : ℕ) (i : Insn) → k < slot → slice_get code k ≡ Some i → breaks_shape head code k i rule ≡ false

pub rule_kept : (head : Head) (code : List Insn) (rule : Rule) → least (λ slot insn. breaks_shape head code slot insn rule) 0 code ≡ None → KeepsRule head code rule
rule_kept head code rule e = record {
  each = λ k i g.
      let n : 0 + k ≡ k = omega arith in
      subst (λ x. breaks_shape head code x i rule ≡ false) n ((least_none (λ slot insn. breaks_shape head code slot insn rule) 0 code e).each k i g);
}

kept_rule : (head : Head) (code : List Insn) (rule : Rule) → KeepsRule head code rule → least (λ slot insn. breaks_shape head code slot insn rule) 0 code ≡ None
kept_rule head code rule h = none_least (λ slot insn. breaks_shape head code slot insn rule) 0 code
    (record { each = λ k i g. let n : k ≡ 0 + k = omega arith in subst (λ x. breaks_shape head code x i rule ≡ false) n (h.each k i g) })

rule_broken : (head : Head) (code : List Insn) (rule : Rule) (slot : ℕ) → least (λ slot insn. breaks_shape head code slot insn rule) 0 code ≡ Some slot → Breaks head code rule slot
rule_broken head code rule slot e =
    let r = least_some (λ slot insn. breaks_shape head code slot insn rule) 0 code slot e in
    let same : r.index ≡ slot = omega (arith, r.slot_is) in
    record {
      insn = r.insn;
      stands = subst (λ k. slice_get code k ≡ Some r.insn) same r.stands;
      broken = r.passes;
      slots_before = λ k i lt g. let n : 0 + k ≡ k = omega arith in subst (λ x. breaks_shape head code x i rule ≡ false) n (r.before k i (omega (arith, same)) g);
    }

all_keep : (head : Head) (code : List Insn) (rules : List Rule) → first_broken head code rules ≡ None → AllByRecursion (KeepsRule head code) rules
all_keep head code [] e = tt
all_keep head code (rule ∷ rules) e = go (least (λ slot insn. breaks_shape head code slot insn rule) 0 code) refl e (all_keep head code rules)
  where
    go : (o : Option ℕ) → least (λ slot insn. breaks_shape head code slot insn rule) 0 code ≡ o → or_next o rule (first_broken head code rules) ≡ None
        → (first_broken head code rules ≡ None → AllByRecursion (KeepsRule head code) rules) → AllByRecursion (KeepsRule head code) (rule ∷ rules)
    go (Some slot) f g rest = absurd (cc g)
    go None f g rest = (rule_kept head code rule f, rest g)

kept_all : (head : Head) (code : List Insn) (rules : List Rule) → ((rule : Rule) → KeepsRule head code rule) → first_broken head code rules ≡ None
kept_all head code [] h = refl
kept_all head code (rule ∷ rules) h = ap (λ o. or_next o rule (first_broken head code rules)) (kept_rule head code rule (h rule)) ∙ kept_all head code rules h

-- `rule` is the first of these rules that a slot breaks, and `slot` is the first slot that breaks
-- it
record FirstBreaks (head : Head) (code : List Insn) (rules : List Rule) (slot : ℕ) (rule : Rule) : Type 0 where
  before : List Rule
  after : List Rule
  order : rules ≡ before ++ (rule ∷ after)
  kept : AllByRecursion (KeepsRule head code) before
  breaks : Breaks head code rule slot

first_breaks : (head : Head) (code : List Insn) (rules : List Rule) (slot : ℕ) (rule : Rule) → first_broken head code rules ≡ Some (slot, rule) → FirstBreaks head code rules slot rule
first_breaks head code [] slot rule e = absurd (cc e)
first_breaks head code (r ∷ rules) slot rule e = go (least (λ slot insn. breaks_shape head code slot insn r) 0 code) refl e (first_breaks head code rules slot rule)
  where
    go : (o : Option ℕ) → least (λ slot insn. breaks_shape head code slot insn r) 0 code ≡ o → or_next o r (first_broken head code rules) ≡ Some (slot, rule)
        → (first_broken head code rules ≡ Some (slot, rule) → FirstBreaks head code rules slot rule) → FirstBreaks head code (r ∷ rules) slot rule
    go (Some s) f g rest =
        let same : ◌≡◌ {A = ℕ × Rule} (s, r) (slot, rule) = cc g in
        let slots : s ≡ slot = ap (λ (p : ℕ × Rule). p.0) same in
        let is : r ≡ rule = ap (λ (p : ℕ × Rule). p.1) same in
        record { before = []; after = rules; order = ap (λ x. x ∷ rules) is; kept = tt; breaks = subst (λ x. Breaks head code x slot) is (subst (Breaks head code r) slots (rule_broken head code r s f)) }
    go None f g rest =
        let h = rest g in
        record { before = r ∷ h.before; after = h.after; order = ap (λ x. r ∷ x) h.order; kept = (rule_kept head code r f, h.kept); breaks = h.breaks }

first_is : (head : Head) (code : List Insn) (before after : List Rule) (slot : ℕ) (rule : Rule) → AllByRecursion (KeepsRule head code) before → least (λ slot insn. breaks_shape head code slot insn rule) 0 code ≡ Some slot
    → first_broken head code (before ++ (rule ∷ after)) ≡ Some (slot, rule)
first_is head code [] after slot rule h e = ap (λ o. or_next o rule (first_broken head code after)) e
first_is head code (r ∷ before) after slot rule h e =
    ap (λ o. or_next o r (first_broken head code (before ++ (rule ∷ after)))) (kept_rule head code r h.0) ∙ first_is head code before after slot rule h.1 e

pub fault_is : (head : Head) (code : List Insn) (slot : ℕ) (rule : Rule) → shape_fault head code ≡ Some (slot, rule) → IsShapeFault head code slot rule
unfolding shape_fault
fault_is head code slot rule e =
    let f = first_breaks head code flow_rules slot rule e in
    record { before = f.before; after = f.after; order = f.order; kept = f.kept; insn = f.breaks.insn; stands = f.breaks.stands; broken = f.breaks.broken; slots_before = f.breaks.slots_before }

pub is_fault : (head : Head) (code : List Insn) (slot : ℕ) (rule : Rule) → IsShapeFault head code slot rule → shape_fault head code ≡ Some (slot, rule)
unfolding shape_fault
is_fault head code slot rule f =
    let test = λ (slot : ℕ) (insn : Insn). breaks_shape head code slot insn rule in
    let n : slot ≡ 0 + slot = omega arith in
    ap (first_broken head code) f.order
    ∙ first_is head code f.before f.after slot rule f.kept
    (least_is test 0 code slot slot f.insn n f.stands f.broken (λ k i lt g. let m : k ≡ 0 + k = omega arith in subst (λ x. breaks_shape head code x i rule ≡ false) m (f.slots_before k i lt g)))

-- if no slot breaks a rule of the control flow, no slot breaks any rule
kept_by_all : (head : Head) (code : List Insn) → AllByRecursion (KeepsRule head code) flow_rules → (rule : Rule) → KeepsRule head code rule
unfolding breaks_shape
kept_by_all head code h JumpTarget = h.0
kept_by_all head code h BackwardJump = h.1.0
kept_by_all head code h Boundary = h.1.1.0
kept_by_all head code h BackwardCall = h.1.1.1.0
kept_by_all head code h FrameDepth = h.1.1.1.1.0
kept_by_all head code h Cost = h.1.1.1.1.1.0
kept_by_all head code h Helper = h.1.1.1.1.1.1.0
kept_by_all head code h _ = record { each = λ k i g. refl }

flow_kept : (head : Head) (code : List Insn) (rule : Rule) → KeepsRule head code rule → (slot : ℕ) (insn : Insn) → slice_get code slot ≡ Some insn → breaks_flow (loops_allowed head.version) code slot insn rule ≡ false
unfolding breaks_shape
flow_kept head code Cost h slot insn g = refl
flow_kept head code JumpTarget h slot insn g = h.each slot insn g
flow_kept head code BackwardJump h slot insn g = h.each slot insn g
flow_kept head code Boundary h slot insn g = h.each slot insn g
flow_kept head code BackwardCall h slot insn g = h.each slot insn g
flow_kept head code FrameDepth h slot insn g = refl
flow_kept head code Helper h slot insn g = h.each slot insn g
flow_kept head code _ h slot insn g = refl

first_insn : (code : List Insn) → 0 < length code → (insn : Insn) × (slice_get code 0 ≡ Some insn)
first_insn [] h = absurd (omega arith)
first_insn (insn ∷ code) h = (insn, refl)

within_budget : (head : Head) (code : List Insn) → 0 < length code → KeepsRule head code Cost → longest head.version code ≤ head.budget
unfolding breaks_shape
within_budget head code some h = let i = first_insn code some in let e : nat_lt head.budget (longest head.version code) ≡ false = h.each 0 i.0 i.1 in grind (arith, nat_tests, e)

frames_within : (head : Head) (code : List Insn) → 0 < length code → KeepsRule head code FrameDepth → frames code ≤ frames_allowed head.version
unfolding breaks_shape
frames_within head code some h =
    let i = first_insn code some in
    let e : nat_lt (frames_allowed head.version) (frames code) ≡ false = h.each 0 i.0 i.1 in
    grind (arith, nat_tests, e)

-- a program without a fault passes the checks of its slots, and its frames and its longest path are
-- within the limits of the header
pub faultless : (head : Head) (code : List Insn) → shape_fault head code ≡ None → (0 < length code) → KeepsLimits head code
unfolding shape_fault
faultless head code e some =
    let all = kept_by_all head code (all_keep head code flow_rules e) in
    record {
      shaped = record { each = λ rule slot insn g. flow_kept head code rule (all rule) slot insn g };
      frames = frames_within head code some (all FrameDepth);
      within = within_budget head code some (all Cost);
    }

not_above : (n most slot : ℕ) → n ≤ most → ((slot == 0) && nat_lt most n) ≡ false
not_above n most slot le = go (slot == 0) (nat_lt most n) (grind (arith, nat_tests))
  where
    go : (a b : Bool) → b ≡ false → (a && b) ≡ false
    go true b e = e
    go false b e = refl

all_kept : (head : Head) (code : List Insn) → KeepsLimits head code → (rule : Rule) → KeepsRule head code rule
unfolding breaks_shape
all_kept head code k Cost = record { each = λ slot insn g. not_above (longest head.version code) head.budget slot k.within }
all_kept head code k JumpTarget = record { each = k.shaped.each JumpTarget }
all_kept head code k BackwardJump = record { each = k.shaped.each BackwardJump }
all_kept head code k Boundary = record { each = k.shaped.each Boundary }
all_kept head code k BackwardCall = record { each = k.shaped.each BackwardCall }
all_kept head code k FrameDepth = record { each = λ slot insn g. not_above (frames code) (frames_allowed head.version) slot k.frames }
all_kept head code k Helper = record { each = k.shaped.each Helper }
all_kept head code k _ = record { each = λ slot insn g. refl }

pub no_fault : (head : Head) (code : List Insn) → KeepsLimits head code → shape_fault head code ≡ None
unfolding shape_fault
no_fault head code k = kept_all head code flow_rules (all_kept head code k)

-- ---- the rules of the control flow have numbers below 20

low_from : (head : Head) (code : List Insn) (rules : List Rule) (slot : ℕ) (rule : Rule) → AllByRecursion (λ r. number_of r < 20) rules → first_broken head code rules ≡ Some (slot, rule) → number_of rule < 20
low_from head code [] slot rule h e = absurd (cc e)
low_from head code (r ∷ rules) slot rule h e = go (least (λ slot insn. breaks_shape head code slot insn r) 0 code) e (low_from head code rules slot rule h.1)
  where
    go : (o : Option ℕ) → or_next o r (first_broken head code rules) ≡ Some (slot, rule) → (first_broken head code rules ≡ Some (slot, rule) → number_of rule < 20) → number_of rule < 20
    go (Some s) g rest =
        let same : ◌≡◌ {A = ℕ × Rule} (s, r) (slot, rule) = cc g in
        subst (λ x. number_of x < 20) (ap (λ (p : ℕ × Rule). p.1) same) h.0
    go None g rest = rest g

low_rules : AllByRecursion (λ r. number_of r < 20) flow_rules
low_rules = (omega arith, (omega arith, (omega arith, (omega arith, (omega arith, (omega arith, (omega arith, tt)))))))

pub fault_low : (head : Head) (code : List Insn) (slot : ℕ) (rule : Rule) → shape_fault head code ≡ Some (slot, rule) → number_of rule < 20
unfolding shape_fault
fault_low head code slot rule e = low_from head code flow_rules slot rule low_rules e
