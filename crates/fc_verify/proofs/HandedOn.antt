-- The states on an instruction's branches, joined to those of slots.
use Rattle.std.proofs.Common.{◌≡◌, ◌≢◌, ℕ, ◌<◌, ◌≤◌, nat_lt, true, false, Bool, if◌then◌else◌, Option, Some, None, List, [], ◌∷◌, ◌++◌, length, refl, sym, ap, ◌∙◌, subst, inl, inr, arith, length-set, get_or-set_same, get_or-set_other}
use Rattle.std.specs.Prelude.{slice_set}
use Rattle.std.proofs.lemmas.Bool.{cases_eq, cases_lt}
use Rattle.std.proofs.lemmas.Bool.Decides.{nat_tests}
use Rattle.fc_isa.specs.declared.insn.Insn.{Insn}
use Rattle.fc_isa.specs.Flow.{Flow, Halts, Goes, Forks, Enters}
use Rattle.fc_kinds.specs.declared.kind.Kind.{Kind}
use Rattle.fc_kinds.specs.Kinds.{Within}
use Rattle.fc_kinds.specs.Lattice.{joined}
use Rattle.fc_kinds.specs.Transfer.{enter}
use Rattle.fc_verify.specs.Typing.{States, state_at, Leads}
use Rattle.fc_kinds.proofs.KindLaws.{within_same, within_then, set_past}
use Rattle.fc_kinds.proofs.JoinLaws.{joined_left, joined_right, joined_least}
use Rattle.fc_kinds.specs.Ways.{Way, way_where, kinds_when, ways_along}
use Rattle.fc_verify.specs.Typing.{AllLead}
use Rattle.fc_verify.specs.Pass.{joined_in, meet_at, led}

-- ---- states

pub record AreWithin (states wider : States) : Type 0 where
  pub each : (slot : ℕ) (kinds : List Kind) → state_at states slot ≡ Some kinds → Leads wider slot kinds

pub leads_same : (states : States) (slot : ℕ) (kinds : List Kind) → state_at states slot ≡ Some kinds → Leads states slot kinds
leads_same states slot kinds e = record { state = kinds; state_is = e; within = within_same kinds }

pub are_within_same : (states : States) → AreWithin states states
are_within_same states = record { each = leads_same states }

pub leads_then : (states wider : States) (slot : ℕ) (kinds : List Kind) → Leads states slot kinds → AreWithin states wider → Leads wider slot kinds
leads_then states wider slot kinds l w =
    let m = w.each slot l.state l.state_is in
    record { state = m.state; state_is = m.state_is; within = within_then kinds l.state m.state l.within m.within }

pub leads_wider : (states : States) (slot : ℕ) (ks wider : List Kind) → Within ks wider → Leads states slot wider → Leads states slot ks
leads_wider states slot ks wider w l = record { state = l.state; state_is = l.state_is; within = within_then ks wider l.state w l.within }

pub are_within_then : (a b c : States) → AreWithin a b → AreWithin b c → AreWithin a c
are_within_then a b c p q = record { each = λ slot kinds e. leads_then b c slot kinds (p.each slot kinds e) q }

-- setting the state of one slot doesn't change that of another
pub set_other : (states : States) (slot k : ℕ) (s : Option (List Kind)) → k ≢ slot → state_at (slice_set states slot s) k ≡ state_at states k
set_other states slot k s n = get_or-set_other states slot k s None n

pub met_other : (states : States) (slot k : ℕ) (kinds : List Kind) → k ≢ slot → state_at (meet_at states slot kinds) k ≡ state_at states k
met_other states slot k kinds n = set_other states slot k (joined_in (state_at states slot) kinds) n

pub met_past : (states : States) (slot : ℕ) (kinds : List Kind) → length states ≤ slot → meet_at states slot kinds ≡ states
met_past states slot kinds ge = set_past states slot (joined_in (state_at states slot) kinds) ge

pub met_here : (states : States) (slot : ℕ) (kinds : List Kind) → slot < length states
    → state_at (meet_at states slot kinds) slot ≡ joined_in (state_at states slot) kinds
met_here states slot kinds lt = get_or-set_same states slot (joined_in (state_at states slot) kinds) None lt

pub met_leads : (states : States) (slot : ℕ) (kinds : List Kind) → slot < length states → Leads (meet_at states slot kinds) slot kinds
met_leads states slot kinds lt = go (state_at states slot) (met_here states slot kinds lt)
  where
    go : (o : Option (List Kind)) → state_at (meet_at states slot kinds) slot ≡ joined_in o kinds → Leads (meet_at states slot kinds) slot kinds
    go None e = leads_same (meet_at states slot kinds) slot kinds e
    go (Some state) e = record { state = joined state kinds; state_is = e; within = joined_right state kinds }

-- if joins keep a property, and each state and the state to join have it, each state after the join
-- has it
pub met_all : (P : ℕ → List Kind → Type 0) (states : States) (slot : ℕ) (kinds : List Kind) → ((k : ℕ) (a b : List Kind) → P k a → P k b → P k (joined a b))
    → ((k : ℕ) (ks : List Kind) → state_at states k ≡ Some ks → P k ks) → P slot kinds → (k : ℕ) (ks : List Kind)
    → state_at (meet_at states slot kinds) k ≡ Some ks → P k ks
met_all P states slot kinds j h p k ks e =
    elim (cases_eq k slot) [
      | inl same ↦ elim (cases_lt slot (length states)) [
        | inl lt ↦ subst (λ i. P i ks) (sym same) (go (state_at states slot) refl (sym (met_here states slot kinds lt) ∙ subst (λ i. state_at (meet_at states slot kinds) i ≡ Some ks) same e))
        | inr ge ↦ h k ks (ap (λ s. state_at s k) (sym (met_past states slot kinds ge)) ∙ e)
      ]
      | inr n ↦ h k ks (sym (met_other states slot k kinds n) ∙ e)
    ]
  where
    go : (o : Option (List Kind)) → state_at states slot ≡ o → joined_in o kinds ≡ Some ks → P slot ks
    go None f g = subst (P slot) (cc g) p
    go (Some old) f g = subst (P slot) (cc g) (j slot old kinds (h slot old f) p)

pub met_grows : (states : States) (slot : ℕ) (kinds : List Kind) → AreWithin states (meet_at states slot kinds)
met_grows states slot kinds = record {
  each = λ k old e.
      elim (cases_eq k slot) [
        | inl same ↦ elim (cases_lt slot (length states)) [
          | inl lt ↦ subst (λ i. Leads (meet_at states slot kinds) i old) (sym same)
              (record { state = joined old kinds; state_is = met_here states slot kinds lt ∙ ap (λ o. joined_in o kinds) (subst (λ i. state_at states i ≡ Some old) same e); within = joined_left old kinds })
          | inr ge ↦ leads_same (meet_at states slot kinds) k old (ap (λ s. state_at s k) (met_past states slot kinds ge) ∙ e)
        ]
        | inr n ↦ leads_same (meet_at states slot kinds) k old (met_other states slot k kinds n ∙ e)
      ];
}

pub leads_join : (wider : States) (k : ℕ) (a b : List Kind) → Leads wider k a → Leads wider k b → Leads wider k (joined a b)
leads_join wider k a b p q =
    let same : p.state ≡ q.state = cc (p.state_is, q.state_is) in
    record { state = q.state; state_is = q.state_is; within = joined_least a b q.state (subst (Within a) same p.within) q.within }

-- ---- branches

abbrev pub AllWays : (ℕ → List Kind → Type 0) → List Way → Type 0
AllWays P [] = Unit {0}
AllWays P (w ∷ ws) = P w.target w.kinds × AllWays P ws

pub all_lead : (states : States) (ws : List Way) → AllWays (Leads states) ws → AllLead states ws
all_lead states [] a = tt
all_lead states (w ∷ ws) a = (a.0, all_lead states ws a.1)

pub lead_all : (states : States) (ws : List Way) → AllLead states ws → AllWays (Leads states) ws
lead_all states [] a = tt
lead_all states (w ∷ ws) a = (a.0, lead_all states ws a.1)

pub all_then : (P Q : ℕ → List Kind → Type 0) (ws : List Way) → ((t : ℕ) (ks : List Kind) → P t ks → Q t ks) → AllWays P ws → AllWays Q ws
all_then P Q [] f a = tt
all_then P Q (w ∷ ws) f a = (f w.target w.kinds a.0, all_then P Q ws f a.1)

pub all_zip : (P Q R : ℕ → List Kind → Type 0) (ws : List Way) → ((t : ℕ) (ks : List Kind) → P t ks → Q t ks → R t ks) → AllWays P ws → AllWays Q ws
    → AllWays R ws
all_zip P Q R [] f a b = tt
all_zip P Q R (w ∷ ws) f a b = (f w.target w.kinds a.0 b.0, all_zip P Q R ws f a.1 b.1)

pub all_both : (P : ℕ → List Kind → Type 0) (ws vs : List Way) → AllWays P ws → AllWays P vs → AllWays P (ws ++ vs)
all_both P [] vs a b = b
all_both P (w ∷ ws) vs a b = (a.0, all_both P ws vs a.1 b)

pub all_parts : (P : ℕ → List Kind → Type 0) (ws vs : List Way) → AllWays P (ws ++ vs) → AllWays P ws × AllWays P vs
all_parts P [] vs a = (tt, a)
all_parts P (w ∷ ws) vs a = let r = all_parts P ws vs a.1 in ((a.0, r.0), r.1)

-- each branch along a flow has the property
abbrev pub WaysBy : (ℕ → List Kind → Type 0) → Flow → Insn → List Kind → List Kind → Type 0
WaysBy P Halts insn before after = Unit {0}
WaysBy P (Goes next) insn before after = P next after
WaysBy P (Forks taken next) insn before after =
    ((k : List Kind) → kinds_when true insn after ≡ Some k → P taken k) × ((k : List Kind) → kinds_when false insn after ≡ Some k → P next k)
WaysBy P (Enters start next) insn before after = P start (enter before) × P next after

pub all_where : (P : ℕ → List Kind → Type 0) (t : ℕ) (o : Option (List Kind)) → ((k : List Kind) → o ≡ Some k → P t k) → AllWays P (way_where t o)
all_where P t None h = tt
all_where P t (Some k) h = (h k refl, tt)

pub where_all : (P : ℕ → List Kind → Type 0) (t : ℕ) (o : Option (List Kind)) → AllWays P (way_where t o) → (k : List Kind) → o ≡ Some k → P t k
where_all P t None a k e = absurd (cc e)
where_all P t (Some x) a k e = subst (P t) (cc e) a.0

pub all_from : (P : ℕ → List Kind → Type 0) (f : Flow) (insn : Insn) (before after : List Kind) → WaysBy P f insn before after
    → AllWays P (ways_along f insn before after)
all_from P Halts insn before after h = tt
all_from P (Goes next) insn before after h = (h, tt)
all_from P (Forks taken next) insn before after h =
    all_both P (way_where taken (kinds_when true insn after)) (way_where next (kinds_when false insn after)) (all_where P taken (kinds_when true insn after) h.0) (all_where P next (kinds_when false insn after) h.1)
all_from P (Enters start next) insn before after h = (h.0, (h.1, tt))

pub all_to : (P : ℕ → List Kind → Type 0) (f : Flow) (insn : Insn) (before after : List Kind) → AllWays P (ways_along f insn before after)
    → WaysBy P f insn before after
all_to P Halts insn before after a = tt
all_to P (Goes next) insn before after a = a.0
all_to P (Forks taken next) insn before after a =
    let r = all_parts P (way_where taken (kinds_when true insn after)) (way_where next (kinds_when false insn after)) a in
    (where_all P taken (kinds_when true insn after) r.0, where_all P next (kinds_when false insn after) r.1)
all_to P (Enters start next) insn before after a = (a.0, a.1.0)

-- ---- the states on branches

abbrev pub one_led : ℕ → States → Way → States
one_led slot states w = if nat_lt slot w.target then meet_at states w.target w.kinds else states

pub led_length : (slot : ℕ) (states : States) (ws : List Way) → length (led slot states ws) ≡ length states
led_length slot states [] = refl
led_length slot states (w ∷ ws) = led_length slot (one_led slot states w) ws ∙ go (nat_lt slot w.target)
  where
    go : (b : Bool) → length (if b then meet_at states w.target w.kinds else states) ≡ length states
    go true = length-set states w.target _
    go false = refl

pub led_keeps : (slot k : ℕ) (states : States) (ws : List Way) → k ≤ slot → state_at (led slot states ws) k ≡ state_at states k
led_keeps slot k states [] le = refl
led_keeps slot k states (w ∷ ws) le = led_keeps slot k (one_led slot states w) ws le ∙ go (nat_lt slot w.target) refl
  where
    go : (b : Bool) → nat_lt slot w.target ≡ b → state_at (if b then meet_at states w.target w.kinds else states) k ≡ state_at states k
    go true e = let lt : slot < w.target = grind (arith, nat_tests, e) in met_other states w.target k w.kinds (λ same. absurd (omega (arith, same, lt, le)))
    go false e = refl

pub led_grows : (slot : ℕ) (states : States) (ws : List Way) → AreWithin states (led slot states ws)
led_grows slot states [] = are_within_same states
led_grows slot states (w ∷ ws) = are_within_then states (one_led slot states w) (led slot (one_led slot states w) ws) (go (nat_lt slot w.target)) (led_grows slot (one_led slot states w) ws)
  where
    go : (b : Bool) → AreWithin states (if b then meet_at states w.target w.kinds else states)
    go true = met_grows states w.target w.kinds
    go false = are_within_same states

pub led_brings : (slot : ℕ) (states : States) (ws : List Way) → AllWays (λ t ks. t < length states) ws
    → AllWays (λ t ks. slot < t → Leads (led slot states ws) t ks) ws
led_brings slot states [] h = tt
led_brings slot states (w ∷ ws) h =
    let next = one_led slot states w in (
      λ lt. leads_then next (led slot next ws) w.target w.kinds (go (nat_lt slot w.target) refl lt) (led_grows slot next ws),
      led_brings slot next ws (all_then (λ t ks. t < length states) (λ t ks. t < length next) ws (λ t ks l. subst (λ n. t < n) (sym (size (nat_lt slot w.target))) l) h.1),
    )
  where
    size : (b : Bool) → length (if b then meet_at states w.target w.kinds else states) ≡ length states
    size true = length-set states w.target _
    size false = refl

    go : (b : Bool) → nat_lt slot w.target ≡ b → slot < w.target → Leads (if b then meet_at states w.target w.kinds else states) w.target w.kinds
    go true e lt = met_leads states w.target w.kinds h.0
    go false e lt = absurd (grind (arith, nat_tests, e, lt))

pub led_all : (P : ℕ → List Kind → Type 0) (slot : ℕ) (states : States) (ws : List Way) → ((k : ℕ) (a b : List Kind) → P k a → P k b → P k (joined a b))
    → ((k : ℕ) (ks : List Kind) → state_at states k ≡ Some ks → P k ks) → AllWays (λ t ks. slot < t → P t ks) ws → (k : ℕ) (ks : List Kind)
    → state_at (led slot states ws) k ≡ Some ks → P k ks
led_all P slot states [] j h a k ks e = h k ks e
led_all P slot states (w ∷ ws) j h a k ks e = led_all P slot (one_led slot states w) ws j (go (nat_lt slot w.target) refl) a.1 k ks e
  where
    go : (b : Bool) → nat_lt slot w.target ≡ b → (k : ℕ) (ks : List Kind) → state_at (if b then meet_at states w.target w.kinds else states) k ≡ Some ks → P k ks
    go true e = met_all P states w.target w.kinds j h (a.0 (grind (arith, nat_tests, e)))
    go false e = h
