-- The sources of the jumps to a slot, and the consequences for a loop's body.
use Rattle.std.proofs.Common.{◌≡◌, ℤ, ℕ, zero, suc, ◌+◌, ◌<◌, ◌≤◌, ◌==◌, ◌||◌, ◌&&◌, not, nat_lt, Bool, true, false, if◌then◌else◌, Option, Some, None, List, [], ◌∷◌, length, get_or, get_or-set_same, get_or-set_other, length-set, replicate, inl, inr, refl, sym, ap, ◌∙◌, subst, arith}
use Rattle.std.specs.Prelude.{slice_get, slice_set}
use Rattle.std.proofs.lemmas.Bool.{cases_eq, cases_lt}
use Rattle.std.proofs.lemmas.Bool.Decides.{nat_tests}
use Rattle.fc_isa.specs.declared.insn.Insn.{Insn}
use Rattle.fc_isa.specs.Flow.{jump_offset, target}
use Rattle.fc_isa.specs.Writes.{writes}
use Rattle.fc_image.specs.declared.loops.Loop.{Loop}
use Rattle.fc_image.specs.declared.spans.Span.{Span}
use Rattle.fc_image.specs.Functions.{with_offset}
use Rattle.fc_image.specs.Loops.{crosses, disturbs, is_exit, is_in, some_slot, spoils}
use Rattle.fc_image.specs.Spans.{AreEnds, AreSpans, IsInSpan, IsJumpTo, is_jumped_into, jumps_to, place_by, widened, span_with}

-- ---- the table

leads_on : (code : List Insn) (count : ℕ) (place : ℕ) (o : Option Span) → AreEnds code count place o → AreEnds code (count + 1) place o
leads_on code count place None e = tt
leads_on code count place (Some s) e = (let lt = e.0 in omega (arith, lt), e.1, e.2)

pub spans_none : (code : List Insn) (spans : List (Option Span)) → length spans ≡ 1024 → ((place : ℕ) → get_or spans place None ≡ None) → AreSpans code 0 spans
spans_none code spans size none = record {
  size = size;
  all = λ slot place lt. absurd (omega (arith, lt));
  ends = λ place lt. subst (AreEnds code 0 place) (sym (none place)) tt;
}

pub default_in : (spans : List (Option Span)) (place : ℕ) (d e : Option Span) → place < length spans → get_or spans place d ≡ get_or spans place e
default_in [] place d e lt = absurd (omega (arith, lt))
default_in (x ∷ spans) zero d e lt = refl
default_in (x ∷ spans) (suc place) d e lt = default_in spans place d e (omega (arith, lt))

pub none_in : (n place : ℕ) → get_or {A = Option Span} (replicate n None) place None ≡ None
none_in zero place = refl
none_in (suc n) zero = refl
none_in (suc n) (suc place) = none_in n place

same_target : (code : List Insn) (slot place : ℕ) (insn : Insn) → slice_get code slot ≡ Some insn → IsJumpTo code slot place → jumps_to slot insn ≡ Some place
same_target code slot place insn stands t = let same : t.insn ≡ insn = cc (t.stands, stands) in subst (λ i. jumps_to slot i ≡ Some place) same t.leads

wider : (code : List Insn) (slot s place : ℕ) (o : Option Span) → AreEnds code slot place o → s < slot + 1 → (s < slot → IsInSpan s o) → IsInSpan s (Some (span_with o slot))
wider code slot s place None e lt h = elim (cases_lt s slot) [
  | inl before ↦ absurd (h before)
  | inr ge ↦ (omega (arith, lt, ge), omega (arith, lt))
]
wider code slot s place (Some w) e lt h = elim (cases_lt s slot) [
  | inl before ↦ let r = h before in (r.0, omega (arith, before))
  | inr ge ↦ let least = e.0 in (omega (arith, lt, ge, least), omega (arith, lt))
]

wider_ends : (code : List Insn) (slot place : ℕ) (o : Option Span) → AreEnds code slot place o → IsJumpTo code slot place → AreEnds code (slot + 1) place (Some (span_with o slot))
wider_ends code slot place None e t = (omega arith, t, t)
wider_ends code slot place (Some w) e t = (let least = e.0 in omega (arith, least), e.1, t)

-- widening the spans by the jump at a slot gives the spans of one more slot
pub spans_more : (code : List Insn) (slot : ℕ) (insn : Insn) (spans : List (Option Span)) → slice_get code slot ≡ Some insn → AreSpans code slot spans → AreSpans code (slot + 1) (widened spans slot (jumps_to slot insn))
spans_more code slot insn spans stands a = go (jumps_to slot insn) refl
  where
    still : ((place : ℕ) → place < 1024 → IsJumpTo code slot place → ⊥) → AreSpans code (slot + 1) spans
    still none = record {
      size = a.size;
      all = λ s place lt few t. elim (cases_lt s slot) [
        | inl before ↦ a.all s place before few t
        | inr ge ↦ let same : s ≡ slot = omega (arith, lt, ge) in absurd (none place few (subst (λ n. IsJumpTo code n place) same t))
      ];
      ends = λ place few. leads_on code slot place (get_or spans place None) (a.ends place few);
    }

    put : (place : ℕ) → place < 1024 → jumps_to slot insn ≡ Some place → AreSpans code (slot + 1) (slice_set spans place (Some (span_with (get_or spans place None) slot)))
    put place few leads =
        let size = a.size in
        let within : place < length spans = omega (arith, few, size) in
        let value = Some (span_with (get_or spans place None) slot) in
        let t : IsJumpTo code slot place = record { insn = insn; stands = stands; leads = leads } in
        let here : get_or (slice_set spans place value) place None ≡ value = get_or-set_same spans place value None within in
        record {
          size = length-set spans place value ∙ size;
          all = λ s p lt low to. elim (cases_eq p place) [
            | inl same ↦
                subst (λ n. IsInSpan s (get_or (slice_set spans place value) n None)) (sym same)
                (subst (IsInSpan s) (sym here) (wider code slot s place (get_or spans place None) (a.ends place few) lt (λ before. a.all s place before few (subst (IsJumpTo code s) same to))))
            | inr other ↦
                subst (IsInSpan s) (sym (get_or-set_other spans place p value None other)) (elim (cases_lt s slot) [
                  | inl before ↦ a.all s p before low to
                  | inr ge ↦
                      let is : s ≡ slot = omega (arith, lt, ge) in
                      let leads_too = same_target code slot p insn stands (subst (λ n. IsJumpTo code n p) is to) in
                      let same : p ≡ place = cc (leads_too, leads) in
                      absurd (other same)
                ])
          ];
          ends = λ p low. elim (cases_eq p place) [
            | inl same ↦
                subst (λ n. AreEnds code (slot + 1) n (get_or (slice_set spans place value) n None)) (sym same)
                (subst (AreEnds code (slot + 1) place) (sym here) (wider_ends code slot place (get_or spans place None) (a.ends place few) t))
            | inr other ↦
                subst (AreEnds code (slot + 1) p) (sym (get_or-set_other spans place p value None other))
                (leads_on code slot p (get_or spans p None) (a.ends p low))
          ];
        }

    go : (o : Option ℕ) → jumps_to slot insn ≡ o → AreSpans code (slot + 1) (widened spans slot o)
    go None e = still (λ place few t. absurd (cc (e, same_target code slot place insn stands t)))
    go (Some place) e = elim (cases_lt place 1024) [
      | inl few ↦
          let test : nat_lt place 1024 ≡ true = grind (arith, nat_tests, few) in
          subst (λ b. AreSpans code (slot + 1) (if b then slice_set spans place (Some (span_with (get_or spans place None) slot)) else spans)) (sym test) (put place few e)
      | inr many ↦
          let test : nat_lt place 1024 ≡ false = grind (arith, nat_tests, many) in
          subst (λ b. AreSpans code (slot + 1) (if b then slice_set spans place (Some (span_with (get_or spans place None) slot)) else spans)) (sym test)
          (still (λ p few t. let same : p ≡ place = cc (same_target code slot p insn stands t, e) in absurd (omega (arith, few, many, same))))
    ]

-- ---- disturbances of a loop

either : (b c : Bool) → c ≡ true → (b || c) ≡ true
either true c e = refl
either false c e = e

some_at : (test : ℕ → Insn → Bool) (from k : ℕ) (code : List Insn) (insn : Insn) → slice_get code k ≡ Some insn → test (from + k) insn ≡ true → some_slot test from code ≡ true
some_at test from k [] insn e t = absurd (cc e)
some_at test from zero (x ∷ code) insn e t =
    let same : x ≡ insn = cc e in
    let z : from + 0 ≡ from = omega arith in
    ap (λ b. b || some_slot test (suc from) code) (subst (λ y. test from y ≡ true) (sym same) (subst (λ n. test n insn ≡ true) z t))
some_at test from (suc k) (x ∷ code) insn e t =
    let m : from + suc k ≡ suc from + k = omega arith in
    either (test from x) (some_slot test (suc from) code) (some_at test (suc from) k code insn e (subst (λ n. test n insn ≡ true) m t))

none_at : (test : ℕ → Insn → Bool) (from : ℕ) (code : List Insn) → ((k : ℕ) (insn : Insn) → slice_get code k ≡ Some insn → test (from + k) insn ≡ false) → some_slot test from code ≡ false
none_at test from [] h = refl
none_at test from (x ∷ code) h =
    let z : from + 0 ≡ from = omega arith in
    let first : test from x ≡ false = subst (λ n. test n x ≡ false) z (h 0 x refl) in
    ap (λ b. b || some_slot test (suc from) code) first
    ∙ none_at test (suc from) code (λ k insn e. let m : from + suc k ≡ suc from + k = omega arith in subst (λ n. test n insn ≡ false) m (h (suc k) insn e))

-- a jump that crosses a loop's body disturbs the loop
crossing : (l : Loop) (slot place : ℕ) (insn : Insn) → jumps_to slot insn ≡ Some place → crosses l slot (Some place) ≡ true → disturbs l slot insn ≡ true
crossing l slot place insn e c = either (spoils l slot insn) (with_offset (jump_offset insn) (λ o. crosses l slot (target slot o))) (go (jump_offset insn) e)
  where
    go : (o : Option ℤ) → place_by slot o ≡ Some place → with_offset o (λ o. crosses l slot (target slot o)) ≡ true
    go None e = absurd (cc e)
    go (Some o) e = ap (crosses l slot) e ∙ c

some_here : (code : List Insn) (l : Loop) (slot : ℕ) (insn : Insn) → slice_get code slot ≡ Some insn → disturbs l slot insn ≡ true → some_slot (disturbs l) 0 code ≡ true
some_here code l slot insn stands d = let z : slot ≡ 0 + slot = omega arith in some_at (disturbs l) 0 slot code insn stands (subst (λ n. disturbs l n insn ≡ true) z d)

by_jump : (code : List Insn) (l : Loop) (slot place : ℕ) → IsJumpTo code slot place → crosses l slot (Some place) ≡ true → some_slot (disturbs l) 0 code ≡ true
by_jump code l slot place t c = some_here code l slot t.insn t.stands (crossing l slot place t.insn t.leads c)

-- if the check finds a disturbance at a slot of the body, an instruction of the program disturbs
-- the loop
pub found : (code : List Insn) (spans : List (Option Span)) (l : Loop) (slot : ℕ) (insn : Insn) → AreSpans code (length code) spans → slot < 1024 → l.head ≤ slot → slot ≤ l.last → slice_get code slot ≡ Some insn
    → (disturbs l slot insn || is_jumped_into l slot (get_or spans slot None)) ≡ true → some_slot (disturbs l) 0 code ≡ true
found code spans l slot insn a few from to stands e = go (disturbs l slot insn) refl e
  where
    enters : (o : Option Span) → AreEnds code (length code) slot o → is_jumped_into l slot o ≡ true → some_slot (disturbs l) 0 code ≡ true
    enters None h e = absurd (cc e)
    enters (Some s) h e = elim (cases_eq slot l.last) [
      | inl last ↦ by_jump code l s.least slot h.1 (either (if is_in l s.least then not (is_in l slot) else is_in l slot) (slot == l.last) (grind (arith, nat_tests, last)))
      | inr other ↦ elim (cases_lt s.least l.head) [
        | inl before ↦ by_jump code l s.least slot h.1 (grind (arith, nat_tests, before, from, to))
        | inr ge ↦
            let after : l.last < s.greatest = grind (arith, nat_tests, e, other, ge) in
            by_jump code l s.greatest slot h.2 (grind (arith, nat_tests, after, from, to))
      ]
    ]

    go : (b : Bool) → disturbs l slot insn ≡ b → (b || is_jumped_into l slot (get_or spans slot None)) ≡ true → some_slot (disturbs l) 0 code ≡ true
    go true d e = some_here code l slot insn stands d
    go false d e = enters (get_or spans slot None) (a.ends slot few) e

-- if no disturbance is found at a slot of the body, no instruction disturbs the loop
pub none_found : (code : List Insn) (spans : List (Option Span)) (l : Loop) → AreSpans code (length code) spans → length code ≤ 1024 → l.head < l.last → l.last < length code
    → ((slot : ℕ) (insn : Insn) → l.head ≤ slot → slot ≤ l.last → slice_get code slot ≡ Some insn → (disturbs l slot insn || is_jumped_into l slot (get_or spans slot None)) ≡ false)
    → some_slot (disturbs l) 0 code ≡ false
none_found code spans l a few order last quiet = none_at (disturbs l) 0 code each
  where
    first : (b c : Bool) → (b || c) ≡ false → b ≡ false
    first true c e = absurd (cc e)
    first false c e = refl

    second : (b c : Bool) → (b || c) ≡ false → c ≡ false
    second true c e = absurd (cc e)
    second false c e = e

    stands_at : (code : List Insn) (slot : ℕ) → slot < length code → (insn : Insn) × (slice_get code slot ≡ Some insn)
    stands_at [] slot lt = absurd (omega (arith, lt))
    stands_at (x ∷ code) zero lt = (x, refl)
    stands_at (x ∷ code) (suc slot) lt = stands_at code slot (omega (arith, lt))

    before_end : (code : List Insn) (k : ℕ) (insn : Insn) → slice_get code k ≡ Some insn → k < length code
    before_end [] k insn e = absurd (cc e)
    before_end (x ∷ code) zero insn e = omega arith
    before_end (x ∷ code) (suc k) insn e = let h = before_end code k insn e in omega (arith, h)

    -- if the check finds no jump from outside to a slot of the body, each jump to the slot is in
    -- the body
    kept : (k place : ℕ) (o : Option Span) → IsInSpan k o → is_jumped_into l place o ≡ false → (l.head ≤ k) × (k ≤ l.last)
    kept k place None w e = absurd w
    kept k place (Some s) w e =
        let low = w.0 in
        let high = w.1 in
        (grind (arith, nat_tests, e, low), grind (arith, nat_tests, e, high))

    apart : (k place : ℕ) (insn : Insn) → is_in l k ≡ false → k < length code → slice_get code k ≡ Some insn → jumps_to k insn ≡ Some place → is_in l place ≡ false
    apart k place insn out lt stands leads = go (is_in l place) refl
      where
        go : (b : Bool) → is_in l place ≡ b → is_in l place ≡ false
        go false e = e
        go true e =
            let from : l.head ≤ place = grind (arith, nat_tests, e) in
            let to : place ≤ l.last = grind (arith, nat_tests, e) in
            let at = stands_at code place (omega (arith, to, last)) in
            let none = second (disturbs l place at.0) (is_jumped_into l place (get_or spans place None)) (quiet place at.0 from to at.1) in
            let within = kept k place (get_or spans place None) (a.all k place lt (omega (arith, to, last, few)) (record { insn = insn; stands = stands; leads = leads })) none in
            let low = within.0 in
            let high = within.1 in
            absurd (grind (arith, nat_tests, out, low, high))

    passes : (k : ℕ) (o : Option ℕ) → is_in l k ≡ false → ((place : ℕ) → o ≡ Some place → is_in l place ≡ false) → crosses l k o ≡ false
    passes k None out h = refl
    passes k (Some place) out h =
        let other = h place refl in
        let apart : (place == l.last) ≡ false = grind (arith, nat_tests, other, order) in
        ap (λ b. (if b then not (is_in l place) else is_in l place) || (place == l.last)) out ∙ ap (λ b. b || (place == l.last)) other ∙ apart

    by_offset : (k : ℕ) (o : Option ℤ) → is_in l k ≡ false → ((place : ℕ) → place_by k o ≡ Some place → is_in l place ≡ false) → with_offset o (λ o. crosses l k (target k o)) ≡ false
    by_offset k None out h = refl
    by_offset k (Some o) out h = passes k (target k o) out h

    each : (k : ℕ) (insn : Insn) → slice_get code k ≡ Some insn → disturbs l (0 + k) insn ≡ false
    each k insn e = let z : k ≡ 0 + k = omega arith in subst (λ n. disturbs l n insn ≡ false) z (go (is_in l k) refl)
      where
        go : (b : Bool) → is_in l k ≡ b → disturbs l k insn ≡ false
        go true i = first (disturbs l k insn) (is_jumped_into l k (get_or spans k None)) (quiet k insn (grind (arith, nat_tests, i)) (grind (arith, nat_tests, i)) e)
        go false i =
            let lt = before_end code k insn e in
            ap (λ b. (b && ((writes insn l.counter && not (suc k == l.last)) || is_exit insn)) || with_offset (jump_offset insn) (λ o. crosses l k (target k o))) i
            ∙ by_offset k (jump_offset insn) i (λ place leads. apart k place insn i lt e leads)
