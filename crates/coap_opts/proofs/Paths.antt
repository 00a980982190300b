-- Resources and their paths determine each other.
use Rattle.std.proofs.Common.{◌≡◌, ℕ, ◌+◌, ◌-◌, ◌*◌, ◌/◌, ◌%◌, ◌<◌, ◌≤◌, ◌&&◌, Bool, true, false, nat_lt, nat_le, if◌then◌else◌, List, [], ◌∷◌, ◌++◌, Some, None, codes, refl, sym, ◌∙◌, ap, subst, arith, inl, inr}
use Rattle.std.specs.Str.{bytes_eq}
use Rattle.std.specs.Fmt.{decimal}
use Rattle.std.proofs.lemmas.Bool.{ltb-true, leb-true, lt-ltb, le-leb, and_from, and_parts, cases_lt}
use Rattle.std.proofs.lemmas.Fmt.{decimal_digit, decimal_step}
use Rattle.std.proofs.lemmas.Slice.Eq.{bytes_eq-Decides}
use Rattle.coap_msg.specs.Reading.{◌>>=◌}
use Rattle.coap_opts.specs.declared.request.Resource.{Resource}
use Rattle.coap_opts.specs.declared.request.Resource.TheVariants.{Run, Program, Core}
use Rattle.coap_opts.specs.Path.{digit, slot_named, resource_of}
use Rattle.coap_opts.specs.Fields.{IsResource, path_of}
use Rattle.coap_msg.proofs.Steps.{came, passed, passes}

-- ---- the slot

digit-of : (n : ℕ) → n < 10 → digit (48 + n) ≡ Some n
digit-of n h =
    let same : 48 + n - 48 ≡ n = omega arith in
    passes (nat_le 48 (48 + n) && nat_lt (48 + n) 58) (48 + n - 48) (and_from _ _ (le-leb 48 (48 + n) (omega arith)) (lt-ltb (48 + n) 58 (omega arith))) ∙
    ap Some same

record IsDigit (b n : ℕ) : Type 0 where
  byte_is : b ≡ 48 + n
  below : n < 10

digit_from : (b n : ℕ) → digit b ≡ Some n → IsDigit b n
digit_from b n e =
    let p = passed (nat_le 48 b && nat_lt b 58) (b - 48) n e in
    let t = and_parts _ _ p.test in
    let low : 48 ≤ b = leb-true _ _ t.0 in
    let high : b < 58 = ltb-true _ _ t.1 in
    record { byte_is = omega (arith, p.same); below = omega (arith, p.same) }

decimal_two : (n : ℕ) → 10 ≤ n → n < 100 → decimal n ≡ (48 + n / 10) ∷ (48 + n % 10) ∷ []
decimal_two n low high = decimal_step n low (omega arith) ∙ ap (λ xs. xs ++ ((48 + n % 10) ∷ [])) (decimal_digit (n / 10) (omega arith))

slot_named-two : (n : ℕ) → 10 ≤ n → n < 64 → slot_named (decimal n) ≡ Some n
slot_named-two n low high =
    let tens = n / 10 in
    let ones = n % 10 in
    let whole : 10 * tens + ones ≡ n = omega arith in
    rw (decimal_two n low (omega arith), digit-of tens (omega arith), digit-of ones (omega arith)) (
    passes (nat_lt 0 tens && nat_lt (10 * tens + ones) 64) (10 * tens + ones) (and_from _ _ (lt-ltb 0 tens (omega arith)) (lt-ltb (10 * tens + ones) 64 (omega arith))) ∙
    ap Some whole
    )

slot_named-decimal : (n : ℕ) → n < 64 → slot_named (decimal n) ≡ Some n
slot_named-decimal n h = elim (cases_lt n 10) [ inl low ↦ rw (decimal_digit n low) (digit-of n low) | inr high ↦ slot_named-two n high h ]

record IsSlot (bytes : List ℕ) (n : ℕ) : Type 0 where
  bytes_are : bytes ≡ decimal n
  below : n < 64

two_from : (b c tens ones n : ℕ) → b ≡ 48 + tens → c ≡ 48 + ones → ones < 10 → 0 < tens → 10 * tens + ones < 64 → 10 * tens + ones ≡ n → IsSlot (b ∷ c ∷ []) n
two_from b c tens ones n first second small low high whole =
    let upper : 48 + tens ≡ 48 + n / 10 = omega arith in
    let lower : 48 + ones ≡ 48 + n % 10 = omega arith in
    record {
      bytes_are = ap (λ x. x ∷ c ∷ []) (first ∙ upper) ∙ (ap (λ x. (48 + n / 10) ∷ x ∷ []) (second ∙ lower) ∙ sym (decimal_two n (omega arith) (omega arith)));
      below = omega arith;
    }

slot_from : (bytes : List ℕ) (n : ℕ) → slot_named bytes ≡ Some n → IsSlot bytes n
slot_from [] n e = absurd (cc e)
slot_from (b ∷ []) n e =
    let d = digit_from b n e in
    record { bytes_are = ap (λ x. x ∷ []) d.byte_is ∙ sym (decimal_digit n d.below); below = omega (arith, d.below) }
slot_from (b ∷ c ∷ []) n e =
    let first = came (digit b) _ n e in
    let second = came (digit c) _ n first.second in
    let tens = first.value in
    let ones = second.value in
    let x = digit_from b tens first.first in
    let y = digit_from c ones second.first in
    let p = passed (nat_lt 0 tens && nat_lt (10 * tens + ones) 64) (10 * tens + ones) n second.second in
    let t = and_parts _ _ p.test in
    two_from b c tens ones n x.byte_is y.byte_is y.below (ltb-true _ _ t.0) (ltb-true _ _ t.1) p.same
slot_from (b ∷ c ∷ d ∷ bs) n e = absurd (cc e)

-- ---- the path

pub path_named : (r : Resource) → IsResource r → resource_of (path_of r) ≡ Some r
path_named (Run n) h = rw (slot_named-decimal n h) refl
path_named (Program n) h = rw (slot_named-decimal n h) refl
path_named Core h = refl

abbrev IsNamed : List ℕ → List ℕ → Resource → Type 0
IsNamed first second r = (first ∷ second ∷ [] ≡ path_of r) × IsResource r

same_bytes : (xs ys : List ℕ) → bytes_eq xs ys ≡ true → xs ≡ ys
same_bytes xs ys e = (bytes_eq-Decides xs ys).0 e

named_by : (first second : List ℕ) (r : Resource) (run program core : Bool) → bytes_eq first (codes "r") ≡ run → bytes_eq first (codes "p") ≡ program →
    (bytes_eq first (codes ".well-known") && bytes_eq second (codes "core")) ≡ core →
    (if run then (slot_named second >>= λ n. Some (Run n)) else (if program then (slot_named second >>= λ n. Some (Program n)) else (if core then Some Core else None))) ≡ Some r →
    IsNamed first second r
named_by first second r true program core a b c e =
    let s = came (slot_named second) _ r e in
    let t = slot_from second s.value s.first in
    let same : Run s.value ≡ r = cc s.second in
    subst (λ x. IsNamed first second x) same (ap (λ x. x ∷ second ∷ []) (same_bytes first (codes "r") a) ∙ ap (λ x. codes "r" ∷ x ∷ []) t.bytes_are, t.below)
named_by first second r false true core a b c e =
    let s = came (slot_named second) _ r e in
    let t = slot_from second s.value s.first in
    let same : Program s.value ≡ r = cc s.second in
    subst (λ x. IsNamed first second x) same (ap (λ x. x ∷ second ∷ []) (same_bytes first (codes "p") b) ∙ ap (λ x. codes "p" ∷ x ∷ []) t.bytes_are, t.below)
named_by first second r false false true a b c e =
    let same : Core ≡ r = cc e in
    let t = and_parts _ _ c in
    subst (λ x. IsNamed first second x) same (ap (λ x. x ∷ second ∷ []) (same_bytes first (codes ".well-known") t.0) ∙ ap (λ x. codes ".well-known" ∷ x ∷ []) (same_bytes second (codes "core") t.1), tt)
named_by first second r false false false a b c e = absurd (cc e)

pub path_only : (segments : List (List ℕ)) (r : Resource) → resource_of segments ≡ Some r → (segments ≡ path_of r) × IsResource r
path_only [] r e = absurd (cc e)
path_only (first ∷ []) r e = absurd (cc e)
path_only (first ∷ second ∷ []) r e = named_by first second r _ _ _ refl refl refl e
path_only (first ∷ second ∷ third ∷ more) r e = absurd (cc e)
