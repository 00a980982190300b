-- Each result for a block has its cause, and each cause belongs to one refusal alone.
use Rattle.std.proofs.Common.{◌≡◌, ◌≢◌, inl, inr, ℕ, ◌+◌, ◌*◌, List, [], ◌++◌, length, Bool, true, false, Option, Some, None, refl, sym, ◌∙◌, subst, arith, length-append}
use Rattle.std.specs.Prelude.{◌↔◌, nat_lt, ◌==◌}
use Rattle.std.proofs.lemmas.Bool.{eqb-true, eqb-false, ltb-true, ltb-false}
use Rattle.coap_opts.specs.Values.{Place, block_size}
use Rattle.coap_block.specs.Uploads.{Add, IsIncomplete, IsBadLength, IsTooLarge, IsFull, block_added, has_length}
use Rattle.coap_block.specs.Transfers.{Addition, transfers}
use Rattle.coap_block.specs.UnderWay.{BeginsBehind, FitsBehind, HasLength, RisesTo, bytes_held, others_at}
use Rattle.coap_block.specs.Causes.{FindsNoRoom, HasLargeSum, HasWrongLength, IsOutOfPlace}
use Rattle.coap_block.proofs.Bodies.{long_from, long_to, some_inner}
use Rattle.coap_block.proofs.Refusals.{out_of_place, too_large, too_many, wrong_length}
use Rattle.coap_block.proofs.UnderWay.{added_continues, added_whole, held_from, held_to}

-- the result for a block has its cause; `Continues` and `IsWhole` need none
abbrev HasCause : List Addition → Addition → Place → Add → Type 0
HasCause h a b IsFull = FindsNoRoom h a b
HasCause h a b IsIncomplete = IsOutOfPlace h a b
HasCause h a b IsBadLength = HasWrongLength h a b
HasCause h a b IsTooLarge = HasLargeSum h a b
HasCause h a b other = Unit {0}

-- the result for a block
abbrev added : List Addition → Addition → Place → Add
added h a b = block_added (transfers h) a.at a.endpoint a.slot b a.payload

no_room : (h : List Addition) (a : Addition) (b : Place) → FindsNoRoom h a b → added h a b ≡ IsFull
no_room h a b w = too_many h a b w.first w.others

apart : (h : List Addition) (a : Addition) (b : Place) → RisesTo a.at h → IsOutOfPlace h a b → added h a b ≡ IsIncomplete
apart h a b r w = out_of_place h a b r w.later w.nowhere

bad_length : (h : List Addition) (a : Addition) (b : Place) → RisesTo a.at h → HasWrongLength h a b → added h a b ≡ IsBadLength
bad_length h a b r w = wrong_length h a b w.before r w.begins w.wrong

large : (h : List Addition) (a : Addition) (b : Place) → RisesTo a.at h → HasLargeSum h a b → added h a b ≡ IsTooLarge
large h a b r w = too_large h a b w.before r w.begins w.long w.large

-- ---- a block that begins at the end of the payloads before it

fits_cause : (h : List Addition) (a : Addition) (b : Place) (body : List ℕ) → RisesTo a.at h → FitsBehind h a b body → (more : Bool) → b.more ≡ more → HasCause h a b (added h a b)
fits_cause h a b body r fits true is = subst (HasCause h a b) (sym ((added_continues h a b r).1 (is, (body, fits)))) tt
fits_cause h a b body r fits false is = subst (HasCause h a b) (sym ((added_whole h a b body r).1 (is, fits))) tt

sum_cause : (h : List Addition) (a : Addition) (b : Place) (before : List ℕ) → RisesTo a.at h → BeginsBehind h a b before → HasLength b.more (block_size b.szx) (length a.payload) → (over : Bool) → nat_lt 8208 (length before + length a.payload) ≡ over → HasCause h a b (added h a b)
sum_cause h a b before r begins long true is =
    let w : HasLargeSum h a b = record { before = before; begins = begins; long = long; large = ltb-true 8208 (length before + length a.payload) is } in
    subst (HasCause h a b) (sym (large h a b r w)) w
sum_cause h a b before r begins long false is =
    let le = ltb-false 8208 (length before + length a.payload) is in
    let fits : FitsBehind h a b (before ++ a.payload) = record { before = before; begins = begins; long = long; joined = refl; within = omega (arith, le, length-append before a.payload) } in
    fits_cause h a b (before ++ a.payload) r fits b.more refl

length_cause : (h : List Addition) (a : Addition) (b : Place) (before : List ℕ) → RisesTo a.at h → BeginsBehind h a b before → (long : Bool) → has_length b.more (block_size b.szx) (length a.payload) ≡ long → HasCause h a b (added h a b)
length_cause h a b before r begins true is = sum_cause h a b before r begins (long_from b.more (block_size b.szx) (length a.payload) is) (nat_lt 8208 (length before + length a.payload)) refl
length_cause h a b before r begins false is =
    let w : HasWrongLength h a b = record { before = before; begins = begins; wrong = λ long. let same : true ≡ false = sym (long_to b.more (block_size b.szx) (length a.payload) long) ∙ is in absurd (cc same) } in
    subst (HasCause h a b) (sym (bad_length h a b r w)) w

begun_cause : (h : List Addition) (a : Addition) (b : Place) (before : List ℕ) → RisesTo a.at h → BeginsBehind h a b before → HasCause h a b (added h a b)
begun_cause h a b before r begins = length_cause h a b before r begins (has_length b.more (block_size b.szx) (length a.payload)) refl

-- ---- the place at which a block begins

apart_cause : (h : List Addition) (a : Addition) (b : Place) → RisesTo a.at h → IsOutOfPlace h a b → HasCause h a b (added h a b)
apart_cause h a b r w = subst (HasCause h a b) (sym (apart h a b r w)) w

-- if a block other than number 0 begins at the end of some payloads, these are the stored bytes
held_or_none : (h : List Addition) (a : Addition) (b : Place) (held : Option (List ℕ)) → RisesTo a.at h → bytes_held a.at a.endpoint a.slot (transfers h) ≡ held → b.number ≢ 0 → (before : List ℕ) → BeginsBehind h a b before → held ≡ Some before
held_or_none h a b held r is later before (inl w) = absurd (later w.0)
held_or_none h a b held r is later before (inr w) = sym is ∙ held_to h a.at a.endpoint a.slot before r w.1

ends_there : (h : List Addition) (a : Addition) (b : Place) (before : List ℕ) → b.number ≢ 0 → BeginsBehind h a b before → b.number * block_size b.szx ≡ length before
ends_there h a b before later (inl w) = absurd (later w.0)
ends_there h a b before later (inr w) = w.2

place_cause : (h : List Addition) (a : Addition) (b : Place) (held : List ℕ) → RisesTo a.at h → bytes_held a.at a.endpoint a.slot (transfers h) ≡ Some held → b.number ≢ 0 → (starts : Bool) → (b.number * block_size b.szx == length held) ≡ starts → HasCause h a b (added h a b)
place_cause h a b held r is later true e = begun_cause h a b held r (inr (later, held_from h a.at a.endpoint a.slot held r is, eqb-true (b.number * block_size b.szx) (length held) e))
place_cause h a b held r is later false e = apart_cause h a b r (record {
  later = later;
  nowhere = λ before begins.
      let same = some_inner held before (held_or_none h a b (Some held) r is later before begins) in
      eqb-false (b.number * block_size b.szx) (length held) e (subst (λ (l : List ℕ). b.number * block_size b.szx ≡ length l) (sym same) (ends_there h a b before later begins));
})

later_cause : (h : List Addition) (a : Addition) (b : Place) → RisesTo a.at h → b.number ≢ 0 → (held : Option (List ℕ)) → bytes_held a.at a.endpoint a.slot (transfers h) ≡ held → HasCause h a b (added h a b)
later_cause h a b r later (Some held) is = place_cause h a b held r is later (b.number * block_size b.szx == length held) refl
later_cause h a b r later None is = apart_cause h a b r (record { later = later; nowhere = λ before begins. let none = held_or_none h a b None r is later before begins in cc none })

first_cause : (h : List Addition) (a : Addition) (b : Place) → RisesTo a.at h → b.number ≡ 0 → (room : Bool) → nat_lt (others_at a h) 16 ≡ room → HasCause h a b (added h a b)
first_cause h a b r first true is = begun_cause h a b [] r (inl (first, ltb-true (others_at a h) 16 is, refl))
first_cause h a b r first false is =
    let w : FindsNoRoom h a b = record { first = first; others = ltb-false (others_at a h) 16 is } in
    subst (HasCause h a b) (sym (no_room h a b w)) w

number_cause : (h : List Addition) (a : Addition) (b : Place) → RisesTo a.at h → (first : Bool) → (b.number == 0) ≡ first → HasCause h a b (added h a b)
number_cause h a b r true is = first_cause h a b r (eqb-true b.number 0 is) (nat_lt (others_at a h) 16) refl
number_cause h a b r false is = later_cause h a b r (eqb-false b.number 0 is) (bytes_held a.at a.endpoint a.slot (transfers h)) refl

cause : (h : List Addition) (a : Addition) (b : Place) → RisesTo a.at h → HasCause h a b (added h a b)
cause h a b r = number_cause h a b r (b.number == 0) refl

-- ---- each refusal occurs exactly if its cause holds

pub full_by : (h : List Addition) (a : Addition) (b : Place) → RisesTo a.at h → (added h a b ≡ IsFull) ↔ FindsNoRoom h a b
full_by h a b r = (λ e. subst (HasCause h a b) e (cause h a b r), no_room h a b)

pub incomplete_by : (h : List Addition) (a : Addition) (b : Place) → RisesTo a.at h → (added h a b ≡ IsIncomplete) ↔ IsOutOfPlace h a b
incomplete_by h a b r = (λ e. subst (HasCause h a b) e (cause h a b r), apart h a b r)

pub length_by : (h : List Addition) (a : Addition) (b : Place) → RisesTo a.at h → (added h a b ≡ IsBadLength) ↔ HasWrongLength h a b
length_by h a b r = (λ e. subst (HasCause h a b) e (cause h a b r), bad_length h a b r)

pub sum_by : (h : List Addition) (a : Addition) (b : Place) → RisesTo a.at h → (added h a b ≡ IsTooLarge) ↔ HasLargeSum h a b
sum_by h a b r = (λ e. subst (HasCause h a b) e (cause h a b r), large h a b r)
