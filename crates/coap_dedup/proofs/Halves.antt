-- A binary search in increasing keys.
use Rattle.std.proofs.Common.{◌≡◌, ℕ, zero, suc, ◌+◌, ◌-◌, ◌/◌, ◌<◌, ◌≤◌, List, length, map, T, Some, ap, ◌∙◌, ⊎_elim, arith}
use Rattle.std.specs.Prelude.{slice_get}
use Rattle.std.specs.declared.cmp.Ordering.TheVariants.{Less, Greater}
use Rattle.std.specs.Ordering.{ordering_reverse}
use Rattle.std.specs.FinMap.Entries as entry_list
use Rattle.std.proofs.lemmas.Bool.{cases_eq, cases_lt}
use Rattle.std.proofs.lemmas.Option.{slice_get_within}
use Rattle.coap_dedup.specs.declared.key.Key.{Key}
use Rattle.coap_dedup.specs.Keys.{key_cmp}
use Rattle.coap_dedup.specs.Requests.{AreAbove, AreBelow, LiesBetween, left_after}
use Rattle.coap_dedup.proofs.Index.{Entry, rises}
use Rattle.coap_dedup.proofs.Keys.{key_total}

-- after one comparison and `comparisons` more, the insertion point of the key is from `low` to
-- `high`. The number of keys between these places is at most that of `left_after`
pub record IsBetween (ks : List Key) (k : Key) (low high comparisons : ℕ) : Type 0 where
  pub below : AreBelow ks k low
  pub above : AreAbove ks k high
  pub order : low ≤ high
  pub within : high ≤ length ks
  pub left : high - low ≤ left_after 65535 comparisons
  pub few : comparisons ≤ 16
  pub left_of_few : length ks ≤ 1024 → high - low ≤ left_after 1023 comparisons
  pub fewer_of_few : length ks ≤ 1024 → comparisons ≤ 10

pub start : (ks : List Key) (k : Key) (low high : ℕ) → LiesBetween ks k low high → IsBetween ks k low high 0
start ks k low high is = let fewer = is.fewer in let few = is.few in record {
  below = is.below;
  above = is.above;
  order = is.order;
  within = is.within;
  left = omega (arith, few, fewer);
  few = omega arith;
  left_of_few = λ le. omega (arith, le, fewer);
  fewer_of_few = λ le. omega arith;
}

at_most : (most n : ℕ) → left_after most n ≤ most
at_most most zero = omega arith
at_most most (suc n) = let le = at_most most n in omega (arith, le)

none_left : (n : ℕ) → left_after 65535 (suc (suc (suc (suc (suc (suc (suc (suc (suc (suc (suc (suc (suc (suc (suc (suc n)))))))))))))))) ≡ 0
none_left n = let le = at_most 65535 n in omega (arith, le)

none_left_of_few : (n : ℕ) → left_after 1023 (suc (suc (suc (suc (suc (suc (suc (suc (suc (suc n)))))))))) ≡ 0
none_left_of_few n = let le = at_most 1023 n in omega (arith, le)

-- while a key is left to compare, fewer than 16 more keys were compared
pub fewer : (ks : List Key) (k : Key) (low high comparisons : ℕ) → IsBetween ks k low high comparisons → low < high → comparisons < 16
fewer ks k low high comparisons b lt =
    let left = b.left in
    ⊎_elim
    (λ (few : comparisons < 16). few)
    (λ (many : 16 ≤ comparisons).
    let all : comparisons ≡ suc (suc (suc (suc (suc (suc (suc (suc (suc (suc (suc (suc (suc (suc (suc (suc (comparisons - 16)))))))))))))))) = omega (arith, many) in
    let none = ap (left_after 65535) all ∙ none_left (comparisons - 16) in
    absurd (omega (arith, left, lt, none)))
    (cases_lt comparisons 16)

-- while one of at most 1,024 keys is left to compare, fewer than 10 more keys were compared
pub fewer_than_ten : (ks : List Key) (k : Key) (low high comparisons : ℕ) → IsBetween ks k low high comparisons → low < high → length ks ≤ 1024 → comparisons < 10
fewer_than_ten ks k low high comparisons b lt small =
    let left = b.left_of_few small in
    ⊎_elim
    (λ (few : comparisons < 10). few)
    (λ (many : 10 ≤ comparisons).
    let all : comparisons ≡ suc (suc (suc (suc (suc (suc (suc (suc (suc (suc (comparisons - 10)))))))))) = omega (arith, many) in
    let none = ap (left_after 1023) all ∙ none_left_of_few (comparisons - 10) in
    absurd (omega (arith, left, lt, none)))
    (cases_lt comparisons 10)

turned : (x k : Key) → key_cmp x k ≡ Greater → key_cmp k x ≡ Less
turned x k e = key_total.antisymm k x ∙ ap ordering_reverse e

pub upper : (es : List Entry) (k x : Key) (low high middle comparisons : ℕ) → T (entry_list.is_sorted key_cmp es) → IsBetween (map (λ e. e.0) es) k low high comparisons → low < high → middle ≡ low + (high - low) / 2 → slice_get (map (λ e. e.0) es) middle ≡ Some x → key_cmp x k ≡ Less → IsBetween (map (λ e. e.0) es) k (middle + 1) high (suc comparisons)
upper es k x low high middle comparisons sorted b lt half is less =
    let left = b.left in
    let few = fewer _ k low high comparisons b lt in
    record {
      below = λ j y lt_j is_j. ⊎_elim
          (λ (e : j ≡ middle). let same : y ≡ x = cc (is_j, is, e) in ap (λ (z : Key). key_cmp z k) same ∙ less)
          (λ (ne : j ≡ middle → ⊥). key_total.trans y x k (rises es j middle y x sorted (omega (arith, lt_j, ne)) is_j is) less)
          (cases_eq j middle);
      above = b.above;
      order = omega (arith, half, lt);
      within = b.within;
      left = omega (arith, half, lt, left);
      few = omega (arith, few);
      left_of_few = λ small. let some = b.left_of_few small in omega (arith, half, lt, some);
      fewer_of_few = λ small. let some = fewer_than_ten _ k low high comparisons b lt small in omega (arith, some);
    }

pub lower : (es : List Entry) (k x : Key) (low high middle comparisons : ℕ) → T (entry_list.is_sorted key_cmp es) → IsBetween (map (λ e. e.0) es) k low high comparisons → low < high → middle ≡ low + (high - low) / 2 → slice_get (map (λ e. e.0) es) middle ≡ Some x → key_cmp x k ≡ Greater → IsBetween (map (λ e. e.0) es) k low middle (suc comparisons)
lower es k x low high middle comparisons sorted b lt half is greater =
    let left = b.left in
    let within = b.within in
    let few = fewer _ k low high comparisons b lt in
    let after : key_cmp k x ≡ Less = turned x k greater in
    record {
      below = b.below;
      above = λ j y le is_j. ⊎_elim
          (λ (e : middle ≡ j). let same : y ≡ x = cc (is_j, is, e) in ap (λ (z : Key). key_cmp z k) same ∙ greater)
          (λ (ne : middle ≡ j → ⊥). key_total.antisymm y k ∙ ap ordering_reverse (key_total.trans k x y after (rises es middle j x y sorted (omega (arith, le, ne)) is is_j)))
          (cases_eq middle j);
      order = omega (arith, half);
      within = omega (arith, half, within, lt);
      left = omega (arith, half, lt, left);
      few = omega (arith, few);
      left_of_few = λ small. let some = b.left_of_few small in omega (arith, half, lt, some);
      fewer_of_few = λ small. let some = fewer_than_ten _ k low high comparisons b lt small in omega (arith, some);
    }

-- if a key is less than `k`, the insertion point of `k` is after it
pub after_less : (es : List Entry) (k x : Key) (at : ℕ) → T (entry_list.is_sorted key_cmp es) → length (map (λ e. e.0) es) ≤ 65536 → slice_get (map (λ e. e.0) es) at ≡ Some x → key_cmp x k ≡ Less → LiesBetween (map (λ e. e.0) es) k (at + 1) (length (map (λ e. e.0) es))
after_less es k x at sorted few is less =
    let there = slice_get_within (map (λ e. e.0) es) at x is in
    record {
      below = λ j y lt_j is_j. ⊎_elim
          (λ (e : j ≡ at). let same : y ≡ x = cc (is_j, is, e) in ap (λ (z : Key). key_cmp z k) same ∙ less)
          (λ (ne : j ≡ at → ⊥). key_total.trans y x k (rises es j at y x sorted (omega (arith, lt_j, ne)) is_j is) less)
          (cases_eq j at);
      above = λ j y le is_j. let within = slice_get_within (map (λ e. e.0) es) j y is_j in absurd (omega (arith, le, within));
      order = omega (arith, there);
      within = omega arith;
      fewer = omega (arith, there);
      few = few;
    }

-- if a key is greater than `k`, the insertion point of `k` is at or before it
pub before_greater : (es : List Entry) (k x : Key) (at : ℕ) → T (entry_list.is_sorted key_cmp es) → length (map (λ e. e.0) es) ≤ 65536 → slice_get (map (λ e. e.0) es) at ≡ Some x → key_cmp x k ≡ Greater → LiesBetween (map (λ e. e.0) es) k 0 at
before_greater es k x at sorted few is greater =
    let there = slice_get_within (map (λ e. e.0) es) at x is in
    let after : key_cmp k x ≡ Less = turned x k greater in
    record {
      below = λ j y lt is_j. absurd (omega (arith, lt));
      above = λ j y le is_j. ⊎_elim
          (λ (e : at ≡ j). let same : y ≡ x = cc (is_j, is, e) in ap (λ (z : Key). key_cmp z k) same ∙ greater)
          (λ (ne : at ≡ j → ⊥). key_total.antisymm y k ∙ ap ordering_reverse (key_total.trans k x y after (rises es at j x y sorted (omega (arith, le, ne)) is is_j)))
          (cases_eq at j);
      order = omega arith;
      within = omega (arith, there);
      fewer = omega (arith, there);
      few = few;
    }
