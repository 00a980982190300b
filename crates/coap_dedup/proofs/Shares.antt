-- The number of requests of an address, whose keys are adjacent in the order of keys.
use Rattle.std.proofs.Common.{◌≡◌, ℕ, zero, suc, ◌+◌, ◌-◌, ◌*◌, ◌/◌, ◌<◌, ◌≤◌, List, [], ◌∷◌, length, map, Bool, true, false, cond, not, T, Option, Some, None, refl, sym, ap, ◌∙◌, ⊎_elim, arith}
use Rattle.std.specs.Prelude.{◌==◌, filter, nat_lt, slice_get, is_some, ◌&&◌}
use Rattle.std.specs.declared.cmp.Ordering.{Ordering}
use Rattle.std.specs.declared.cmp.Ordering.TheVariants.{Less, Equal, Greater}
use Rattle.std.specs.Ordering.{is_eq, nat_cmp}
use Rattle.std.specs.Cmp.{ranked}
use Rattle.std.specs.FinMap.{entries, entries-insert, entries_sorted, get, get-entries, keys, len, len-entries, len-insert, contains_key}
use Rattle.std.specs.FinMap.Entries as entry_list
use borrow.Author.Tests.{ltb-true, lt-ltb}
use Rattle.std.proofs.lemmas.Bool.{cases_eq, eq-eqb, le-ltb, ne_eqb}
use Rattle.std.proofs.lemmas.Option.{slice_get_past, slice_get_within}
use Rattle.coap_dedup.specs.declared.exchange.Opened.{Opened}
use Rattle.coap_dedup.specs.declared.key.Key.{Key}
use Rattle.coap_dedup.specs.Keys.{AreBytes, address_number, first_key, is_key_at, key_cmp}
use Rattle.coap_dedup.specs.Requests.{IsGap, IsStart, by_key}
use Rattle.coap_dedup.specs.Views.{is_of_address}
use Rattle.coap_dedup.proofs.Index.{Entry, keys_few, rises}
use Rattle.coap_dedup.proofs.Keys.{key_total, same_address, same_if}

-- ---- the number of requests of an address, counted in the index

counted_if : (b : Bool) (e : Entry) (es : List Entry) → length (cond b (e ∷ es) es) ≡ cond b 1 0 + length es
counted_if true e es = omega arith
counted_if false e es = omega arith

abbrev of_keys : (Key → Bool) → List Entry → List Entry
of_keys p es = filter (λ e. p e.0) es

-- an entry with a new key adds one to the count if its key passes, at any place of insertion
put_there : (p : Key → Bool) (k : Key) (n : ℕ) (e : Entry) (es : List Entry) (r : Ordering) → key_cmp k e.0 ≡ r → entry_list.find key_cmp k (e ∷ es) ≡ None
    → (entry_list.find key_cmp k es ≡ None → length (of_keys p (entry_list.put key_cmp k n es)) ≡ cond (p k) 1 0 + length (of_keys p es))
    → length (of_keys p (entry_list.by_order r ((k, n) ∷ e ∷ es) ((e.0, n) ∷ es) (e ∷ entry_list.put key_cmp k n es))) ≡ cond (p k) 1 0 + length (of_keys p (e ∷ es))
put_there p k n e es Less is none rest = counted_if (p k) (k, n) (of_keys p (e ∷ es))
put_there p k n e es Equal is none rest = absurd (let found : Some e.1 ≡ None = (λ i. cond (is_eq (sym is i)) (Some e.1) (entry_list.find key_cmp k es)) ∙ none in cc found)
put_there p k n e es Greater is none rest =
    let later : entry_list.find key_cmp k es ≡ None = (λ i. cond (is_eq (sym is i)) (Some e.1) (entry_list.find key_cmp k es)) ∙ none in
    let more = rest later in
    let new = counted_if (p e.0) e (of_keys p (entry_list.put key_cmp k n es)) in
    let old = counted_if (p e.0) e (of_keys p es) in
    omega (arith, more, new, old)

put_counts : (p : Key → Bool) (k : Key) (n : ℕ) (es : List Entry) → entry_list.find key_cmp k es ≡ None → length (of_keys p (entry_list.put key_cmp k n es)) ≡ cond (p k) 1 0 + length (of_keys p es)
put_counts p k n [] none = counted_if (p k) (k, n) []
put_counts p k n (e ∷ es) none = put_there p k n e es (key_cmp k e.0) refl none (put_counts p k n es)

is_new : (b : Bool) (n m : ℕ) → cond b n (n + 1) ≡ suc m → n ≤ m → (b ≡ false) × (n ≡ m)
is_new true n m e le = absurd (omega (arith, e, le))
is_new false n m e le = (refl, omega (arith, e))

none_of : (x : Option ℕ) → is_some x ≡ false → x ≡ None
none_of None e = refl
none_of (Some n) e = absurd (cc e)

request_if : (b : Bool) (o : Opened) (os : List Opened) → length (cond b (o ∷ os) os) ≡ cond b 1 0 + length os
request_if true o os = omega arith
request_if false o os = omega arith

no_entries : (es : List Entry) → length es ≡ 0 → es ≡ []
no_entries [] none = refl
no_entries (e ∷ es) none = absurd (cc none)

-- the number of entries whose keys pass a test is the number of requests whose keys pass
pub entries_count : (p : Key → Bool) (os : List Opened) → len (by_key os) ≡ length os → length (of_keys p (entries (by_key os))) ≡ length (filter (λ o. p o.key) os)
entries_count p [] distinct = ap (λ (es : List Entry). length (of_keys p es)) (no_entries (entries (by_key [])) (sym (len-entries (by_key [])) ∙ distinct))
entries_count p (o ∷ os) distinct =
    let m = by_key os in
    let new = is_new (contains_key m o.key) (len m) (length os) (sym (len-insert key_total m o.key o.number) ∙ distinct) (keys_few os) in
    let absent : entry_list.find key_cmp o.key (entries m) ≡ None = sym (get-entries m o.key) ∙ none_of (get m o.key) new.0 in
    let put = put_counts p o.key o.number (entries m) absent in
    let rest = entries_count p os new.1 in
    let one = request_if (p o.key) o (filter (λ x. p x.key) os) in
    ap (λ (es : List Entry). length (of_keys p es)) (entries-insert key_total m o.key o.number) ∙ omega (arith, put, rest, one)

-- ---- ordered numbers

number_less : (n m : ℕ) → nat_cmp n m ≡ Less → n < m
number_less n m is = ranked n m Less (sym is)

number_more : (n m : ℕ) → nat_cmp n m ≡ Greater → m < n
number_more n m is = ranked n m Greater (sym is)

-- ---- the first place of an address

abbrev key_number_at : ℕ → Key → Bool
key_number_at a k = k.number / 4294967296 == a

abbrev is_one : ℕ → Option Key → Bool
is_one a None = false
is_one a (Some k) = key_number_at a k

abbrev pub keys_in : List Entry → List Key
keys_in es = map (λ e. e.0) es

-- the keys before place `i` are below those of the address, and the keys from `i` on aren't
pub record IsFirst (a : ℕ) (ks : List Key) (i : ℕ) : Type 0 where
  pub below : (j : ℕ) (x : Key) → j < i → slice_get ks j ≡ Some x → x.number < a * 4294967296
  pub above : (j : ℕ) (x : Key) → i ≤ j → slice_get ks j ≡ Some x → a * 4294967296 ≤ x.number

suc_lt : (m n : ℕ) → nat_lt (suc m) (suc n) ≡ nat_lt m n
suc_lt m n = same_if (nat_lt (suc m) (suc n)) (nat_lt m n)
    (λ e. let lt = ltb-true (suc m) (suc n) e in lt-ltb m n (omega (arith, lt)))
    (λ e. let lt = ltb-true m n e in lt-ltb (suc m) (suc n) (omega (arith, lt)))

-- if the keys of an address come first in a list, they also do with one more of them in front
head_counts : (a n others : ℕ) (k : Key) (ks : List Key) → key_number_at a k ≡ true → ((t : ℕ) → nat_lt n (suc t) ≡ not (is_one a (slice_get ks t)))
    → nat_lt (suc n) (suc others) ≡ not (is_one a (slice_get (k ∷ ks) others))
head_counts a n zero k ks is rest = le-ltb (suc n) 1 (omega arith) ∙ sym (ap not is)
head_counts a n (suc t) k ks is rest = suc_lt n (suc t) ∙ rest t

none_count : (a : ℕ) (es : List Entry) → ((j : ℕ) (x : Key) → slice_get (keys_in es) j ≡ Some x → key_number_at a x ≡ false) → length (of_keys (key_number_at a) es) ≡ 0
none_count a [] other = refl
none_count a (e ∷ es) other =
    ap (λ (b : Bool). length (cond b (e ∷ of_keys (key_number_at a) es) (of_keys (key_number_at a) es))) (other 0 e.0 refl) ∙ none_count a es (λ j x is. other (suc j) x is)

headed : (a : ℕ) (k : Key) (ks : List Key) → key_number_at a k ≡ false → ((j : ℕ) (x : Key) → slice_get ks j ≡ Some x → key_number_at a x ≡ false)
    → (j : ℕ) (x : Key) → slice_get (k ∷ ks) j ≡ Some x → key_number_at a x ≡ false
headed a k ks is later zero x at = let same : x ≡ k = cc at in ap (key_number_at a) same ∙ is
headed a k ks is later (suc j) x at = later j x at

not_one : (a : ℕ) (x : Option Key) → ((k : Key) → x ≡ Some k → key_number_at a k ≡ false) → is_one a x ≡ false
not_one a None other = refl
not_one a (Some k) other = other k refl

-- if a number isn't below an address's keys and isn't one of them, no greater number is one of them
later_not : (a n m : ℕ) → a * 4294967296 ≤ n → (n / 4294967296 ≡ a → ⊥) → n < m → m / 4294967296 ≡ a → ⊥
later_not a n m le ne lt is = ne (omega (arith, le, lt, is))

rising : (es : List Entry) (e : Entry) (j : ℕ) (x : Key) → T (entry_list.is_sorted key_cmp (e ∷ es)) → slice_get (keys_in es) j ≡ Some x → e.0.number < x.number
rising es e j x sorted is = number_less e.0.number x.number (rises (e ∷ es) 0 (suc j) e.0 x sorted (omega arith) refl is)

sorted_rest : (a b : Bool) → T (a && b) → T b
sorted_rest true b t = t
sorted_rest false b t = absurd t

-- the keys of an address come first among the keys from its least key on. So an address has fewer
-- than `others` + 1 keys exactly if the key at place `others` isn't one of them
counts_from : (a : ℕ) (es : List Entry) → T (entry_list.is_sorted key_cmp es) → ((j : ℕ) (x : Key) → slice_get (keys_in es) j ≡ Some x → a * 4294967296 ≤ x.number)
    → (others : ℕ) → nat_lt (length (of_keys (key_number_at a) es)) (suc others) ≡ not (is_one a (slice_get (keys_in es) others))
counts_from a [] sorted above others = lt-ltb 0 (suc others) (omega arith)
counts_from a (e ∷ es) sorted above others = (elim (key_number_at a e.0) as (λ b. key_number_at a e.0 ≡ b → nat_lt (length (cond b (e ∷ of_keys (key_number_at a) es) (of_keys (key_number_at a) es))) (suc others) ≡ not (is_one a (slice_get (e.0 ∷ keys_in es) others))) [
  | true ↦ λ is. head_counts a (length (of_keys (key_number_at a) es)) others e.0 (keys_in es) is (counts_from a es (sorted_rest _ _ sorted) (λ j x at. above (suc j) x at))
  | false ↦ λ is.
      let le = above 0 e.0 refl in
      let ne : e.0.number / 4294967296 ≡ a → ⊥ = λ same. absurd (cc (sym is ∙ eq-eqb (e.0.number / 4294967296) a same)) in
      let later : (j : ℕ) (x : Key) → slice_get (keys_in es) j ≡ Some x → key_number_at a x ≡ false = λ j x at. ne_eqb (x.number / 4294967296) a (later_not a e.0.number x.number le ne (rising es e j x sorted at)) in
      let none = none_count a es later in
      ap (λ n. nat_lt n (suc others)) none ∙ (lt-ltb 0 (suc others) (omega arith) ∙ sym (ap not (not_one a (slice_get (e.0 ∷ keys_in es) others) (λ x at. headed a e.0 (keys_in es) is later others x at))))
]) refl

pub counts : (a : ℕ) (es : List Entry) (i others : ℕ) → T (entry_list.is_sorted key_cmp es) → IsFirst a (keys_in es) i → nat_lt (length (of_keys (key_number_at a) es)) (suc others) ≡ not (is_one a (slice_get (keys_in es) (i + others)))
counts a es zero others sorted first =
    counts_from a es sorted (λ j x at. first.above j x (omega arith) at) others
    ∙ ap (λ (k : ℕ). not (is_one a (slice_get (keys_in es) k))) {x = others} {y = 0 + others} (omega arith)
counts a [] (suc i) others sorted first = lt-ltb 0 (suc others) (omega arith)
counts a (e ∷ es) (suc i) others sorted first =
    let lt = first.below 0 e.0 (omega arith) refl in
    let not_its : key_number_at a e.0 ≡ false = ne_eqb (e.0.number / 4294967296) a (λ same. absurd (omega (arith, lt, same))) in
    let rest : IsFirst a (keys_in es) i = record { below = λ j x l at. first.below (suc j) x (omega (arith, l)) at; above = λ j x l at. first.above (suc j) x (omega (arith, l)) at } in
    let later = counts a es i others (sorted_rest _ _ sorted) rest in
    ap (λ (b : Bool). nat_lt (length (cond b (e ∷ of_keys (key_number_at a) es) (of_keys (key_number_at a) es))) (suc others)) not_its
    ∙ (later ∙ ap (λ (k : ℕ). not (is_one a (slice_get (e.0 ∷ keys_in es) k))) {x = suc (i + others)} {y = suc i + others} (omega arith))

-- ---- the number of requests of an address

requests_at : (ip : List ℕ) (os : List Opened) → AreBytes ip → length (filter (λ o. key_number_at (address_number ip) o.key) os) ≡ length (filter (is_of_address ip) os)
requests_at ip os w = λ i. length (filter (λ (o : Opened). sym (same_address ip o.key w) i) os)

pub fewer_at : (ip : List ℕ) (os : List Opened) (i share others : ℕ) → AreBytes ip → len (by_key os) ≡ length os → IsFirst (address_number ip) (keys (by_key os)) i → share ≡ suc others
    → nat_lt (length (filter (is_of_address ip) os)) share ≡ not (is_one (address_number ip) (slice_get (keys (by_key os)) (i + others)))
fewer_at ip os i share others w distinct first is =
    let a = address_number ip in
    let count = entries_count (key_number_at a) os distinct ∙ requests_at ip os w in
    ap (nat_lt (length (filter (is_of_address ip) os))) is
    ∙ (ap (λ n. nat_lt n (suc others)) (sym count) ∙ counts a (entries (by_key os)) i others (entries_sorted (by_key os)) first)

-- if a search for an address's least key finds it at place `i`, the address's keys begin at `i`
pub start_found : (ip : List ℕ) (i : ℕ) (k : Key) (os : List Opened) → k ≡ first_key ip → slice_get (keys (by_key os)) i ≡ Some k → IsStart ip (keys (by_key os)) i
start_found ip i k os is at =
    let within = slice_get_within (keys (by_key os)) i k at in
    let number : k.number ≡ (first_key ip).number = ap (λ (y : Key). y.number) is in
    record {
      within = omega (arith, within);
      below = λ j x lt at_j. let less = number_less x.number k.number (rises (entries (by_key os)) j i x k (entries_sorted (by_key os)) lt at_j at) in omega (arith, less, number);
      above = λ j x le at_j. ⊎_elim
          (λ (e : i ≡ j). let same : x ≡ k = cc (at_j, at, e) in let its = ap (λ (y : Key). y.number) same in omega (arith, its, number))
          (λ (ne : i ≡ j → ⊥). let less = number_less k.number x.number (rises (entries (by_key os)) i j k x (entries_sorted (by_key os)) (omega (arith, le, ne)) at at_j) in omega (arith, less, number))
          (cases_eq i j);
    }

pub start_gap : (ip : List ℕ) (i : ℕ) (k : Key) (os : List Opened) → k ≡ first_key ip → IsGap (keys (by_key os)) k i → IsStart ip (keys (by_key os)) i
start_gap ip i k os is gap =
    let number : k.number ≡ (first_key ip).number = ap (λ (y : Key). y.number) is in
    record {
      within = gap.within;
      below = λ j x lt at. let less = number_less x.number k.number (gap.below j x lt at) in omega (arith, less, number);
      above = λ j x le at. let more = number_more x.number k.number (gap.above j x le at) in omega (arith, more, number);
    }

-- ---- fewer than a share, or not

first_of : (ip : List ℕ) (ks : List Key) (i : ℕ) → IsStart ip ks i → IsFirst (address_number ip) ks i
first_of ip ks i w = record { below = w.below; above = w.above }

-- an address has fewer requests than a share if a full share of keys would end past the last key
pub fewer_behind : (ip : List ℕ) (os : List Opened) (i share : ℕ) → AreBytes ip → len (by_key os) ≡ length os → IsStart ip (keys (by_key os)) i → 1 ≤ share → length (keys (by_key os)) < i + share
    → nat_lt (length (filter (is_of_address ip) os)) share ≡ true
fewer_behind ip os i share w distinct start some behind =
    fewer_at ip os i share (share - 1) w distinct (first_of ip (keys (by_key os)) i start) (omega (arith, some))
    ∙ ap (λ (x : Option Key). not (is_one (address_number ip) x)) (slice_get_past (keys (by_key os)) (i + (share - 1)) (omega (arith, some, behind)))

-- an address has fewer requests than a share exactly if the key that would be the last of a full
-- share is that of another address
pub fewer_there : (ip : List ℕ) (os : List Opened) (i share : ℕ) (k : Key) → AreBytes ip → len (by_key os) ≡ length os → IsStart ip (keys (by_key os)) i → 1 ≤ share
    → slice_get (keys (by_key os)) (i + (share - 1)) ≡ Some k → nat_lt (length (filter (is_of_address ip) os)) share ≡ not (is_key_at ip k)
fewer_there ip os i share k w distinct start some there =
    fewer_at ip os i share (share - 1) w distinct (first_of ip (keys (by_key os)) i start) (omega (arith, some))
    ∙ ap (λ (x : Option Key). not (is_one (address_number ip) x)) there
