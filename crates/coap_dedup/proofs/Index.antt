-- The index of the stored requests: the place of a request's key in the order of keys.
use Rattle.std.proofs.Common.{◌≡◌, ℕ, zero, suc, ◌+◌, ◌%◌, ◌<◌, ◌≤◌, List, [], ◌∷◌, ◌++◌, length, length-append, length-drop, map, drop, Bool, true, false, cond, T, Option, Some, None, refl, sym, ap, subst, ◌∙◌, ⊎_elim, arith}
use Rattle.std.specs.Prelude.{◌&&◌, find, slice_get, slice_index_or, option_map, is_some}
use Rattle.std.specs.List.{insert, position_or_len, remove}
use Rattle.std.specs.declared.cmp.Ordering.{Ordering}
use Rattle.std.specs.declared.cmp.Ordering.TheVariants.{Less, Equal, Greater}
use Rattle.std.specs.Ordering.{eq_by_cmp, is_eq, is_lt, ordering_reverse}
use Rattle.std.specs.FinMap.{entries, entries-insert, entries_sorted, from_entries, from_entries_push, FinMap, get, get-entries, get-from_entries, keys, len, len-empty, len-entries, len-insert, contains_key, values}
use Rattle.std.specs.FinMap as finmap
use Rattle.std.specs.FinMap.Entries as entry_list
use Rattle.std.proofs.lemmas.Bool.{cases_lt}
use Rattle.std.proofs.lemmas.Cmp.{eq_by_cmp_equiv, tied_itself}
use Rattle.std.proofs.lemmas.List.{length-map, map-append}
use Rattle.std.proofs.lemmas.List.Folds.{find_at}
use Rattle.std.proofs.lemmas.Option.{get_or_from_slice_get, slice_get-map, slice_get_within}
use Rattle.std.specs.Global.{Vec}
use Rattle.std.specs.Vec.{vec_capacity}
use Rattle.circular_buffer.specs.Buffer.{Buffer, buffer, keep_last}
use Rattle.coap_dedup.specs.declared.exchange.Opened.{Opened}
use Rattle.coap_dedup.specs.declared.key.Key.{Key}
use Rattle.coap_dedup.specs.Keys.{key_cmp}
use Rattle.coap_dedup.specs.Requests.{AreRequests, IsOldest, IsGap, IsIndex, by_key, has_key}
use Rattle.coap_dedup.specs.Views.{Arrives, InOrder}
use Rattle.coap_dedup.proofs.Arrival.{next_in_order}
use Rattle.coap_dedup.proofs.Places.{keeps_all}
use Rattle.coap_dedup.proofs.Keys.{key_antisymmetric, key_total}

abbrev pub Entry : Type 0
Entry = Key × ℕ

abbrev entry_of : Opened → Entry
entry_of o = (o.key, o.number)

-- ---- the search for a request by its key

entry_found : (k : Key) (os : List Opened) → entry_list.find key_cmp k (map entry_of os) ≡ option_map (λ o. o.number) (find (has_key k) os)
entry_found k [] = refl
entry_found k (o ∷ os) = elim (has_key k o) as (λ b. cond b (Some o.number) (entry_list.find key_cmp k (map entry_of os)) ≡ option_map (λ x. x.number) (cond b (Some o) (find (has_key k) os))) [ true ↦ refl | false ↦ entry_found k os ]

pub get_is : (k : Key) (os : List Opened) → get (by_key os) k ≡ option_map (λ o. o.number) (find (has_key k) os)
get_is k os = get-from_entries key_total (map entry_of os) k ∙ entry_found k os

no_request : (x : Option Opened) → option_map (λ o. o.number) x ≡ None → x ≡ None
no_request None e = refl
no_request (Some o) e = absurd (cc e)

holds : (k : Key) (os : List Opened) (o : Opened) → find (has_key k) os ≡ Some o → has_key k o ≡ true
holds k [] o e = absurd (cc e)
holds k (x ∷ os) o e = (elim (has_key k x) as (λ b. has_key k x ≡ b → cond b (Some x) (find (has_key k) os) ≡ Some o → has_key k o ≡ true) [
  | true ↦ λ t is. let same : o ≡ x = cc is in ap (has_key k) same ∙ t
  | false ↦ λ t is. holds k os o is
]) refl e

equal_of : (r : Ordering) → is_eq r ≡ true → r ≡ Equal
equal_of Less e = absurd (cc e)
equal_of Equal e = refl
equal_of Greater e = absurd (cc e)

same_of : (k x : Key) → eq_by_cmp key_cmp k x ≡ true → k ≡ x
same_of k x e = key_antisymmetric k x (equal_of (key_cmp k x) e)

itself : (k : Key) → eq_by_cmp key_cmp k k ≡ true
itself k = ap is_eq (tied_itself key_total k)

-- the request that a search for an entry's key finds has that key
record IsFound (os : List Opened) (e : Entry) : Type 0 where
  request : Opened
  found : find (has_key e.0) os ≡ Some request
  key_is : request.key ≡ e.0
  number_is : request.number ≡ e.1

found_by : (os : List Opened) (e : Entry) (x : Option Opened) → find (has_key e.0) os ≡ x → option_map (λ o. o.number) x ≡ Some e.1 → IsFound os e
found_by os e None found is = absurd (cc is)
found_by os e (Some o) found is = record { request = o; found = found; key_is = sym (same_of e.0 o.key (holds e.0 os o found)); number_is = cc is }

-- ---- entries in the order of their keys

apart : (r : Ordering) → r ≡ Less → is_eq r ≡ false
apart r e = ap is_eq e

first_true : (a b : Bool) → T (a && b) → T a
first_true true b t = tt
first_true false b t = absurd t

second_true : (a b : Bool) → T (a && b) → T b
second_true true b t = t
second_true false b t = absurd t

less_of : (r : Ordering) → T (is_lt r) → r ≡ Less
less_of Less t = refl
less_of Equal t = absurd t
less_of Greater t = absurd t

below_each : (k : Key) (es : List Entry) (i : ℕ) (e : Entry) → T (entry_list.below_all key_cmp k es) → slice_get es i ≡ Some e → key_cmp k e.0 ≡ Less
below_each k [] i e below is = absurd (cc is)
below_each k (x ∷ es) zero e below is = let same : e ≡ x = cc is in ap (λ (y : Entry). key_cmp k y.0) same ∙ less_of (key_cmp k x.0) (first_true _ _ below)
below_each k (x ∷ es) (suc i) e below is = below_each k es i e (second_true _ _ below) is

entry_at : (es : List Entry) (i : ℕ) (e : Entry) → T (entry_list.is_sorted key_cmp es) → slice_get es i ≡ Some e → entry_list.find key_cmp e.0 es ≡ Some e.1
entry_at [] i e sorted is = absurd (cc is)
entry_at (x ∷ es) zero e sorted is =
    let same : x ≡ e = cc is in
    ap (λ (b : Bool). cond b (Some x.1) (entry_list.find key_cmp e.0 es)) (ap (λ (y : Entry). eq_by_cmp key_cmp e.0 y.0) same ∙ itself e.0) ∙ ap (λ (y : Entry). Some y.1) same
entry_at (x ∷ es) (suc i) e sorted is =
    let less : key_cmp x.0 e.0 ≡ Less = below_each x.0 es i e (first_true _ _ sorted) is in
    let other : eq_by_cmp key_cmp e.0 x.0 ≡ false = (eq_by_cmp_equiv key_total).symm e.0 x.0 ∙ ap is_eq less in
    ap (λ (b : Bool). cond b (Some x.1) (entry_list.find key_cmp e.0 es)) other ∙ entry_at es i e (second_true _ _ sorted) is

record KeyEntry (es : List Entry) (i : ℕ) (k : Key) : Type 0 where
  entry : Entry
  is : slice_get es i ≡ Some entry
  key_is : entry.0 ≡ k

key_entry : (es : List Entry) (i : ℕ) (k : Key) → slice_get (map (λ e. e.0) es) i ≡ Some k → KeyEntry es i k
key_entry [] i k is = absurd (cc is)
key_entry (e ∷ es) zero k is = record { entry = e; is = refl; key_is = cc is }
key_entry (e ∷ es) (suc i) k is = let there = key_entry es i k is in record { entry = there.entry; is = there.is; key_is = there.key_is }

pub rises : (es : List Entry) (i j : ℕ) (x y : Key) → T (entry_list.is_sorted key_cmp es) → i < j → slice_get (map (λ e. e.0) es) i ≡ Some x → slice_get (map (λ e. e.0) es) j ≡ Some y → key_cmp x y ≡ Less
rises [] i j x y sorted lt at_i at_j = absurd (cc at_i)
rises (e ∷ es) i zero x y sorted lt at_i at_j = absurd (omega (arith, lt))
rises (e ∷ es) zero (suc j) x y sorted lt at_i at_j =
    let there = key_entry es j y at_j in
    ap (λ (k : Key). key_cmp k y) (sym (cc at_i)) ∙ (ap (key_cmp e.0) (sym there.key_is) ∙ below_each e.0 es j there.entry (first_true _ _ sorted) there.is)
rises (e ∷ es) (suc i) (suc j) x y sorted lt at_i at_j = rises es i j x y (second_true _ _ sorted) (omega (arith, lt)) at_i at_j

-- ---- the places of the requests

abbrev place_of : ℕ → ℕ
place_of n = n % 65536

pub record IsAt (os : List Opened) (place i : ℕ) : Type 0 where
  pub request : Opened
  pub entry : slice_get (entries (by_key os)) i ≡ Some (request.key, request.number)
  pub found : find (has_key request.key) os ≡ Some request
  pub place_is : place ≡ request.number % 65536
  pub after : ℕ
  pub there : slice_get os after ≡ Some request

pub index_length : (os : List Opened) (places : List ℕ) → IsIndex os places → length places ≡ length os
index_length os places is =
    ap length is.sorted ∙ (length-map (values (by_key os)) place_of ∙ (length-map (entries (by_key os)) (λ (e : Entry). e.1) ∙ (sym (len-entries (by_key os)) ∙ is.distinct)))

value_at : (es : List Entry) (i : ℕ) (e : Entry) → slice_get es i ≡ Some e → slice_get (map place_of (map (λ e. e.1) es)) i ≡ Some (e.1 % 65536)
value_at [] i e is = absurd (cc is)
value_at (x ∷ es) zero e is = let same : x ≡ e = cc is in ap (λ (y : Entry). Some (y.1 % 65536)) same
value_at (x ∷ es) (suc i) e is = value_at es i e is

there_is : {X : Type 0} (xs : List X) (i : ℕ) → i < length xs → (x : X) × (slice_get xs i ≡ Some x)
there_is [] i lt = absurd (omega (arith, lt))
there_is (x ∷ xs) zero lt = (x, refl)
there_is (x ∷ xs) (suc i) lt = there_is xs i (omega (arith, lt))

-- if an entry is at index `i` in the order of keys, the place at index `i` is that of its request
at_entry : (os : List Opened) (places : List ℕ) (i d : ℕ) (e : Entry) → IsIndex os places → slice_get (entries (by_key os)) i ≡ Some e → IsAt os (slice_index_or places i d) i
at_entry os places i d e is entry =
    let got = entry_at (entries (by_key os)) i e (entries_sorted (by_key os)) entry in
    let f = found_by os e (find (has_key e.0) os) refl (sym (get_is e.0 os) ∙ (get-entries (by_key os) e.0 ∙ got)) in
    record {
      request = f.request;
      entry = entry ∙ (λ j. Some (sym f.key_is j, sym f.number_is j));
      found = ap (λ (k : Key). find (has_key k) os) f.key_is ∙ f.found;
      place_is = get_or_from_slice_get places i (e.1 % 65536) d (ap (λ (ps : List ℕ). slice_get ps i) is.sorted ∙ value_at (entries (by_key os)) i e entry) ∙ ap place_of (sym f.number_is);
      after = position_or_len (has_key e.0) os;
      there = sym (find_at (has_key e.0) os) ∙ f.found;
    }

pub at_index : (os : List Opened) (places : List ℕ) (i d : ℕ) → IsIndex os places → i < length os → IsAt os (slice_index_or places i d) i
at_index os places i d is lt =
    let distinct = is.distinct in
    let long = len-entries (by_key os) in
    let e = there_is (entries (by_key os)) i (omega (arith, lt, distinct, long)) in
    at_entry os places i d e.0 is e.1

numbered_at : (number since now i : ℕ) (os : List Opened) (o : Opened) → Arrives number since now os → slice_get os i ≡ Some o → o.number ≡ number + i
numbered_at number since now i [] o a is = absurd (cc is)
numbered_at number since now zero (x ∷ os) o a is = let same : o ≡ x = cc is in let n = a.0 in ap (λ (y : Opened). y.number) same ∙ omega (arith, n)
numbered_at number since now (suc i) (x ∷ os) o a is = let n = numbered_at (number + 1) x.at now i os o a.3 is in omega (arith, n)

-- the request at a place is found in the ring at `after`, its distance from the oldest request
pub found_after : (os : List Opened) (place i after : ℕ) (oldest : Opened) → InOrder os → length os ≤ 65536 → slice_get os 0 ≡ Some oldest → (a : IsAt os place i)
    → ((number : ℕ) → oldest.number ≤ number → number < oldest.number + 65536 → number % 65536 ≡ place → oldest.number + after ≡ number) → slice_get os after ≡ Some a.request
found_after os place i after oldest order few front a counts =
    let first = numbered_at order.first 0 order.now 0 os oldest order.order front in
    let number = numbered_at order.first 0 order.now a.after os a.request order.order a.there in
    let within = slice_get_within os a.after a.request a.there in
    let counted = counts a.request.number (omega (arith, first, number)) (omega (arith, first, number, within, few)) (sym a.place_is) in
    ap (slice_get os) {x = after} {y = a.after} (omega (arith, first, number, counted)) ∙ a.there

pub record IsThere (os : List Opened) (i after : ℕ) : Type 0 where
  pub request : Opened
  pub entry : slice_get (entries (by_key os)) i ≡ Some (request.key, request.number)
  pub found : find (has_key request.key) os ≡ Some request
  pub there : slice_get os after ≡ Some request

pub at_place : (ring : Buffer Opened) (index : Vec ℕ) (i place after first : ℕ) → AreRequests ring index → i < length ring.items → place ≡ slice_index_or index.items i place → IsOldest ring.items first
    → ((number : ℕ) → first ≤ number → number < first + 65536 → number % 65536 ≡ place → first + after ≡ number) → IsThere ring.items i after
at_place ring index i place after first are lt is oldest counts =
    let a = subst (λ (p : ℕ). IsAt ring.items p i) (sym is) (at_index ring.items index.items i place are.is_index lt) in
    let o = there_is ring.items 0 (omega (arith, lt)) in
    let from : (number : ℕ) → o.0.number ≤ number → number < o.0.number + 65536 → number % 65536 ≡ place → o.0.number + after ≡ number = subst (λ (n : ℕ). (number : ℕ) → n ≤ number → number < n + 65536 → number % 65536 ≡ place → n + after ≡ number) (oldest o.0 o.1) counts in
    record { request = a.request; entry = a.entry; found = a.found; there = found_after ring.items place i after o.0 are.order (let few = are.few in let most = are.capacity in omega (arith, few, most)) o.1 a from }

pub keys_length : (os : List Opened) (places : List ℕ) → IsIndex os places → length (keys (by_key os)) ≡ length os
keys_length os places is = length-map (entries (by_key os)) (λ (e : Entry). e.0) ∙ (sym (len-entries (by_key os)) ∙ is.distinct)

pub key_at : (os : List Opened) (i : ℕ) (k : Key) (n : ℕ) → slice_get (entries (by_key os)) i ≡ Some (k, n) → slice_get (keys (by_key os)) i ≡ Some k
key_at os i k n is = slice_get-map (λ (e : Entry). e.0) (entries (by_key os)) i ∙ ap (option_map (λ (e : Entry). e.0)) is

-- ---- the results of a search for a key

-- if a key and a request's entry are at the same index, the request has that key
pub same_key_at : (os : List Opened) (i : ℕ) (k : Key) (o : Opened) → slice_get (keys (by_key os)) i ≡ Some k → slice_get (entries (by_key os)) i ≡ Some (o.key, o.number) → o.key ≡ k
same_key_at os i k o at_i entry = let there = key_at os i o.key o.number entry in cc (at_i, there)

few_or_more : (b : Bool) (n m : ℕ) → n ≤ m → cond b n (n + 1) ≤ suc m
few_or_more true n m le = omega (arith, le)
few_or_more false n m le = omega (arith, le)

-- the number of keys is at most the number of requests
pub keys_few : (os : List Opened) → len (by_key os) ≤ length os
keys_few [] = let none = len-empty key_cmp ℕ in omega (arith, none)
keys_few (o ∷ os) =
    let more = len-insert key_total (by_key os) o.key o.number in
    let few = few_or_more (contains_key (by_key os) o.key) (len (by_key os)) (length os) (keys_few os) in
    subst (λ (n : ℕ). n ≤ suc (length os)) (sym more) few

pub keys_at_most : (os : List Opened) → length (keys (by_key os)) ≤ length os
keys_at_most os =
    let long = length-map (entries (by_key os)) (λ (e : Entry). e.0) in
    let same = len-entries (by_key os) in
    let few = keys_few os in
    omega (arith, long, same, few)

pub key_within : (os : List Opened) (i : ℕ) (k : Key) → slice_get (keys (by_key os)) i ≡ Some k → i < length os
key_within os i k at_i =
    let within = slice_get_within (keys (by_key os)) i k at_i in
    let long = length-map (entries (by_key os)) (λ (e : Entry). e.0) in
    let same = len-entries (by_key os) in
    let few = keys_few os in
    omega (arith, within, long, same, few)

absent : (k : Key) (es : List Entry) → ((i : ℕ) (x : Key) → slice_get (map (λ e. e.0) es) i ≡ Some x → eq_by_cmp key_cmp k x ≡ false) → entry_list.find key_cmp k es ≡ None
absent k [] other = refl
absent k (e ∷ es) other = ap (λ (b : Bool). cond b (Some e.1) (entry_list.find key_cmp k es)) (other 0 e.0 refl) ∙ absent k es (λ i x is. other (suc i) x is)

-- if a key has an insertion point, no request has that key
pub none_found : (os : List Opened) (k : Key) (i : ℕ) → IsGap (keys (by_key os)) k i → find (has_key k) os ≡ None
none_found os k i gap =
    let other : (j : ℕ) (x : Key) → slice_get (keys (by_key os)) j ≡ Some x → eq_by_cmp key_cmp k x ≡ false = λ j x is. (eq_by_cmp_equiv key_total).symm k x ∙ ⊎_elim
    (λ (lt : j < i). ap is_eq (gap.below j x lt is))
    (λ (le : i ≤ j). ap is_eq (gap.above j x le is))
    (cases_lt j i) in
    no_request (find (has_key k) os) (sym (get_is k os) ∙ (get-entries (by_key os) k ∙ absent k (entries (by_key os)) other))

-- each key of the index is that of a request
pub some_found : (os : List Opened) (k : Key) (i : ℕ) → slice_get (keys (by_key os)) i ≡ Some k → find (has_key k) os ≡ None → ⊥
some_found os k i at_i none =
    let there = key_entry (entries (by_key os)) i k at_i in
    let got : entry_list.find key_cmp k (entries (by_key os)) ≡ Some there.entry.1 = ap (λ (x : Key). entry_list.find key_cmp x (entries (by_key os))) (sym there.key_is) ∙ entry_at (entries (by_key os)) i there.entry (entries_sorted (by_key os)) there.is in
    let not : entry_list.find key_cmp k (entries (by_key os)) ≡ None = sym (get-entries (by_key os) k) ∙ (get_is k os ∙ ap (option_map (λ o. o.number)) none) in
    cc (got, not)

-- ---- the index after a request is added or removed

put_in_gap : (k : Key) (n : ℕ) (es : List Entry) (i : ℕ) → IsGap (map (λ e. e.0) es) k i → entry_list.put key_cmp k n es ≡ insert es i (k, n)
put_in_gap k n [] zero gap = refl
put_in_gap k n [] (suc i) gap = let within = gap.within in absurd (omega (arith, within))
put_in_gap k n (e ∷ es) zero gap = ap (λ (r : Ordering). entry_list.by_order r ((k, n) ∷ e ∷ es) ((e.0, n) ∷ es) (e ∷ entry_list.put key_cmp k n es)) (key_total.antisymm k e.0 ∙ ap ordering_reverse (gap.above 0 e.0 (omega arith) refl))
put_in_gap k n (e ∷ es) (suc i) gap =
    let within = gap.within in
    let rest : IsGap (map (λ x. x.0) es) k i = record { within = omega (arith, within); below = λ j x lt is. gap.below (suc j) x (omega (arith, lt)) is; above = λ j x le is. gap.above (suc j) x (omega (arith, le)) is } in
    ap (λ (r : Ordering). entry_list.by_order r ((k, n) ∷ e ∷ es) ((e.0, n) ∷ es) (e ∷ entry_list.put key_cmp k n es)) (key_total.antisymm k e.0 ∙ ap ordering_reverse (gap.below 0 e.0 (omega arith) refl))
    ∙ ap (λ (l : List Entry). e ∷ l) (put_in_gap k n es i rest)

inserted_places : (es : List Entry) (i : ℕ) (e : Entry) → map place_of (map (λ x. x.1) (insert es i e)) ≡ insert (map place_of (map (λ x. x.1) es)) i (e.1 % 65536)
inserted_places es zero e = refl
inserted_places [] (suc i) e = refl
inserted_places (x ∷ es) (suc i) e = ap (λ (l : List ℕ). x.1 % 65536 ∷ l) (inserted_places es i e)

-- if a request with a new key is added, the index with its place at the insertion point is right
pub pushed : (os : List Opened) (places : List ℕ) (o : Opened) (i : ℕ) → IsIndex os places → find (has_key o.key) os ≡ None → IsGap (keys (by_key os)) o.key i → IsIndex (os ++ o ∷ []) (insert places i (o.number % 65536))
pushed os places o i is new gap =
    let none : entry_list.find key_cmp o.key (map entry_of os) ≡ None = entry_found o.key os ∙ ap (option_map (λ x. x.number)) new in
    let added : by_key (os ++ o ∷ []) ≡ finmap.insert (by_key os) o.key o.number = ap (λ (l : List Entry). from_entries l) (map-append entry_of os (o ∷ [])) ∙ from_entries_push key_total key_antisymmetric (map entry_of os) o.key o.number none in
    let unknown : contains_key (by_key os) o.key ≡ false = ap (λ (x : Option ℕ). is_some x) (get_is o.key os ∙ ap (option_map (λ x. x.number)) new) in
    let longer : len (by_key (os ++ o ∷ [])) ≡ len (by_key os) + 1 = ap (λ (m : FinMap key_cmp ℕ). len m) added ∙ (len-insert key_total (by_key os) o.key o.number ∙ ap (λ (b : Bool). cond b (len (by_key os)) (len (by_key os) + 1)) unknown) in
    let distinct = is.distinct in
    let long = length-append os (o ∷ []) in
    let es = entries (by_key os) in
    let places_of : List Entry → List ℕ = λ l. map place_of (map (λ (e : Entry). e.1) l) in
    let listed : entries (by_key (os ++ o ∷ [])) ≡ insert es i (o.key, o.number) = ap (λ (m : FinMap key_cmp ℕ). entries m) added ∙ (entries-insert key_total (by_key os) o.key o.number ∙ put_in_gap o.key o.number es i gap) in
    record {
      distinct = omega (arith, longer, distinct, long);
      sorted = ap (λ (ps : List ℕ). insert ps i (o.number % 65536)) is.sorted ∙ (sym (inserted_places es i (o.key, o.number)) ∙ sym (ap places_of listed));
    }

not_first : (k : Key) (e : Entry) (es : List Entry) → entry_list.find key_cmp k (e ∷ es) ≡ None → eq_by_cmp key_cmp k e.0 ≡ false
not_first k e es none = (elim (eq_by_cmp key_cmp k e.0) as (λ b. cond b (Some e.1) (entry_list.find key_cmp k es) ≡ None → b ≡ false) [ true ↦ λ is. absurd (cc is) | false ↦ λ is. refl ]) none

not_later : (k : Key) (e : Entry) (es : List Entry) → entry_list.find key_cmp k (e ∷ es) ≡ None → entry_list.find key_cmp k es ≡ None
not_later k e es none = sym (ap (λ (b : Bool). cond b (Some e.1) (entry_list.find key_cmp k es)) (not_first k e es none)) ∙ none

not_there : (k : Key) (es : List Entry) (i : ℕ) → entry_list.find key_cmp k es ≡ None → slice_get (map (λ e. e.0) es) i ≡ Some k → ⊥
not_there k [] i none is = cc is
not_there k (e ∷ es) zero none is = let same : e.0 ≡ k = cc is in let other = not_first k e es none in cc (other, ap (eq_by_cmp key_cmp k) same, itself k)
not_there k (e ∷ es) (suc i) none is = not_there k es i (not_later k e es none) is

first_taken : (k : Key) (n : ℕ) (es : List Entry) (i : ℕ) → entry_list.find key_cmp k es ≡ None → slice_get (map (λ e. e.0) ((k, n) ∷ es)) i ≡ Some k → remove ((k, n) ∷ es) i ≡ es
first_taken k n es zero none is = refl
first_taken k n es (suc i) none is = absurd (not_there k es i none is)

-- if an entry with a new key is inserted and then removed, the list of entries is the same as
-- before
taken_out : (k : Key) (n : ℕ) (es : List Entry) (i : ℕ) → entry_list.find key_cmp k es ≡ None → slice_get (map (λ e. e.0) (entry_list.put key_cmp k n es)) i ≡ Some k → remove (entry_list.put key_cmp k n es) i ≡ es
taken_out k n [] zero none is = refl
taken_out k n [] (suc i) none is = absurd (cc is)
taken_out k n (e ∷ es) i none is =
    let later : (j : ℕ) → slice_get (map (λ x. x.0) (e ∷ entry_list.put key_cmp k n es)) j ≡ Some k → remove (e ∷ entry_list.put key_cmp k n es) j ≡ e ∷ es = λ j. elim j as (λ (m : ℕ). slice_get (map (λ x. x.0) (e ∷ entry_list.put key_cmp k n es)) m ≡ Some k → remove (e ∷ entry_list.put key_cmp k n es) m ≡ e ∷ es) [
      | zero ↦ λ at_m. let same : e.0 ≡ k = cc at_m in let other = not_first k e es none in absurd (cc (other, ap (eq_by_cmp key_cmp k) same, itself k))
      | suc m ↦ λ at_m. ap (λ (l : List Entry). e ∷ l) (taken_out k n es m (not_later k e es none) at_m)
    ] in
    (elim (key_cmp k e.0) as (λ r. key_cmp k e.0 ≡ r → slice_get (map (λ x. x.0) (entry_list.by_order r ((k, n) ∷ e ∷ es) ((e.0, n) ∷ es) (e ∷ entry_list.put key_cmp k n es))) i ≡ Some k → remove (entry_list.by_order r ((k, n) ∷ e ∷ es) ((e.0, n) ∷ es) (e ∷ entry_list.put key_cmp k n es)) i ≡ e ∷ es) [
      | Less ↦ λ r. first_taken k n (e ∷ es) i none
      | Equal ↦ λ r at_i. let other = not_first k e es none in absurd (cc (other, ap is_eq r))
      | Greater ↦ λ r at_i. later i at_i
    ]) refl is

removed_places : (es : List Entry) (i : ℕ) → map place_of (map (λ x. x.1) (remove es i)) ≡ remove (map place_of (map (λ x. x.1) es)) i
removed_places [] zero = refl
removed_places [] (suc i) = refl
removed_places (x ∷ es) zero = refl
removed_places (x ∷ es) (suc i) = ap (λ (l : List ℕ). x.1 % 65536 ∷ l) (removed_places es i)

not_among : (b : Bool) (n m : ℕ) → n ≤ m → cond b n (n + 1) ≡ suc m → (b ≡ false) × (n ≡ m)
not_among true n m le is = absurd (omega (arith, le, is))
not_among false n m le is = (refl, omega (arith, is))

missing : (x : Option ℕ) → is_some x ≡ false → x ≡ None
missing None e = refl
missing (Some n) e = absurd (cc e)

-- if the oldest request is removed, the index without the place of its key is right
pub popped : (o : Opened) (os : List Opened) (places : List ℕ) (i : ℕ) → IsIndex (o ∷ os) places → slice_get (keys (by_key (o ∷ os))) i ≡ Some o.key → IsIndex os (remove places i)
popped o os places i is at_i =
    let m = by_key os in
    let es = entries m in
    let one = not_among (contains_key m o.key) (len m) (length os) (keys_few os) (sym (len-insert key_total m o.key o.number) ∙ is.distinct) in
    let none : entry_list.find key_cmp o.key es ≡ None = sym (get-entries m o.key) ∙ missing (get m o.key) one.0 in
    let listed : entries (by_key (o ∷ os)) ≡ entry_list.put key_cmp o.key o.number es = entries-insert key_total m o.key o.number in
    let places_of : List Entry → List ℕ = λ l. map place_of (map (λ (e : Entry). e.1) l) in
    let there : slice_get (map (λ (e : Entry). e.0) (entry_list.put key_cmp o.key o.number es)) i ≡ Some o.key = ap (λ (l : List Entry). slice_get (map (λ (e : Entry). e.0) l) i) (sym listed) ∙ at_i in
    record {
      distinct = one.1;
      sorted = ap (λ (ps : List ℕ). remove ps i) (is.sorted ∙ ap places_of listed) ∙ (sym (removed_places (entry_list.put key_cmp o.key o.number es) i) ∙ ap places_of (taken_out o.key o.number es i none there));
    }

popped_front : (os : List Opened) (places : List ℕ) (i : ℕ) (k : Key) → option_map (λ o. o.key) (slice_get os 0) ≡ Some k → IsIndex os places → slice_get (keys (by_key os)) i ≡ Some k → IsIndex (drop 1 os) (remove places i)
popped_front [] places i k front is at_i = absurd (cc front)
popped_front (o ∷ os) places i k front is at_i = let same : k ≡ o.key = cc front in popped o os places i is (at_i ∙ ap (λ (x : Key). Some x) same)

pub front_found : (os : List Opened) (k : Key) (i : ℕ) → option_map (λ o. o.key) (slice_get os 0) ≡ Some k → IsGap (keys (by_key os)) k i → ⊥
front_found [] k i front gap = cc front
front_found (o ∷ os) k i front gap =
    let same : o.key ≡ k = cc front in
    let none = none_found (o ∷ os) k i gap in
    let first : has_key k o ≡ true = ap (eq_by_cmp key_cmp k) same ∙ itself k in
    let some : find (has_key k) (o ∷ os) ≡ Some o = ap (λ (b : Bool). cond b (Some o) (find (has_key k) os)) first in
    cc (some, none)

-- if the oldest request is removed from the ring and from the index, both agree
pub are_popped : (ring rest : Buffer Opened) (index fewer : Vec ℕ) (i : ℕ) (k : Key) → AreRequests ring index → option_map (λ o. o.key) (slice_get ring.items 0) ≡ Some k → slice_get (keys (by_key ring.items)) i ≡ Some k
    → rest ≡ buffer (drop 1 ring.items) ring.capacity → fewer.items ≡ remove index.items i → vec_capacity fewer ≡ vec_capacity index → AreRequests rest fewer
are_popped ring rest index fewer i k are front at_i is removed same =
    let items : rest.items ≡ drop 1 ring.items = ap (λ (b : Buffer Opened). b.items) is in
    let shorter : length rest.items ≡ length (drop 1 ring.items) = ap length items in
    let long = length-drop 1 ring.items in
    let few = are.few in
    let most = are.capacity in
    let capacity : rest.capacity ≡ ring.capacity = ap (λ (b : Buffer Opened). b.capacity) is in
    let room = are.room in
    record {
      capacity = omega (arith, capacity, most);
      few = omega (arith, shorter, long, few, capacity);
      order = subst InOrder (sym items) (next_in_order ring.items are.order);
      room = omega (arith, room, same, capacity);
      is_index = subst (λ (os : List Opened). IsIndex os fewer.items) (sym items) (subst (IsIndex (drop 1 ring.items)) (sym removed) (popped_front ring.items index.items i k front are.is_index at_i));
    }

no_entries : (es : List Entry) → length es ≡ 0 → [] ≡ map place_of (map (λ (e : Entry). e.1) es)
no_entries [] none = refl
no_entries (e ∷ es) none = absurd (omega (arith, none))

-- an empty ring and an empty index agree
pub none_indexed : (n : ℕ) (ring : Buffer Opened) (index : Vec ℕ) → n ≤ 65536 → ring ≡ buffer [] n → index.items ≡ [] → n ≤ vec_capacity index → AreRequests ring index
none_indexed n ring index most is none room =
    let items : ring.items ≡ [] = ap (λ (b : Buffer Opened). b.items) is in
    let empty : length ring.items ≡ 0 = ap length items in
    let capacity : ring.capacity ≡ n = ap (λ (b : Buffer Opened). b.capacity) is in
    record {
      capacity = omega (arith, capacity, most);
      few = omega (arith, empty);
      order = subst InOrder (sym items) (record { first = 0; now = 0; order = tt });
      room = omega (arith, room, capacity);
      is_index = subst (λ (os : List Opened). IsIndex os index.items) (sym items) (record { distinct = len-empty key_cmp ℕ; sorted = none ∙ no_entries (entries (by_key [])) (sym (len-entries (by_key [])) ∙ len-empty key_cmp ℕ) });
    }

-- if a request with a new key is added to the ring and to the index, both agree
pub are_pushed : (ring more : Buffer Opened) (index longer : Vec ℕ) (o : Opened) (i : ℕ) → AreRequests ring index → length ring.items < ring.capacity → find (has_key o.key) ring.items ≡ None → InOrder (ring.items ++ o ∷ []) → IsGap (keys (by_key ring.items)) o.key i
    → more ≡ buffer (keep_last ring.capacity (ring.items ++ o ∷ [])) ring.capacity → longer.items ≡ insert index.items i (o.number % 65536) → vec_capacity index ≤ vec_capacity longer → AreRequests more longer
are_pushed ring more index longer o i are few new order gap is added roomy =
    let long = length-append ring.items (o ∷ []) in
    let most = are.capacity in
    let capacity : more.capacity ≡ ring.capacity = ap (λ (b : Buffer Opened). b.capacity) is in
    let room = are.room in
    let items : more.items ≡ ring.items ++ o ∷ [] = ap (λ (b : Buffer Opened). b.items) is ∙ keeps_all ring.capacity (ring.items ++ o ∷ []) (omega (arith, long, few)) in
    let longer_ring : length more.items ≡ length (ring.items ++ o ∷ []) = ap length items in
    record {
      capacity = omega (arith, capacity, most);
      few = omega (arith, longer_ring, long, few, capacity);
      order = subst InOrder (sym items) order;
      room = omega (arith, room, roomy, capacity);
      is_index = subst (λ (os : List Opened). IsIndex os longer.items) (sym items) (subst (IsIndex (ring.items ++ o ∷ [])) (sym added) (pushed ring.items index.items o i are.is_index new gap));
    }
