-- The search for a stored request by its key.
use Rattle.std.specs.Prelude.{◌≡◌, ℕ, zero, suc, ◌-◌, ◌/◌, ◌<◌, ◌≤◌, ◌%◌, Bool, List, length, map, slice_get, Option, Some, IfSome}
use Rattle.std.specs.Ordering.{eq_by_cmp}
use Rattle.std.specs.declared.cmp.Ordering.TheVariants.{Less, Greater}
use Rattle.std.specs.FinMap.{FinMap, from_entries, keys, len, values}
use Rattle.std.specs.Global.{Vec}
use Rattle.std.specs.Vec.{vec_capacity}
use Rattle.circular_buffer.specs.Buffer.{Buffer}
use Rattle.coap_dedup.specs.declared.exchange.Opened.{Opened}
use Rattle.coap_dedup.specs.declared.key.Key.{Key}
use Rattle.coap_dedup.specs.declared.requests.InsertHint.{InsertHint}
use Rattle.coap_dedup.specs.Keys.{first_key, key_cmp}
use Rattle.coap_dedup.specs.Views.{InOrder}

-- the request has this key.
abbrev pub has_key : Key → Opened → Bool
has_key k o = eq_by_cmp key_cmp k o.key

-- the map from each request's key to the request's number.
abbrev pub by_key : List Opened → FinMap key_cmp ℕ
by_key os = from_entries (map (λ o. (o.key, o.number)) os)

-- `places` are the places of these requests in the order of their keys, which are distinct.
pub record IsIndex (os : List Opened) (places : List ℕ) : Type 0 where
  pub distinct : len (by_key os) ≡ length os
  pub sorted : places ≡ map (λ n. n % 65536) (values (by_key os))

-- the ring has requests in order of arrival, at most 65,536, and the index is that of these
-- requests. The index has room for as many places as the ring.
pub record AreRequests (ring : Buffer Opened) (index : Vec ℕ) : Type 0 where
  pub capacity : ring.capacity ≤ 65536
  pub few : length ring.items ≤ ring.capacity
  pub order : InOrder ring.items
  pub room : ring.capacity ≤ vec_capacity index
  pub is_index : IsIndex ring.items index.items

-- the greatest number of keys left to compare after this number of comparisons, if `most` keys were
-- left at first. Each comparison halves the number.
abbrev pub left_after : ℕ → ℕ → ℕ
left_after most zero = most
left_after most (suc n) = left_after most n / 2

-- the keys before place `i` are less than the key.
abbrev pub AreBelow : List Key → Key → ℕ → Type 0
AreBelow ks k i = (j : ℕ) (x : Key) → j < i → slice_get ks j ≡ Some x → key_cmp x k ≡ Less

-- the keys from place `i` on are greater than the key.
abbrev pub AreAbove : List Key → Key → ℕ → Type 0
AreAbove ks k i = (j : ℕ) (x : Key) → i ≤ j → slice_get ks j ≡ Some x → key_cmp x k ≡ Greater

-- place `i` is the key's insertion point: the keys before it are less, and those from it on
-- greater.
pub record IsGap (ks : List Key) (k : Key) (i : ℕ) : Type 0 where
  pub within : i ≤ length ks
  pub below : AreBelow ks k i
  pub above : AreAbove ks k i

-- the key's insertion point lies between place `low` and place `high`, or is one of the two. There
-- are at most 65,536 keys, and at least one of them isn't between these places.
pub record LiesBetween (ks : List Key) (k : Key) (low high : ℕ) : Type 0 where
  pub below : AreBelow ks k low
  pub above : AreAbove ks k high
  pub order : low ≤ high
  pub within : high ≤ length ks
  pub fewer : high - low < length ks
  pub few : length ks ≤ 65536

-- the keys of an address begin, or would begin, at this place. The keys before this place are less
-- than each key of the address, and the keys from this place on aren't.
pub record IsStart (ip : List ℕ) (ks : List Key) (i : ℕ) : Type 0 where
  pub within : i ≤ length ks
  pub below : (j : ℕ) (x : Key) → j < i → slice_get ks j ≡ Some x → x.number < (first_key ip).number
  pub above : (j : ℕ) (x : Key) → i ≤ j → slice_get ks j ≡ Some x → (first_key ip).number ≤ x.number

-- the cached insertion point, if any, is right for its key.
abbrev pub HasGap : List Opened → Option InsertHint → Type 0
HasGap os gap = IfSome gap (λ g. IsGap (keys (by_key os)) g.key g.index)

-- the oldest request, if there is one, has this number.
abbrev pub IsOldest : List Opened → ℕ → Type 0
IsOldest os number = (o : Opened) → slice_get os 0 ≡ Some o → number ≡ o.number
