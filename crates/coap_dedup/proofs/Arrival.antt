-- Properties that a ring in order of arrival keeps.
use Rattle.std.proofs.Common.{◌≡◌, ℕ, ◌+◌, ◌<◌, ◌≤◌, List, [], ◌∷◌, ◌++◌, length, map, drop, suc, Bool, true, false, cond, Some, None, refl, sym, ap, ◌∙◌, subst, ⊎_elim, arith, length-append}
use Rattle.std.specs.Prelude.{filter, slice_get}
use Rattle.std.proofs.lemmas.Bool.{cases_lt, lt-ltb, le-ltb, ltb-true}
use Rattle.coap_dedup.specs.declared.exchange.StoredResponse.{StoredResponse}
use Rattle.coap_dedup.specs.declared.exchange.Opened.{Opened}
use Rattle.coap_dedup.specs.Exchanges.{Exchange, is_live}
use Rattle.coap_dedup.specs.Views.{Arrives, IsArrived, InOrder, as_exchange, request_is_live}

-- ---- expired requests

-- the first is live, so all are
all_live : (number since now at : ℕ) (os : List Opened) → Arrives number since now os → at < since + 247000 → filter (request_is_live at) os ≡ os
all_live number since now at [] a lt = refl
all_live number since now at (o ∷ os) a lt =
    let le = a.1 in
    let live : request_is_live at o ≡ true = lt-ltb at (o.at + 247000) (omega (arith, le, lt)) in
    ap (λ (b : Bool). cond b (o ∷ filter (request_is_live at) os) (filter (request_is_live at) os)) live ∙ ap (λ (l : List Opened). o ∷ l) (all_live (number + 1) o.at now at os a.3 (omega (arith, le, lt)))

live_from : (number since now at : ℕ) (o : Opened) (os : List Opened) → Arrives number since now (o ∷ os) → request_is_live at o ≡ true → filter (request_is_live at) (o ∷ os) ≡ o ∷ os
live_from number since now at o os a live =
    ap (λ (b : Bool). cond b (o ∷ filter (request_is_live at) os) (filter (request_is_live at) os)) live ∙ ap (λ (l : List Opened). o ∷ l) (all_live (number + 1) o.at now at os a.3 (ltb-true at (o.at + 247000) live))

dead_from : (at : ℕ) (o : Opened) (os : List Opened) → request_is_live at o ≡ false → filter (request_is_live at) (o ∷ os) ≡ filter (request_is_live at) os
dead_from at o os dead = ap (λ (b : Bool). cond b (o ∷ filter (request_is_live at) os) (filter (request_is_live at) os)) dead

-- the same for a ring, from its front
pub live_front : (at : ℕ) (os : List Opened) (o : Opened) → InOrder os → slice_get os 0 ≡ Some o → request_is_live at o ≡ true → filter (request_is_live at) os ≡ os
live_front at [] o a front live = refl
live_front at (x ∷ os) o a front live = let same : x ≡ o = cc front in live_from a.first 0 a.now at x os a.order (ap (request_is_live at) same ∙ live)

pub dead_front : (at : ℕ) (os : List Opened) (o : Opened) → slice_get os 0 ≡ Some o → request_is_live at o ≡ false → filter (request_is_live at) (drop 1 os) ≡ filter (request_is_live at) os
dead_front at [] o front dead = refl
dead_front at (x ∷ os) o front dead = let same : x ≡ o = cc front in sym (dead_from at x os (ap (request_is_live at) same ∙ dead))

pub no_front : (at : ℕ) (os : List Opened) → slice_get os 0 ≡ None → filter (request_is_live at) os ≡ os
no_front at [] none = refl
no_front at (o ∷ os) none = absurd (cc none)

-- ---- the order

from_zero : (number since now : ℕ) (os : List Opened) → Arrives number since now os → Arrives number 0 now os
from_zero number since now [] a = tt
from_zero number since now (o ∷ os) a = (a.0, omega arith, a.2, a.3)

pub next_in_order : (os : List Opened) → InOrder os → InOrder (drop 1 os)
next_in_order [] a = a
next_in_order (o ∷ os) a = record { first = a.first + 1; now = a.now; order = from_zero (a.first + 1) o.at a.now os a.order.3 }

later : (number since now at : ℕ) (os : List Opened) → now ≤ at → Arrives number since now os → Arrives number since at os
later number since now at [] le a = tt
later number since now at (o ∷ os) le a = let b = a.2 in (a.0, a.1, omega (arith, b, le), later (number + 1) o.at now at os le a.3)

-- the expired requests are the first of the list
record IsCut (first at : ℕ) (os : List Opened) : Type 0 where
  gone : ℕ
  order : Arrives (first + gone) 0 at (filter (request_is_live at) os)
  count : length os ≡ gone + length (filter (request_is_live at) os)

cut : (first since now at : ℕ) (os : List Opened) → now ≤ at → Arrives first since now os → IsCut first at os
cut first since now at [] le a = record { gone = 0; order = tt; count = refl }
cut first since now at (o ∷ os) le a = ⊎_elim
    (λ (lt : at < o.at + 247000).
    let same = live_from first since now at o os a (lt-ltb at (o.at + 247000) lt) in
    let order : Arrives first 0 at (o ∷ os) = from_zero first since at (o ∷ os) (later first since now at (o ∷ os) le a) in
    record {
      gone = 0;
      order = subst (λ (l : List Opened). Arrives (first + 0) 0 at l) (sym same) (subst (λ (n : ℕ). Arrives n 0 at (o ∷ os)) (omega arith) order);
      count = let long : length (filter (request_is_live at) (o ∷ os)) ≡ length (o ∷ os) = ap length same in omega (arith, long);
    })
    (λ (ge : o.at + 247000 ≤ at).
    let same = dead_from at o os (le-ltb at (o.at + 247000) ge) in
    let c = cut (first + 1) o.at now at os le a.3 in
    let count = c.count in
    let fewer : length (filter (request_is_live at) (o ∷ os)) ≡ length (filter (request_is_live at) os) = ap length same in
    record {
      gone = c.gone + 1;
      order = subst (λ (l : List Opened). Arrives (first + (c.gone + 1)) 0 at l) (sym same) (subst (λ (n : ℕ). Arrives n 0 at (filter (request_is_live at) os)) (omega arith) c.order);
      count = omega (arith, count, fewer);
    })
    (cases_lt at (o.at + 247000))

pub expired_arrived : (opened now at : ℕ) (os : List Opened) → now ≤ at → IsArrived now opened os → IsArrived at opened (filter (request_is_live at) os)
expired_arrived opened now at os le a =
    let c = cut a.first 0 now at os le a.order in
    let count = a.count in
    let few = c.count in
    record { first = a.first + c.gone; order = c.order; count = omega (arith, count, few) }

pub fewer : (opened now at : ℕ) (os : List Opened) → now ≤ at → IsArrived now opened os → length (filter (request_is_live at) os) ≤ length os
fewer opened now at os le a = let c = (cut a.first 0 now at os le a.order).count in omega (arith, c)

-- one more request, opened now
more : (number since now at : ℕ) (os : List Opened) (o : Opened) → now ≤ at → since ≤ at → o.number ≡ number + length os → o.at ≡ at → Arrives number since now os → Arrives number since at (os ++ o ∷ [])
more number since now at [] o le low n m a = (n ∙ omega arith, omega (arith, m, low), omega (arith, m), tt)
more number since now at (x ∷ os) o le low n m a = let b = a.2 in (a.0, a.1, omega (arith, b, le), more (number + 1) x.at now at os o le (omega (arith, b, le)) (n ∙ omega arith) m a.3)

pub opened_arrived : (opened now at : ℕ) (os : List Opened) (o : Opened) → now ≤ at → o.number ≡ opened → o.at ≡ at → IsArrived now opened os → IsArrived at (opened + 1) (os ++ o ∷ [])
opened_arrived opened now at os o le n m a =
    let count = a.count in
    let long = length-append os (o ∷ []) in
    record { first = a.first; order = more a.first 0 now at os o le (omega arith) (n ∙ count) m a.order; count = omega (arith, count, long) }

-- ---- the view in contracts

seen_if : (kept : List StoredResponse) (b : Bool) (o : Opened) (os : List Opened) → map (as_exchange kept) (cond b (o ∷ os) os) ≡ cond b (as_exchange kept o ∷ map (as_exchange kept) os) (map (as_exchange kept) os)
seen_if kept true o os = refl
seen_if kept false o os = refl

pub filter_seen : (kept : List StoredResponse) (at : ℕ) (os : List Opened) → map (as_exchange kept) (filter (request_is_live at) os) ≡ filter (is_live at) (map (as_exchange kept) os)
filter_seen kept at [] = refl
filter_seen kept at (o ∷ os) =
    seen_if kept (request_is_live at o) o (filter (request_is_live at) os) ∙ ap (λ (l : List Exchange). cond (request_is_live at o) (as_exchange kept o ∷ l) l) (filter_seen kept at os)

-- as many requests are live as exchanges.
pub live_seen : (kept : List StoredResponse) (at : ℕ) (os : List Opened) → length (filter (is_live at) (map (as_exchange kept) os)) ≡ length (filter (request_is_live at) os)
live_seen kept at [] = refl
live_seen kept at (o ∷ os) = elim (request_is_live at o) as (λ b. length (cond b (as_exchange kept o ∷ filter (is_live at) (map (as_exchange kept) os)) (filter (is_live at) (map (as_exchange kept) os))) ≡ length (cond b (o ∷ filter (request_is_live at) os) (filter (request_is_live at) os))) [
  | true ↦ ap suc (live_seen kept at os)
  | false ↦ live_seen kept at os
]
