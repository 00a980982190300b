-- The place of an exchange, and the effect of a response stored there.
use Rattle.std.proofs.Common.{◌≡◌, ℕ, zero, suc, ◌+◌, ◌-◌, ◌/◌, ◌%◌, ◌<◌, ◌≤◌, List, [], ◌∷◌, ◌++◌, length, map, drop, set, Bool, true, false, cond, Option, Some, None, refl, sym, ap, ◌∙◌, ⊎_elim, arith, length-set}
use Rattle.std.specs.Prelude.{filter, find, nat_lt, slice_get, slice_index_or, ◌==◌, ◌&&◌, ◌||◌}
use Rattle.std.specs.List.{list_any}
use Rattle.std.proofs.lemmas.List.{get_or-set_other, map-append}
use Rattle.std.proofs.lemmas.Grind.{get_or-set_at}
use Rattle.std.proofs.lemmas.Option.{slice_get_within}
use Rattle.std.proofs.lemmas.Bool.{cases_eq, cases_lt, ne_eqb, eq-eqb, ltb-true}
use Rattle.std.proofs.lemmas.Nat.{mod_below}
use Rattle.std.proofs.Math.Nat.{div-add-mod, mul-le-mul_left, mul-suc}
use Rattle.circular_buffer.specs.Buffer.{keep_last}
use Rattle.arrayvec.specs.ArrayVec.{ArrayVec}
use Rattle.coap_msg.specs.declared.types.Endpoint.{Endpoint}
use Rattle.coap_dedup.specs.declared.exchange.StoredResponse.{StoredResponse}
use Rattle.coap_dedup.specs.declared.exchange.Opened.{Opened}
use Rattle.coap_dedup.specs.Exchanges.{Exchange, IsNew, Look, Table, answered_if, has_place, has_share, is_at, is_of, look_by, new_by, places_of, repeated_by, room_at, room_by, share_of}
use Rattle.coap_dedup.specs.declared.exchanges.Room.{Room}
use Rattle.coap_dedup.specs.Calls.{answered, is_open}
use Rattle.coap_dedup.specs.Keys.{IsPeer, key_of}
use Rattle.coap_dedup.specs.Requests.{has_key}
use Rattle.coap_dedup.specs.Views.{Arrives, IsArrived, IsGone, IsNumbered, answer_if, as_exchange, is_from, is_of_address, request_is_live, kept_at, no_answer, with_answer}
use Rattle.std.proofs.lemmas.Cmp.{eq_by_cmp_equiv}
use Rattle.coap_dedup.proofs.Keys.{key_total, same_key}

-- numbers that differ by less than the number of places have different places
apart : (n p q : ℕ) → q < p → p < q + n → q % n ≡ p % n → ⊥
apart n p q lt near e =
    let at_p = div-add-mod p n in
    let at_q = div-add-mod q n in
    ⊎_elim
    (λ (less : q / n < p / n). let one : suc (q / n) ≤ p / n = omega (arith, less) in let more = mul-le-mul_left n one in let split = mul-suc n (q / n) in omega (arith, near, e, at_p, at_q, more, split))
    (λ (le : p / n ≤ q / n). let more = mul-le-mul_left n le in omega (arith, lt, e, at_p, at_q, more))
    (cases_lt (q / n) (p / n))

-- after a write, an exchange has what is then at its number modulo the same number of places
written_at : (kept : List StoredResponse) (i : ℕ) (k : StoredResponse) (o : Opened) → as_exchange (set kept i k) o ≡ with_answer (slice_index_or (set kept i k) (o.number % length kept) no_answer) o
written_at kept i k o = ap (λ (n : ℕ). with_answer (slice_index_or (set kept i k) (o.number % n) no_answer) o) (length-set kept i k)

-- a write at one place doesn't change the exchange of a request with another place
elsewhere : (kept : List StoredResponse) (p : ℕ) (k : StoredResponse) (o : Opened) → (o.number % length kept ≡ p % length kept → ⊥) → as_exchange (set kept (p % length kept) k) o ≡ as_exchange kept o
elsewhere kept p k o ne = written_at kept (p % length kept) k o ∙ ap (λ (x : StoredResponse). with_answer x o) (get_or-set_other kept (p % length kept) (o.number % length kept) k no_answer ne)

pub all_after : (number since now p : ℕ) (kept : List StoredResponse) (k : StoredResponse) (os : List Opened) → p < number → number + length os ≤ p + length kept → Arrives number since now os → map (as_exchange (set kept (p % length kept) k)) os ≡ map (as_exchange kept) os
all_after number since now p kept k [] lt near a = refl
all_after number since now p kept k (o ∷ os) lt near a =
    let is = a.0 in
    λ i. elsewhere kept p k o (λ e. apart (length kept) o.number p (omega (arith, is, lt)) (omega (arith, is, near)) (sym e)) i
    ∷ all_after (number + 1) o.at now p kept k os (omega (arith, lt)) (omega (arith, near)) a.3 i

pub all_before : (number since now p : ℕ) (kept : List StoredResponse) (k : StoredResponse) (os : List Opened) → number + length os ≤ p → p < number + length kept → Arrives number since now os → map (as_exchange (set kept (p % length kept) k)) os ≡ map (as_exchange kept) os
all_before number since now p kept k [] lt near a = refl
all_before number since now p kept k (o ∷ os) lt near a =
    let is = a.0 in
    λ i. elsewhere kept p k o (apart (length kept) p o.number (omega (arith, is, lt)) (omega (arith, is, near))) i
    ∷ all_before (number + 1) o.at now p kept k os (omega (arith, lt)) (omega (arith, near)) a.3 i

-- ---- a response after the lifetime, or to no stored exchange

-- if the exchange with number `p` is in the list, it is past its lifetime
abbrev pub NoneLive : ℕ → ℕ → ℕ → List Opened → Type 0
NoneLive number at p os = (i : ℕ) (o : Opened) → slice_get os i ≡ Some o → p ≡ number + i → request_is_live at o ≡ false

or-true : (b : Bool) → (b || true) ≡ true
or-true true = refl
or-true false = refl

and-false : (b : Bool) → (b && false) ≡ false
and-false true = refl
and-false false = refl

head_closed : (number at p : ℕ) (kept : List StoredResponse) (o : Opened) (os : List Opened) → o.number ≡ number → NoneLive number at p (o ∷ os) → is_open at p (as_exchange kept o) ≡ false
head_closed number at p kept o os is none = ⊎_elim
    (λ (e : o.number ≡ p). ap (λ (b : Bool). (o.number == p) && b) (none 0 o refl (omega (arith, e, is))) ∙ and-false (o.number == p))
    (λ (ne : o.number ≡ p → ⊥). ap (λ (b : Bool). b && request_is_live at o) (ne_eqb o.number p ne))
    (cases_eq o.number p)

tail_closed : (number at p : ℕ) (o : Opened) (os : List Opened) → NoneLive number at p (o ∷ os) → NoneLive (number + 1) at p os
tail_closed number at p o os none i x found is = none (suc i) x found (omega (arith, is))

pub none_answered : (number since now at p : ℕ) (bytes : ArrayVec ℕ) (kept : List StoredResponse) (os : List Opened) → Arrives number since now os → NoneLive number at p os → map (answered at p bytes) (map (as_exchange kept) os) ≡ map (as_exchange kept) os
none_answered number since now at p bytes kept [] a none = refl
none_answered number since now at p bytes kept (o ∷ os) a none =
    λ i. answered_if (head_closed number at p kept o os a.0 none i) bytes (as_exchange kept o)
    ∷ none_answered (number + 1) o.at now at p bytes kept os a.3 (tail_closed number at p o os none) i

pub none_open : (number since now at p : ℕ) (kept : List StoredResponse) (os : List Opened) → Arrives number since now os → NoneLive number at p os → list_any (is_open at p) (map (as_exchange kept) os) ≡ false
none_open number since now at p kept [] a none = refl
none_open number since now at p kept (o ∷ os) a none =
    λ i. head_closed number at p kept o os a.0 none i || none_open (number + 1) o.at now at p kept os a.3 (tail_closed number at p o os none) i

pub none_held : (opened now at number : ℕ) (os : List Opened) → IsGone os opened number → (a : IsArrived now opened os) → NoneLive a.first at number os
none_held opened now at number os gone a i o found is =
    let count = a.count in
    let inside = slice_get_within os i o found in
    let past = gone (omega (arith, count, is, inside)) in
    absurd (omega (arith, count, is, past))

pub too_old : (opened now at number : ℕ) (os : List Opened) (o : Opened) → IsNumbered os opened number o → request_is_live at o ≡ false → (a : IsArrived now opened os) → NoneLive a.first at number os
too_old opened now at number os o numbered old a i x found is =
    let count = a.count in
    let inside = slice_get_within os i x found in
    let place : length os - (opened - number) ≡ i = omega (arith, count, is, inside) in
    let same : x ≡ o = cc (ap (slice_get os) place, numbered.place, found) in
    ap (request_is_live at) same ∙ old

pub numbered_from : (opened now number : ℕ) (os : List Opened) (o : Opened) → IsNumbered os opened number o → (a : IsArrived now opened os) → a.first + (length os - (opened - number)) ≡ number
numbered_from opened now number os o numbered a =
    let count = a.count in
    let before = numbered.before in
    let held = numbered.held in
    omega (arith, count, before, held)

-- ---- a response within the lifetime

head_open : (at p : ℕ) (kept : List StoredResponse) (o : Opened) → o.number ≡ p → request_is_live at o ≡ true → is_open at p (as_exchange kept o) ≡ true
head_open at p kept o is live = λ i. eq-eqb o.number p is i && live i

pub one_open : (number since now at i : ℕ) (kept : List StoredResponse) (os : List Opened) (o : Opened) → slice_get os i ≡ Some o → request_is_live at o ≡ true → Arrives number since now os → list_any (is_open at (number + i)) (map (as_exchange kept) os) ≡ true
one_open number since now at i kept [] o found live a = absurd (cc found)
one_open number since now at zero kept (x ∷ os) o found live a =
    let is = a.0 in
    let same : x ≡ o = cc found in
    ap (λ (b : Bool). b || list_any (is_open at (number + 0)) (map (as_exchange kept) os)) (head_open at (number + 0) kept x (omega (arith, is)) (ap (request_is_live at) same ∙ live))
one_open number since now at (suc i) kept (x ∷ os) o found live a =
    let place : number + suc i ≡ (number + 1) + i = omega arith in
    ap (λ (n : ℕ). is_open at n (as_exchange kept x) || list_any (is_open at n) (map (as_exchange kept) os)) place
    ∙ (ap (λ (b : Bool). is_open at ((number + 1) + i) (as_exchange kept x) || b) (one_open (number + 1) x.at now at i kept os o found live a.3) ∙ or-true (is_open at ((number + 1) + i) (as_exchange kept x)))

-- if a response is written at the place of a live request, that request's exchange has the response
head_written : (at p : ℕ) (kept : List StoredResponse) (bytes : ArrayVec ℕ) (o : Opened) → 0 < length kept → o.number ≡ p → request_is_live at o ≡ true → as_exchange (set kept (p % length kept) (record { answered = true; bytes = bytes })) o ≡ answered at p bytes (as_exchange kept o)
head_written at p kept bytes o some is live =
    let k : StoredResponse = record { answered = true; bytes = bytes } in
    written_at kept (p % length kept) k o
    ∙ ap (λ (x : StoredResponse). with_answer x o) (get_or-set_at kept (p % length kept) (o.number % length kept) k no_answer (ap (λ (n : ℕ). n % length kept) is) (mod_below p (length kept) some))
    ∙ ap (λ (b : Bool). answered_if b bytes (as_exchange kept o)) (sym (head_open at p kept o is live))

none_after : (number at p : ℕ) (os : List Opened) → p < number → NoneLive number at p os
none_after number at p os lt i o found is = absurd (omega (arith, lt, is))

pub one_answered : (number since now at i : ℕ) (kept : List StoredResponse) (bytes : ArrayVec ℕ) (os : List Opened) (o : Opened) → length os ≤ length kept → slice_get os i ≡ Some o → request_is_live at o ≡ true → Arrives number since now os → map (as_exchange (set kept ((number + i) % length kept) (record { answered = true; bytes = bytes }))) os ≡ map (answered at (number + i) bytes) (map (as_exchange kept) os)
one_answered number since now at i kept bytes [] o few found live a = absurd (cc found)
one_answered number since now at zero kept bytes (x ∷ os) o few found live a =
    let is = a.0 in
    let same : x ≡ o = cc found in
    let p : ℕ = number + 0 in
    let k : StoredResponse = record { answered = true; bytes = bytes } in
    let rest = all_after (number + 1) x.at now p kept k os (omega arith) (omega (arith, few)) a.3 ∙ sym (none_answered (number + 1) x.at now at p bytes kept os a.3 (none_after (number + 1) at p os (omega arith))) in
    λ j. head_written at p kept bytes x (omega (arith, few)) (omega (arith, is)) (ap (request_is_live at) same ∙ live) j ∷ rest j
one_answered number since now at (suc i) kept bytes (x ∷ os) o few found live a =
    let is = a.0 in
    let inside = slice_get_within os i o found in
    let place : (number + 1) + i ≡ number + suc i = omega arith in
    let k : StoredResponse = record { answered = true; bytes = bytes } in
    let head = elsewhere kept (number + suc i) k x (apart (length kept) (number + suc i) x.number (omega (arith, is)) (omega (arith, is, few, inside))) in
    let other : (x.number == (number + suc i)) ≡ false = ne_eqb x.number (number + suc i) (λ q. absurd (omega (arith, is, q))) in
    let rest = ap (λ (n : ℕ). map (as_exchange (set kept (n % length kept) k)) os) (sym place) ∙ (one_answered (number + 1) x.at now at i kept bytes os o (omega (arith, few)) found live a.3 ∙ ap (λ (n : ℕ). map (answered at n bytes) (map (as_exchange kept) os)) place) in
    λ j. (head ∙ ap (λ (b : Bool). answered_if (b && request_is_live at x) bytes (as_exchange kept x)) (sym other)) j ∷ rest j

-- ---- a request with an endpoint and a message ID

-- the view and the ring have the same number of requests of an address
pub share_seen : (kept : List StoredResponse) (ip : List ℕ) (os : List Opened) → share_of ip (map (as_exchange kept) os) ≡ length (filter (is_of_address ip) os)
share_seen kept ip [] = refl
share_seen kept ip (o ∷ os) = elim (is_of_address ip o) as (λ b. length (cond b (as_exchange kept o ∷ filter (is_at ip) (map (as_exchange kept) os)) (filter (is_at ip) (map (as_exchange kept) os))) ≡ length (cond b (o ∷ filter (is_of_address ip) os) (filter (is_of_address ip) os))) [
  | true ↦ ap suc (share_seen kept ip os)
  | false ↦ share_seen kept ip os
]

pub few_of : (ip : List ℕ) (os : List Opened) → length (filter (is_of_address ip) os) ≤ length os
few_of ip [] = omega arith
few_of ip (o ∷ os) = let few = few_of ip os in elim (is_of_address ip o) as (λ b. length (cond b (o ∷ filter (is_of_address ip) os) (filter (is_of_address ip) os)) ≤ suc (length os)) [ true ↦ omega (arith, few) | false ↦ omega (arith, few) ]

-- a search for the key of an endpoint and a message ID finds the request that has both
pub found_key : (to : Endpoint) (id : ℕ) (os : List Opened) → IsPeer to id → find (has_key (key_of to id)) os ≡ find (is_from to id) os
found_key to id os w = λ i. find (λ o. ((eq_by_cmp_equiv key_total).symm (key_of to id) o.key ∙ sym (same_key to id o.key w)) i) os

abbrev pub found_look : List StoredResponse → Option Opened → Room → Look
found_look kept (Some o) room = repeated_by o.confirmable (answer_if (kept_at kept o.number).answered (kept_at kept o.number).bytes)
found_look kept None room = new_by room

look_step : (kept : List StoredResponse) (b : Bool) (o : Opened) (seen : Option Exchange) (found : Option Opened) (room : Room) → look_by seen room ≡ found_look kept found room → look_by (cond b (Some (as_exchange kept o)) seen) room ≡ found_look kept (cond b (Some o) found) room
look_step kept true o seen found room rest = refl
look_step kept false o seen found room rest = rest

pub look_seen : (kept : List StoredResponse) (to : Endpoint) (id : ℕ) (room : Room) (os : List Opened) → look_by (find (is_of to id) (map (as_exchange kept) os)) room ≡ found_look kept (find (is_from to id) os) room
look_seen kept to id room [] = refl
look_seen kept to id room (o ∷ os) = look_step kept (is_from to id o) o _ _ room (look_seen kept to id room os)

-- ---- a new request

not_again : (confirmable : Bool) (answer : Option (ArrayVec ℕ)) → repeated_by confirmable answer ≡ IsNew → ⊥
not_again confirmable None new = cc new
not_again true (Some bytes) new = cc new
not_again false (Some bytes) new = cc new

not_found : (kept : List StoredResponse) (found : Option Opened) (room : Room) → found_look kept found room ≡ IsNew → found ≡ None
not_found kept None room new = refl
not_found kept (Some o) room new = absurd (not_again o.confirmable (answer_if (kept_at kept o.number).answered (kept_at kept o.number).bytes) new)

place_in_room : (share place : Bool) → new_by (room_by share place) ≡ IsNew → place ≡ true
place_in_room false place new = absurd (cc new)
place_in_room true true new = refl
place_in_room true false new = absurd (cc new)

-- if a request is new, no stored request has its key
pub new_key : (kept : List StoredResponse) (to : Endpoint) (id : ℕ) (room : Room) (os : List Opened) → IsPeer to id → look_by (find (is_of to id) (map (as_exchange kept) os)) room ≡ IsNew → find (has_key (key_of to id)) os ≡ None
new_key kept to id room os w new = found_key to id os w ∙ not_found kept (find (is_from to id) os) room (sym (look_seen kept to id room os) ∙ new)

first_of : (b c : Bool) → (b && c) ≡ true → b ≡ true
first_of true c both = refl
first_of false c both = absurd (cc both)

pub has_space : (found : Option Exchange) (t : Table) (ip : List ℕ) → look_by found (room_at t ip) ≡ IsNew → length t.held < places_of t.limits
has_space None t ip new = ltb-true (length t.held) (places_of t.limits) (first_of (nat_lt (length t.held) (places_of t.limits)) (nat_lt t.opened 18446744073709551615) (place_in_room (has_share t ip) (has_place t) new))
has_space (Some e) t ip new = absurd (not_again e.confirmable e.answer new)

pub keeps_all : {X : Type 0} (n : ℕ) (xs : List X) → length xs ≤ n → keep_last n xs ≡ xs
keeps_all n xs le = let none : length xs - n ≡ 0 = omega (arith, le) in ap (λ (k : ℕ). drop k xs) none

-- if a new request is added to the ring, the view has it as the last exchange, without a response
pub opened_last : (first now p : ℕ) (kept : List StoredResponse) (bytes : ArrayVec ℕ) (os : List Opened) (o : Opened) → p ≡ first + length os → length os < length kept → o.number ≡ p → Arrives first 0 now os →
    map (as_exchange (set kept (p % length kept) (record { answered = false; bytes = bytes }))) (os ++ o ∷ []) ≡ map (as_exchange kept) os ++ with_answer no_answer o ∷ []
opened_last first now p kept bytes os o count few is a =
    let k : StoredResponse = record { answered = false; bytes = bytes } in
    let low : p % length kept < length kept = mod_below p (length kept) (omega (arith, few)) in
    let before = all_before first 0 now p kept k os (omega (arith, count)) (omega (arith, count, few)) a in
    let last : as_exchange (set kept (p % length kept) k) o ≡ with_answer k o = written_at kept (p % length kept) k o ∙ ap (λ (x : StoredResponse). with_answer x o) (get_or-set_at kept (p % length kept) (o.number % length kept) k no_answer (ap (λ (n : ℕ). n % length kept) is) low) in
    map-append (as_exchange (set kept (p % length kept) k)) os (o ∷ []) ∙ (λ i. before i ++ last i ∷ [])
