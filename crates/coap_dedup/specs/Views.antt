-- The table as contracts see it: the requests in order of arrival, and their responses. A response
-- is at its request's number modulo the number of places.
use Rattle.std.specs.Prelude.{◌≡◌, ℕ, ◌+◌, ◌-◌, ◌%◌, ◌<◌, ◌≤◌, ◌==◌, ◌&&◌, Bool, true, false, nat_eq, List, [], ◌∷◌, ◌++◌, length, replicate, slice_get, slice_index_or, slice_set, Option, Some, None}
use Rattle.std.specs.Cmp.Lexicographic.{pointwise}
use Rattle.arrayvec.specs.ArrayVec.{ArrayVec}
use Rattle.coap_msg.specs.declared.types.Endpoint.{Endpoint}
use Rattle.circular_buffer.specs.Buffer.{Buffer}
use Rattle.coap_dedup.specs.declared.exchange.StoredResponse.{StoredResponse}
use Rattle.coap_dedup.specs.declared.exchange.Limits.{Limits}
use Rattle.coap_dedup.specs.declared.exchange.Opened.{Opened}
use Rattle.coap_msg.specs.Endpoints.{same_endpoint}
use Rattle.coap_msg.specs.Windows.{within_window}
use Rattle.coap_dedup.specs.Exchanges.{Exchange, places_of}
use Rattle.coap_dedup.specs.Keys.{endpoint_of, id_of}

abbrev pub no_answer : StoredResponse
no_answer = record { answered = false; bytes = record { items = [] } }

-- all places: the touched places `kept`, followed by places without a response.
abbrev pub padded : ℕ → List StoredResponse → List StoredResponse
padded places kept = kept ++ replicate (places - length kept) no_answer

abbrev pub kept_at : List StoredResponse → ℕ → StoredResponse
kept_at kept number = slice_index_or kept (number % length kept) no_answer

abbrev pub answer_if : Bool → ArrayVec ℕ → Option (ArrayVec ℕ)
answer_if false bytes = None
answer_if true bytes = Some bytes

-- the exchange of a request, with the contents of the request's place.
abbrev pub with_answer : StoredResponse → Opened → Exchange
with_answer k o = record { endpoint = endpoint_of o.key; id = id_of o.key; confirmable = o.confirmable; number = o.number; at = o.at; answer = answer_if k.answered k.bytes }

abbrev pub as_exchange : List StoredResponse → Opened → Exchange
as_exchange kept o = with_answer (kept_at kept o.number) o

abbrev pub request_is_live : ℕ → Opened → Bool
request_is_live now o = within_window now o.at

-- the request has this address.
abbrev pub is_of_address : List ℕ → Opened → Bool
is_of_address ip o = pointwise nat_eq (endpoint_of o.key).ip ip

abbrev pub is_from : Endpoint → ℕ → Opened → Bool
is_from to id o = same_endpoint (endpoint_of o.key) to && (id_of o.key == id)

-- the requests have consecutive numbers from `number` on. Their times never decrease, from `since`
-- to `now`.
abbrev pub Arrives : ℕ → ℕ → ℕ → List Opened → Type 0
Arrives number since now [] = Unit {0}
Arrives number since now (o ∷ os) = (o.number ≡ number) × (since ≤ o.at) × (o.at ≤ now) × Arrives (number + 1) o.at now os

-- the stored requests are the last of `opened` opened requests, in order of arrival, up to `now`.
pub record IsArrived (now opened : ℕ) (os : List Opened) : Type 0 where
  pub first : ℕ
  pub order : Arrives first 0 now os
  pub count : opened ≡ first + length os

-- the requests are in order of arrival.
pub record InOrder (os : List Opened) : Type 0 where
  pub first : ℕ
  pub now : ℕ
  pub order : Arrives first 0 now os

-- of `opened` opened requests, the one with number `number` is stored, and is `o`.
pub record IsNumbered (os : List Opened) (opened number : ℕ) (o : Opened) : Type 0 where
  pub place : slice_get os (length os - (opened - number)) ≡ Some o
  pub before : number < opened
  pub held : opened ≤ number + length os

-- of `opened` opened requests, the one with number `number` isn't stored any more.
abbrev pub IsGone : List Opened → ℕ → ℕ → Type 0
IsGone os opened number = number < opened → number + length os < opened

-- the stored requests are in order of arrival, and their number is at most the limit. There are as
-- many places for responses as the limit.
pub record AreExchanges (limits : Limits) (now opened : ℕ) (ring : Buffer Opened) (kept : List StoredResponse) : Type 0 where
  pub capacity : ring.capacity ≡ places_of limits
  pub few : length ring.items ≤ places_of limits
  pub places : length kept ≡ places_of limits
  pub arrived : IsArrived now opened ring.items

-- the places after the response of the exchange with number `number` was cleared.
abbrev pub forgotten : List StoredResponse → ℕ → List StoredResponse
forgotten kept number = slice_set kept (number % length kept) (record { answered = false; bytes = (kept_at kept number).bytes })

abbrev pub answered_at : List StoredResponse → ℕ → ArrayVec ℕ → List StoredResponse
answered_at kept number bytes = slice_set kept (number % length kept) (record { answered = true; bytes = bytes })
