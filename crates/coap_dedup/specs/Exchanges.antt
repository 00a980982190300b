-- The stored exchanges (RFC 7252, section 4.5). All requests have the same lifetime; that is this
-- project's choice.
use Rattle.std.specs.Prelude.{ℕ, ◌==◌, ◌&&◌, Bool, max, min, true, false, nat_eq, nat_lt, List, filter, length, find, Option, Some, None, if◌then◌else◌}
use Rattle.std.specs.Cmp.Lexicographic.{pointwise}
use Rattle.arrayvec.specs.ArrayVec.{ArrayVec}
use Rattle.coap_msg.specs.declared.types.Endpoint.{Endpoint}
use Rattle.coap_msg.specs.Endpoints.{same_endpoint}
use Rattle.coap_msg.specs.Windows.{within_window}
use Rattle.coap_dedup.specs.declared.exchange.Limits.{Limits}
use Rattle.coap_dedup.specs.declared.exchanges.Room.{Room}
use Rattle.coap_dedup.specs.declared.exchanges.Room.TheVariants.{Free, Full, OverShare}

-- an opened request: its endpoint, its message ID, whether it is confirmable, its number and time,
-- and its response, if it has one.
pub record Exchange : Type 0 where
  pub endpoint : Endpoint
  pub id : ℕ
  pub confirmable : Bool
  pub number : ℕ
  pub at : ℕ
  pub answer : Option (ArrayVec ℕ)

-- the maximum number of stored exchanges: the limit, or the nearest number from 1 to 65,536.
abbrev pub places_of : Limits → ℕ
places_of l = max 1 (min l.exchanges 65536)

-- a table of exchanges: the limits, the time, the number of exchanges opened so far, and the stored
-- exchanges in order of arrival.
pub record Table : Type 0 where
  pub limits : Limits
  pub now : ℕ
  pub opened : ℕ
  pub held : List Exchange

-- the exchange was opened less than EXCHANGE_LIFETIME before `now`.
abbrev pub is_live : ℕ → Exchange → Bool
is_live now e = within_window now e.at

-- the exchange has this endpoint and message ID.
abbrev pub is_of : Endpoint → ℕ → Exchange → Bool
is_of to id e = same_endpoint e.endpoint to && (e.id == id)

-- the exchange's endpoint has this address.
abbrev pub is_at : List ℕ → Exchange → Bool
is_at ip e = pointwise nat_eq e.endpoint.ip ip

-- the number of exchanges that have this address.
abbrev pub share_of : List ℕ → List Exchange → ℕ
share_of ip held = length (filter (is_at ip) held)

-- a place is free, and fewer than 2^64 - 1 exchanges were opened.
abbrev pub has_place : Table → Bool
has_place t = nat_lt (length t.held) (places_of t.limits) && nat_lt t.opened 18446744073709551615

-- the number of stored exchanges of the address is below the address's share.
abbrev pub has_share : Table → List ℕ → Bool
has_share t ip = nat_lt (share_of ip t.held) t.limits.share

-- whether one more exchange of an address fits. The address's share is checked before the places.
abbrev pub room_by : Bool → Bool → Room
room_by false place = OverShare
room_by true false = Full
room_by true true = Free

abbrev pub room_at : Table → List ℕ → Room
room_at t ip = room_by (has_share t ip) (has_place t)

-- the class of a request, in the order of the variants: new; a duplicate of a request in progress;
-- a duplicate of a confirmable request, which has the response `bytes`; a duplicate of a
-- non-confirmable request, which has a response; new, but no place is free; new, but its address
-- already has its share.
pub data Look : Type 0 where
  IsNew : Look
  IsBusy : Look
  IsAgain : (bytes : List ℕ) → Look
  IsSilent : Look
  IsFull : Look
  IsOverShare : Look

-- the class of a duplicate, by its exchange: whether that is confirmable, and its response, if any.
abbrev pub repeated_by : Bool → Option (ArrayVec ℕ) → Look
repeated_by confirmable None = IsBusy
repeated_by confirmable (Some bytes) = if confirmable then IsAgain bytes.items else IsSilent

abbrev pub repeat_of : Exchange → Look
repeat_of e = repeated_by e.confirmable e.answer

abbrev pub new_by : Room → Look
new_by Free = IsNew
new_by Full = IsFull
new_by OverShare = IsOverShare

abbrev pub look_by : Option Exchange → Room → Look
look_by (Some e) room = repeat_of e
look_by None room = new_by room

-- the class of a request with this endpoint and message ID.
abbrev pub look_at : Table → Endpoint → ℕ → Look
look_at t to id = look_by (find (is_of to id) t.held) (room_at t to.ip)

abbrev pub answered_if : Bool → ArrayVec ℕ → Exchange → Exchange
answered_if true bytes e = record e { answer = Some bytes }
answered_if false bytes e = e
