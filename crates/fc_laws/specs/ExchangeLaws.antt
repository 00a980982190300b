-- Definitions for the laws of exchanges and message IDs.
use Rattle.std.specs.Prelude.{◌≡◌, ◌⊎◌, ℕ, ◌+◌, ◌%◌, ◌<◌, ◌≤◌, ◌==◌, ◌&&◌, Bool, true, false, nat_lt, List, [], ◌∷◌, ◌++◌, length, map, filter, find, max, Option, Some, None, Ok}
use Rattle.arrayvec.specs.ArrayVec.{ArrayVec}
use Rattle.coap_msg.specs.declared.types.Emission.{Emission}
use Rattle.coap_msg.specs.declared.types.Endpoint.{Endpoint}
use Rattle.coap_msg.specs.Reading.{reading_of}
use Rattle.coap_msg.specs.Wire.{Message}
use Rattle.coap_opts.specs.Verdict.{Verdict, IsAsked, IsRefused, IsSilent, verdict}
use Rattle.coap_dedup.specs.Exchanges.{Exchange}
use Rattle.coap_dedup.specs.Exchanges.{is_of, places_of, share_of}
use Rattle.fc_ticket.specs.declared.job.Job.{Job}
use Rattle.fc_core.specs.declared.event.Event.{Event}
use Rattle.fc_core.specs.declared.event.Event.TheVariants.{Deliver}
use Rattle.coap_reply.specs.Responses.{bare}
use Rattle.fc_core.specs.History.{Entry, History, BeginsWith, Then, Seen, seen, and_then, front_at}
use Rattle.fc_front.specs.Receiving.{is_confirmable, reply_sent}

-- ---- duplicates

-- a verdict on a request: it is served, refused, or gets no response.
abbrev pub IsOnRequest : Verdict → Type 0
IsOnRequest (IsAsked asked) = Unit {0}
IsOnRequest (IsRefused answer) = Unit {0}
IsOnRequest IsSilent = Unit {0}
IsOnRequest other = ⊥

-- whether an exchange was opened less than 247,000 ms before this time.
abbrev pub is_within : ℕ → Exchange → Bool
is_within at e = nat_lt at (e.at + 247000)

-- the first exchange of this endpoint and message ID that was opened less than 247,000 ms before
-- this time, if there is one.
abbrev pub repeated : Seen → ℕ → Endpoint → ℕ → Option Exchange
repeated s at to id = find (λ e. is_within at e && is_of to id e) s.exchanges

-- the datagram is a request that duplicates the request of this exchange.
pub record IsRepeat (s : Seen) (now : ℕ) (to : Endpoint) (bytes : List ℕ) (e : Exchange) : Type 0 where
  pub message : Message
  pub read : reading_of bytes ≡ Ok message
  pub asks : IsOnRequest (verdict message)
  pub is : repeated s (max s.time now) to message.id ≡ Some e

-- the stored answer of an exchange is sent again if the exchange's request was confirmable and was
-- answered.
abbrev pub again : Endpoint → Bool → Option (ArrayVec ℕ) → Option Emission
again to true (Some bytes) = Some (record { to = to; bytes = bytes })
again to confirmable answer = None

-- the exchanges that were opened in the last 247,000 ms.
abbrev pub held_at : Seen → ℕ → List Exchange
held_at s at = filter (is_within at) s.exchanges

-- the number of these exchanges that belong to an address.
abbrev pub shared_at : Seen → ℕ → List ℕ → ℕ
shared_at s at ip = share_of ip (held_at s at)

-- the datagram is a request and no duplicate, and there is space for its exchange. Fewer than 2^64
-- - 1 exchanges were ever opened. In the last 247,000 ms, fewer than the policy's limit were
-- opened, and fewer than a share from the request's address.
pub record IsOpening (s : Seen) (now : ℕ) (to : Endpoint) (bytes : List ℕ) : Type 0 where
  pub message : Message
  pub read : reading_of bytes ≡ Ok message
  pub asks : IsOnRequest (verdict message)
  pub new : repeated s (max s.time now) to message.id ≡ None
  pub room : length (held_at s (max s.time now)) < (places_of s.policy.limits)
  pub share : shared_at s (max s.time now) to.ip < s.policy.limits.share
  pub numbers : length s.exchanges < 18446744073709551615

-- there is no space for another exchange. In the last 247,000 ms at least as many exchanges as the
-- policy's limit were opened, or at least 2^64 - 1 were ever opened.
abbrev pub HasNoPlace : Seen → ℕ → Type 0
HasNoPlace s at = (places_of s.policy.limits ≤ length (held_at s at)) ⊎ (18446744073709551615 ≤ length s.exchanges)

-- the datagram is a request and no duplicate, and there is no space for its exchange, although its
-- address is below a share.
pub record IsCrowdedOut (s : Seen) (now : ℕ) (to : Endpoint) (bytes : List ℕ) (m : Message) : Type 0 where
  pub read : reading_of bytes ≡ Ok m
  pub asks : IsOnRequest (verdict m)
  pub new : repeated s (max s.time now) to m.id ≡ None
  pub share : shared_at s (max s.time now) to.ip < s.policy.limits.share
  pub full : HasNoPlace s (max s.time now)

-- the datagram is a request and no duplicate. In the last 247,000 ms, at least a share of exchanges
-- was opened from its address.
pub record IsOverShare (s : Seen) (now : ℕ) (to : Endpoint) (bytes : List ℕ) (m : Message) : Type 0 where
  pub read : reading_of bytes ≡ Ok m
  pub asks : IsOnRequest (verdict m)
  pub new : repeated s (max s.time now) to m.id ≡ None
  pub over : s.policy.limits.share ≤ shared_at s (max s.time now) to.ip

abbrev pub Repeats : Seen → Event → Exchange → Type 0
Repeats s (Deliver now to bytes) e = IsRepeat s now to bytes.now e
Repeats s other e = ⊥

abbrev pub repeat_emits : Event → Exchange → Option Emission
repeat_emits (Deliver now to bytes) e = again to e.confirmable e.answer
repeat_emits other e = None

-- the event delivers a new request with space for it.
abbrev pub Opens : Seen → Event → Type 0
Opens s (Deliver now to bytes) = IsOpening s now to bytes.now
Opens s other = ⊥

-- the event delivers a new request without space for it.
abbrev pub FindsNoExchange : Seen → Event → Message → Type 0
FindsNoExchange s (Deliver now to bytes) m = IsCrowdedOut s now to bytes.now m
FindsNoExchange s other m = ⊥

-- the event delivers a new request from an address that has used its share.
abbrev pub ExceedsShare : Seen → Event → Message → Type 0
ExceedsShare s (Deliver now to bytes) m = IsOverShare s now to bytes.now m
ExceedsShare s other m = ⊥

-- the immediate answer to a message, by this code alone.
abbrev pub bare_by : Seen → Event → Message → ℕ → Option Emission
bare_by s (Deliver now to bytes) m answer = reply_sent (front_at s now) to m (bare answer)
bare_by s other m answer = None

-- the data of an exchange without the answer: the endpoint, the message ID, whether the request is
-- confirmable, and the time of the opening.
pub record Arrival : Type 0 where
  pub endpoint : Endpoint
  pub id : ℕ
  pub confirmable : Bool
  pub at : ℕ

abbrev pub arrival_of : Exchange → Arrival
arrival_of e = record { endpoint = e.endpoint; id = e.id; confirmable = e.confirmable; at = e.at }

-- the opened exchanges of a history, without the answers.
abbrev pub arrivals : Seen → List Arrival
arrivals s = map arrival_of s.exchanges

-- the arrival has the datagram's endpoint, message ID and type, and the front's time.
pub record IsArrival (s : Seen) (now : ℕ) (to : Endpoint) (bytes : List ℕ) (a : Arrival) : Type 0 where
  pub message : Message
  pub read : reading_of bytes ≡ Ok message
  pub arrival_is : a ≡ record { endpoint = to; id = message.id; confirmable = is_confirmable message.kind; at = max s.time now }

abbrev pub ArrivesBy : Seen → Event → Arrival → Type 0
ArrivesBy s (Deliver now to bytes) a = IsArrival s now to bytes.now a
ArrivesBy s other a = ⊥

-- the event opens one exchange, the last in the list.
pub record OpensOne (r : Entry) (s : Seen) : Type 0 where
  pub arrival : Arrival
  pub is : ArrivesBy s r.event arrival
  pub last : arrivals (and_then r s) ≡ arrivals s ++ arrival ∷ []

-- the job has an exchange: the exchange's number in the job's origin is less than 2^64 - 1.
abbrev pub HasExchange : Job → Type 0
HasExchange j = j.origin.opening.number < 18446744073709551615

-- the exchange of a request's job, without the answer, from the data of the job.
abbrev pub arrival_of_job : Job → Arrival
arrival_of_job j = record { endpoint = j.origin.endpoint; id = j.origin.id; confirmable = j.confirmable; at = j.origin.opening.at }

-- the exchange of the job is one of these arrivals, at the position that is the exchange's number
-- in the job's origin.
pub record IsInPlace (all : List Arrival) (j : Job) : Type 0 where
  pub before : List Arrival
  pub after : List Arrival
  pub is : all ≡ before ++ arrival_of_job j ∷ after
  pub number : length before ≡ j.origin.opening.number

-- the job is that of a request: it is neither a lease's, nor a timer's, which has no exchange.
abbrev pub IsOfRequest : Job → Type 0
IsOfRequest j = (j.turn ≡ None) × HasExchange j

-- the job is that of an observer's lease, with the lease's number.
abbrev pub IsOfLease : Job → Type 0
IsOfLease j = (number : ℕ) × (j.turn ≡ Some number)

-- ---- message IDs

-- a message ID that was drawn, and the time of the draw.
pub record Draw : Type 0 where
  pub id : ℕ
  pub at : ℕ

-- the draws after an event: if the event changed the next message ID (`false`), it has drawn one.
abbrev pub draws_by : Bool → Draw → List Draw → List Draw
draws_by true draw before = before
draws_by false draw before = draw ∷ before

-- message IDs that were drawn, the newest first.
abbrev pub draws_of : History → List Draw
draws_of (BeginsWith stored id policy) = []
draws_of (Then h r) = draws_by ((seen (Then h r)).ids.next == (seen h).ids.next) (record { id = (seen h).ids.next; at = (seen (Then h r)).time }) (draws_of h)

-- the server's first message ID.
abbrev pub first_id : History → ℕ
first_id (BeginsWith stored id policy) = id
first_id (Then h r) = first_id h

-- in a list of draws, the newest first, the message IDs are consecutive modulo 65,536, from this
-- first one.
abbrev pub AreInOrder : ℕ → List Draw → Type 0
AreInOrder first [] = Unit {0}
AreInOrder first (d ∷ ds) = (d.id ≡ (first + length ds) % 65536) × AreInOrder first ds

-- each draw of this message ID was at least 247,000 ms before this time.
abbrev pub AllBefore : ℕ → ℕ → List Draw → Type 0
AllBefore id at [] = Unit {0}
AllBefore id at (d ∷ ds) = (d.id ≡ id → d.at + 247000 ≤ at) × AllBefore id at ds

-- in a list of draws, the newest first, no message ID was drawn twice within less than 247,000 ms.
abbrev pub AreApart : List Draw → Type 0
AreApart [] = Unit {0}
AreApart (d ∷ ds) = AllBefore d.id d.at ds × AreApart ds
