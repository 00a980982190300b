-- A fetch as a list of replies, the newest first. Each reply answers the request that results from
-- the replies before it.
use Rattle.std.specs.Prelude.{◌≡◌, ℕ, ◌+◌, ◌%◌, ◌⊎◌, if◌then◌else◌, List, [], ◌∷◌, ◌++◌, length, Some, Ok}
use Rattle.coap_msg.specs.Reading.{reading_of}
use Rattle.coap_msg.specs.Wire.{Message, message_bytes}
use Rattle.coap_opts.specs.declared.request.Method.TheVariants.{Get}
use Rattle.coap_client.specs.declared.client_request.ClientRequest.{ClientRequest}
use Rattle.coap_client.specs.declared.fetcher.FetchOutcome.{FetchOutcome}
use Rattle.coap_client.specs.declared.fetcher.FetchOutcome.TheVariants as fetch_outcome
use Rattle.coap_client.specs.declared.fetcher.FetchState.{FetchState}
use Rattle.coap_client.specs.declared.fetcher.Step.{Step}
use Rattle.coap_client.specs.declared.fetcher.Step.TheVariants as step
use Rattle.coap_client.specs.declared.part.Part.{Part}
use Rattle.coap_client.specs.declared.part.Part.TheVariants.{Answer}
use Rattle.coap_client.specs.declared.reply.Next.{Next}
use Rattle.coap_client.specs.declared.reply.Next.TheVariants as next
use Rattle.coap_client.specs.Parts.{first_part}
use Rattle.coap_client.specs.Handled.{IsTakenResponse, Tells}
use Rattle.coap_client.specs.PeerCalls.{PeerCall}
use Rattle.coap_client.specs.Replies.{begins_exchange, etag_of, next_of}
use Rattle.coap_client.specs.Requests.{IsPartOf, part_request}
use Rattle.coap_client.specs.Transmissions.{AreBehind, IsTransmission, MakesCalls}

-- the state of a fetch. `Out`: a request is outstanding, and the response so far has these bytes
-- and this ETag. `Ended`: the fetch has ended. `Outdated`: a further block of the response was of
-- another version. `Lost`: a response didn't match.
pub data State : Type 0 where
  Out : (part : Part) (body etag : List ℕ) → State
  Ended : (code : ℕ) (body : List ℕ) → State
  Outdated : State
  Lost : State

-- the state after a reply that a further request follows. If that request is for a further block of
-- the response, the reply's payload is added to the response. If it has a block of the request's
-- body, nothing is added.
abbrev pub going_on : Part → List ℕ → List ℕ → Message → State
going_on (Answer n szx) body etag m = Out (Answer n szx) (body ++ m.payload) (etag_of m)
going_on other body etag m = Out other body etag

abbrev pub moved_on : Next → List ℕ → List ℕ → Message → State
moved_on (next.Ask part) body etag m = going_on part body etag m
moved_on next.Last body etag m = Ended m.code (body ++ m.payload)
moved_on next.Refused body etag m = Ended m.code m.payload
moved_on next.Stale body etag m = Outdated
moved_on next.Malformed body etag m = Lost

abbrev pub after_reply : ℕ → Message → State → State
after_reply count m (Out part body etag) = moved_on (next_of count part etag m) body etag m
after_reply count m other = other

-- the state of the fetch after these replies.
abbrev pub state_after : ClientRequest → List Message → State
state_after e [] = Out (first_part e.method (length e.payload.now)) [] []
state_after e (m ∷ ms) = after_reply (length e.payload.now) m (state_after e ms)

-- these message IDs, followed by that of the reply if it is a separate response.
abbrev pub with_taken_id : Message → List ℕ → List ℕ
with_taken_id m ids = if begins_exchange m.kind then ids ++ m.id ∷ [] else ids

abbrev pub taken_ids : List ℕ → List Message → List ℕ
taken_ids known [] = known
taken_ids known (m ∷ ms) = with_taken_id m (taken_ids known ms)

-- a datagram arrived that encodes the message, a response to the request of a part.
pub record IsAnswerToPart (went came : List ℕ → Type 0) (e : ClientRequest) (id : ℕ) (earlier : List ℕ) (part : Part) (m : Message) : Type 0 where
  pub bytes : List ℕ
  pub is : IsTakenResponse went came e.confirmable id earlier (message_bytes (part_request e part id)) bytes m

-- the message is a response to the outstanding request.
abbrev pub AnswersInState : (List ℕ → Type 0) → (List ℕ → Type 0) → ClientRequest → ℕ → List ℕ → State → Message → Type 0
AnswersInState went came e id earlier (Out part body etag) m = IsAnswerToPart went came e id earlier part m
AnswersInState went came e id earlier other m = ⊥

-- each message is a reply to the request that results from the replies before it. The message IDs
-- of the requests count up from `first`. The `known` IDs are those of responses to earlier
-- requests.
abbrev pub AreReplies : (List ℕ → Type 0) → (List ℕ → Type 0) → ClientRequest → ℕ → List ℕ → List Message → Type 0
AreReplies went came e first known [] = Unit {0}
AreReplies went came e first known (m ∷ ms) =
    AreReplies went came e first known ms × AnswersInState went came e ((first + length ms) % 65536) (taken_ids known ms) (state_after e ms) m

-- after the `Before` calls, the request of the outstanding part is transmitted with this message
-- ID. The response encodes the message `m`.
pub record IsNextRequest (Before : List PeerCall → Type 0) (e : ClientRequest) (id : ℕ) (earlier : List ℕ) (state : State) (m : Message) (calls : List PeerCall) : Type 0 where
  pub older : List PeerCall
  pub before : Before older
  pub part : Part
  pub body : List ℕ
  pub etag : List ℕ
  pub out : state ≡ Out part body etag
  pub own : IsPartOf e part
  pub answer : List ℕ
  pub read_is : reading_of answer ≡ Ok m
  pub last : List PeerCall
  pub transmission : IsTransmission e.confirmable (Tells e.confirmable id earlier) (message_bytes (part_request e part id)) (Some answer) last
  pub is : calls ≡ last ++ older

-- the calls for these replies: one request for each of them, and nothing else.
abbrev pub ArePartRequests : ClientRequest → ℕ → List ℕ → List Message → List PeerCall → Type 0
ArePartRequests e first known [] calls = calls ≡ []
ArePartRequests e first known (m ∷ ms) calls =
    IsNextRequest (ArePartRequests e first known ms) e ((first + length ms) % 65536) (taken_ids known ms) (state_after e ms) m calls

-- replies to requests whose message IDs count up from `first` result in this state, and `Called`
-- holds for these replies.
pub record RepliesLeadTo (went came : List ℕ → Type 0) (e : ClientRequest) (first : ℕ) (known : List ℕ) (Called : List Message → Type 0) (state : State) : Type 0 where
  pub replies : List Message
  pub are : AreReplies went came e first known replies
  pub leads : state_after e replies ≡ state
  pub called : Called replies

-- the replies to a GET's requests resulted in `Outdated`. The replies to the requests after these,
-- with the next message IDs, result in this state.
pub record RepliesLeadToAgain (went came : List ℕ → Type 0) (before after : List PeerCall → Type 0) (e : ClientRequest) (first : ℕ) (state : State) : Type 0 where
  pub outdated : List Message
  pub are : AreReplies went came e first [] outdated
  pub leads : state_after e outdated ≡ Outdated
  pub method : e.method ≡ Get
  pub next : ℕ
  pub next_is : next ≡ (first + length outdated) % 65536
  pub again : RepliesLeadTo went came e next (taken_ids [] outdated)
      (λ replies. MakesCalls before after (AreBehind (ArePartRequests e first [] outdated) (ArePartRequests e next (taken_ids [] outdated) replies))) state

-- the fetch ends with this code and body in its first or second attempt. No calls other
-- than those of the attempts are made.
abbrev pub IsFetched : (List ℕ → Type 0) → (List ℕ → Type 0) → (List PeerCall → Type 0) → (List PeerCall → Type 0) → ClientRequest → ℕ → ℕ → List ℕ → Type 0
IsFetched went came before after e first code body =
    RepliesLeadTo went came e first [] (λ replies. MakesCalls before after (ArePartRequests e first [] replies)) (Ended code body)
    ⊎ RepliesLeadToAgain went came before after e first (Ended code body)

-- the replies so far have resulted in this state. The next request has message ID `id`, and
-- `earlier` are the IDs of `known` and of the separate responses. The calls are those for these
-- replies.
pub record IsFetching (went came : List ℕ → Type 0) (before now : List PeerCall → Type 0) (e : ClientRequest) (first : ℕ) (known : List ℕ) (id : ℕ) (earlier : List ℕ) (state : State) : Type 0 where
  pub replies : List Message
  pub are : AreReplies went came e first known replies
  pub leads : state_after e replies ≡ state
  pub id_is : id ≡ (first + length replies) % 65536
  pub earlier_is : earlier ≡ taken_ids known replies
  pub called : MakesCalls before now (ArePartRequests e first known replies)

-- the outcome of an attempt, with the calls of the attempt: the fetch ended, the response changed,
-- or a response didn't match the request.
abbrev pub IsFetchOutcome : (List ℕ → Type 0) → (List ℕ → Type 0) → (List PeerCall → Type 0) → (List PeerCall → Type 0) → ClientRequest → ℕ → List ℕ → FetchOutcome → Type 0
IsFetchOutcome went came before after e first known (fetch_outcome.Ended f) =
    RepliesLeadTo went came e first known (λ replies. MakesCalls before after (ArePartRequests e first known replies)) (Ended f.code.byte f.body.items)
IsFetchOutcome went came before after e first known (fetch_outcome.Outdated id earlier) = IsFetching went came before after e first known id earlier.items Outdated
IsFetchOutcome went came before after e first known fetch_outcome.Malformed =
    RepliesLeadTo went came e first known (λ replies. MakesCalls before after (ArePartRequests e first known replies)) Lost

-- the state of the fetch after a response, by the step: the next request is outstanding; the fetch
-- has ended; the response changed; or the response doesn't match.
abbrev pub IsNow : State → FetchState → Step → Type 0
IsNow state c step.GoesOn = state ≡ Out c.part c.body.items c.etag.items
IsNow state c (step.Ended code) = state ≡ Ended code.byte c.body.items
IsNow state c step.Outdated = state ≡ Outdated
IsNow state c step.Malformed = state ≡ Lost

pub record IsStepOf (count : ℕ) (m : Message) (old new : FetchState) (step : Step) : Type 0 where
  pub now : IsNow (after_reply count m (Out old.part old.body.items old.etag.items)) new step
  pub id : new.id ≡ (old.id + 1) % 65536
  pub earlier : new.earlier.items ≡ with_taken_id m old.earlier.items

-- the same request is outstanding, and the response so far is unchanged.
pub record IsSameAnswer (old new : FetchState) : Type 0 where
  pub part : new.part ≡ old.part
  pub body : new.body.items ≡ old.body.items
  pub etag : new.etag.items ≡ old.etag.items
