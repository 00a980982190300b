-- The errors of a client. A request is rejected, no response to the last transmission arrives, a
-- response doesn't match, the socket fails, or memory can't be allocated. In a list of calls, the
-- newest is first.
use Rattle.std.specs.Prelude.{◌≡◌, ◌≢◌, ℕ, ◌+◌, ◌≤◌, ◌%◌, ◌⊎◌, Bool, true, false, List, [], ◌∷◌, ◌++◌, length, None}
use Rattle.coap_msg.specs.Wire.{Message, message_bytes}
use Rattle.coap_opts.specs.declared.request.Method.TheVariants.{Get}
use Rattle.coap_client.specs.declared.client_request.ClientRequest.{ClientRequest}
use Rattle.coap_client.specs.declared.fetcher.FetchFault.{FetchFault}
use Rattle.coap_client.specs.declared.fetcher.FetchFault.TheVariants as fault
use Rattle.coap_client.specs.declared.part.Part.{Part}
use Rattle.coap_client.specs.declared.transmission.ReplyClass.{ReplyClass}
use Rattle.coap_client.specs.declared.transmission.ReplyClass.TheVariants.{Rejected}
use Rattle.coap_client.specs.Fetching.{AreReplies, ArePartRequests, Lost, Out, Outdated, RepliesLeadTo, state_after, taken_ids}
use Rattle.coap_client.specs.Handled.{Tells}
use Rattle.coap_client.specs.Listening.{EndsOn, IsAcknowledgedBy, IsPassedOver}
use Rattle.coap_client.specs.PeerCalls.{PeerCall, PeerError, Waits}
use Rattle.coap_client.specs.Requests.{part_request}
use Rattle.coap_client.specs.Transmissions.{non_wait, separate_wait, AreBehind, IsLastSending, IsSending, IsTransmission}

-- ---- a rejection (RFC 7252, section 4.2); `tells` classifies a datagram for the request

-- a wait ends on a datagram that rejects the request, the first that isn't skipped.
abbrev pub IsRejectedBy : (List ℕ → ReplyClass → Type 0) → Bool → List PeerCall → Type 0
IsRejectedBy tells awaited handled = (bytes : List ℕ) × tells bytes Rejected × EndsOn (IsPassedOver tells awaited) bytes handled

-- the request was acknowledged, and rejected during the wait for the separate response.
pub record IsRejectedLater (tells : List ℕ → ReplyClass → Type 0) (handled : List PeerCall) : Type 0 where
  pub first : List PeerCall
  pub acknowledged : IsAcknowledgedBy tells first
  pub more : List PeerCall
  pub rejected : IsRejectedBy tells true more
  pub is : handled ≡ more ++ Waits separate_wait ∷ first

abbrev pub EndsRejected : (List ℕ → ReplyClass → Type 0) → List PeerCall → Type 0
EndsRejected tells handled = IsRejectedBy tells false handled ⊎ IsRejectedLater tells handled

-- a request is sent until it is rejected; a confirmable request is retransmitted at the end of each
-- wait.
abbrev pub IsRejection : Bool → (List ℕ → ReplyClass → Type 0) → List ℕ → List PeerCall → Type 0
IsRejection true tells request calls = IsLastSending (IsPassedOver tells false) request (EndsRejected tells) calls
IsRejection false tells request calls = IsSending request non_wait (IsRejectedBy tells true) calls

-- a request is transmitted, and no response arrives.
abbrev pub IsSilence : Bool → (List ℕ → ReplyClass → Type 0) → List ℕ → List PeerCall → Type 0
IsSilence confirmable tells request calls = IsTransmission confirmable tells request None calls

-- the peer is the cause of the error: it rejected the request, or returned an error.
abbrev pub IsOfPeer : (PeerError → Type 0) → Type 0 → FetchFault → Type 0
IsOfPeer is_error rejected fault.Rejected = rejected
IsOfPeer is_error rejected (fault.Socket error) = is_error error
IsOfPeer is_error rejected other = ⊥

-- ---- a fetch; `Makes` says that calls with a property are made

-- the maximum number of requests of a fetch. It is greater than the number of blocks that a body
-- and a response can have.
abbrev pub most_requests : ℕ
most_requests = 4194304

-- the calls for these replies were made, and then those for the outstanding request, which ended as
-- `Ends` says.
pub record EndsOnRequest (e : ClientRequest) (first : ℕ) (known : List ℕ) (Ends : Bool → (List ℕ → ReplyClass → Type 0) → List ℕ → List PeerCall → Type 0) (replies : List Message)
    (calls : List PeerCall) : Type 0 where
  pub older : List PeerCall
  pub before : ArePartRequests e first known replies older
  pub part : Part
  pub body : List ℕ
  pub etag : List ℕ
  pub out : state_after e replies ≡ Out part body etag
  pub id : ℕ
  pub id_is : id ≡ (first + length replies) % 65536
  pub last : List PeerCall
  pub ends : Ends e.confirmable (Tells e.confirmable id (taken_ids known replies)) (message_bytes (part_request e part id)) last
  pub is : calls ≡ last ++ older

-- replies arrived to requests whose message IDs count up from `first`. `Called` holds for these
-- replies.
pub record HasReplies (went came : List ℕ → Type 0) (e : ClientRequest) (first : ℕ) (known : List ℕ) (Called : List Message → Type 0) : Type 0 where
  pub replies : List Message
  pub are : AreReplies went came e first known replies
  pub called : Called replies

-- the cause of an error: no response to the outstanding request arrived; the request was rejected;
-- a response doesn't match; the maximum number of requests was made; the response changed; or
-- memory for a request or a response couldn't be allocated.
abbrev pub StopsBy : (List ℕ → Type 0) → (List ℕ → Type 0) → ((List PeerCall → Type 0) → Type 0) → ClientRequest → ℕ → List ℕ → FetchFault → Type 0
StopsBy went came Makes e first known fault.Silence = HasReplies went came e first known (λ replies. Makes (EndsOnRequest e first known IsSilence replies))
StopsBy went came Makes e first known fault.Rejected = HasReplies went came e first known (λ replies. Makes (EndsOnRequest e first known IsRejection replies))
StopsBy went came Makes e first known (fault.Memory error) = HasReplies went came e first known (λ replies. Makes (ArePartRequests e first known replies))
StopsBy went came Makes e first known fault.Malformed =
    RepliesLeadTo went came e first known (λ replies. Makes (ArePartRequests e first known replies)) Lost
    ⊎ HasReplies went came e first known (λ replies. (most_requests ≤ length replies) × Makes (ArePartRequests e first known replies))
StopsBy went came Makes e first known fault.Changed = RepliesLeadTo went came e first known (λ replies. Makes (ArePartRequests e first known replies)) Outdated
StopsBy went came Makes e first known other = ⊥

-- the errors of an attempt; a changed response isn't one of them.
abbrev pub IsFetchOutcomeFault : (List ℕ → Type 0) → (List ℕ → Type 0) → (PeerError → Type 0) → ((List PeerCall → Type 0) → Type 0) → ClientRequest → ℕ → List ℕ → FetchFault → Type 0
IsFetchOutcomeFault went came is_error Makes e first known (fault.Socket error) = is_error error
IsFetchOutcomeFault went came is_error Makes e first known fault.Changed = ⊥
IsFetchOutcomeFault went came is_error Makes e first known other = StopsBy went came Makes e first known other

-- the response to a GET changed during the fetch. The fetch started again, with the next message
-- IDs, and then stopped with this error.
pub record StopsAgain (went came : List ℕ → Type 0) (Makes : (List PeerCall → Type 0) → Type 0) (e : ClientRequest) (first : ℕ) (fault : FetchFault) : Type 0 where
  pub outdated : List Message
  pub are : AreReplies went came e first [] outdated
  pub leads : state_after e outdated ≡ Outdated
  pub method : e.method ≡ Get
  pub next : ℕ
  pub next_is : next ≡ (first + length outdated) % 65536
  pub stops : StopsBy went came (λ Calls. Makes (AreBehind (ArePartRequests e first [] outdated) Calls)) e next (taken_ids [] outdated) fault

-- the errors of a fetch: an error of the peer, or of the fetch's first or second attempt. A changed
-- response is an error only if it changed in both attempts, or if the method isn't GET.
abbrev pub IsFetchFault : (List ℕ → Type 0) → (List ℕ → Type 0) → (PeerError → Type 0) → ((List PeerCall → Type 0) → Type 0) → ClientRequest → ℕ → FetchFault → Type 0
IsFetchFault went came is_error Makes e first (fault.Socket error) = is_error error
IsFetchFault went came is_error Makes e first fault.Changed = ((e.method ≢ Get) × StopsBy went came Makes e first [] fault.Changed) ⊎ StopsAgain went came Makes e first fault.Changed
IsFetchFault went came is_error Makes e first other = StopsBy went came Makes e first [] other ⊎ StopsAgain went came Makes e first other
