-- The representation of an observed resource in a notification of several blocks: its further blocks
-- are requested without Observe (RFC 7959, sections 2.6 and 3.4).
use Rattle.std.specs.Prelude.{◌≡◌, ℕ, max, false, true, List, [], ◌∷◌, ◌++◌, Option, Some, None, codes}
use Rattle.coap_msg.specs.Codes.{code_text}
use Rattle.coap_msg.specs.Wire.{Message, message_bytes}
use Rattle.coap_client.specs.declared.fetcher.FetchFault.{FetchFault}
use Rattle.coap_client.specs.declared.fetcher.FetchFault.TheVariants as fault
use Rattle.coap_client.specs.declared.fetcher.Step.{Step}
use Rattle.coap_client.specs.declared.fetcher.Step.TheVariants as step
use Rattle.coap_observer.specs.declared.joining.Joining.{Joining}
use Rattle.coap_observer.specs.declared.joining.Unfetched.{Unfetched}
use Rattle.coap_observer.specs.declared.joining.Unfetched.TheVariants as unfetched
use Rattle.coap_observer.specs.declared.notice.NotificationClass.{NotificationClass}
use Rattle.coap_observer.specs.declared.notice.NotificationClass.TheVariants as notice
use Rattle.coap_observer.specs.declared.observing.DatedMessage.{DatedMessage}
use Rattle.coap_observer.specs.declared.observing.NotedMessage.{NotedMessage}
use Rattle.coap_observer.specs.declared.observing.Observer.{Observer}
use Rattle.coap_client.specs.declared.part.Part.TheVariants.{Answer}
use Rattle.coap_observer.specs.declared.watch.Observation.{Observation}
use Rattle.coap_observer.specs.ObserverFaults.{IsNewState, UnfitCame}
use Rattle.coap_client.specs.Faults.{IsOfPeer, IsRejection}
use Rattle.coap_client.specs.Fetching.{State, Out, Ended, Outdated, Lost, after_reply, moved_on}
use Rattle.coap_observer.specs.Notes.{IsAwaitedBy, IsHandledFrom, IsResponseWith, IsShownAs, TellsRequest}
use Rattle.coap_observer.specs.Notices.{is_first_part, notice_after}
use Rattle.coap_client.specs.Parts.{largest_szx}
use Rattle.coap_client.specs.PeerCalls.{PeerCall, PeerError}
use Rattle.coap_client.specs.Replies.{next_of_answer}
use Rattle.coap_client.specs.Requests.{IsBlock, block_request, block_token}
use Rattle.coap_client.specs.Transmissions.{IsTransmission}

-- ---- the request of a further block

-- the request is transmitted; its response, or a notification, ends the wait.
abbrev pub IsBlockTransmission : Observer → ℕ → ℕ → ℕ → Option (List ℕ) → List PeerCall → Type 0
IsBlockTransmission o n szx id answer calls =
    IsTransmission true (TellsRequest o.token (block_token id) id) (message_bytes (block_request o.client_request.now n szx id)) answer calls

-- the request was sent, and its response or a notification arrived.
pub record IsBlockAnswer (went came : List ℕ → Type 0) (o : Observer) (n szx id : ℕ) (bytes : List ℕ) : Type 0 where
  pub asked : went (message_bytes (block_request o.client_request.now n szx id))
  pub message : Message
  pub handled : IsHandledFrom went came bytes message
  pub own : IsAwaitedBy o.token (block_token id) id message

-- the request is sent until it is rejected.
abbrev pub IsBlockRejection : Observer → ℕ → ℕ → ℕ → List PeerCall → Type 0
IsBlockRejection o n szx id = IsRejection true (TellsRequest o.token (block_token id) id) (message_bytes (block_request o.client_request.now n szx id))

-- the errors of the request; if there was no memory for it, no call was made.
abbrev pub IsBlockFault : (PeerError → Type 0) → ((List PeerCall → Type 0) → Type 0) → Observer → ℕ → ℕ → ℕ → FetchFault → Type 0
IsBlockFault is_error Makes o n szx id (fault.Memory error) = Makes (λ calls. calls ≡ [])
IsBlockFault is_error Makes o n szx id f =
    IsOfPeer is_error (Makes (IsBlockRejection o n szx id)) f

-- ---- the blocks that are joined

-- the state after the notification, which is whole or is the first of several blocks.
abbrev pub begun : Message → State
begun m = moved_on (next_of_answer 0 largest_szx m) [] [] m

-- the state after these replies to the requests for further blocks, newest first.
abbrev pub joined_from : State → List Message → State
joined_from state [] = state
joined_from state (r ∷ rs) = after_reply 0 r (joined_from state rs)

-- the same from the notification on.
abbrev pub joined : Message → List Message → State
joined m rs = joined_from (begun m) rs

-- the message is the response to the request for this block.
pub record IsBlockReply (went came : List ℕ → Type 0) (o : Observer) (n szx id : ℕ) (r : Message) : Type 0 where
  pub asked : went (message_bytes (block_request o.client_request.now n szx id))
  pub bytes : List ℕ
  pub handled : IsHandledFrom went came bytes r
  pub own : IsResponseWith (block_token id) id r

-- ---- block after block

abbrev pub state_of : Joining → State
state_of j = Out (Answer j.number j.szx) j.body.items j.etag.items

-- the joining that a message begins, or none if the message isn't the first of several blocks.
abbrev pub IsBegun : Message → Option Joining → Type 0
IsBegun m None = is_first_part (next_of_answer 0 largest_szx m) ≡ false
IsBegun m (Some j) = (begun m ≡ state_of j) × IsBlock j.number j.szx

-- the effect of a response to the request for the next block.
abbrev pub IsStateBy : State → Joining → Step → Type 0
IsStateBy state j step.GoesOn = state ≡ state_of j
IsStateBy state j (step.Ended code) = state ≡ Ended code.byte j.body.items
IsStateBy state j step.Outdated = state ≡ Outdated
IsStateBy state j step.Malformed = state ≡ Lost

-- the result of a notification: it is to be shown; or it isn't newer or is a duplicate, and the
-- watch is unchanged.
abbrev pub IsNotedAs : DatedMessage → Message → Observation → Observation → Option NotedMessage → Type 0
IsNotedAs came m old new None = (new ≡ old) × (notice_after old (max old.at came.time) m ≡ notice.Older)
IsNotedAs came m old new (Some noted) = (noted.count ≡ came.count) × ((noted.time ≡ came.time) × IsShownAs noted.last old new (max old.at came.time) m)

-- a notification of this classification can't be shown; or it is a newer state, and memory for its
-- mark can't be allocated.
abbrev pub IsNoteFault : NotificationClass → FetchFault → Type 0
IsNoteFault n fault.Part = n ≡ notice.Malformed
IsNoteFault n (fault.Memory error) = IsNewState n
IsNoteFault n other = ⊥

-- ---- a whole state

-- the text of the reason why the further blocks can't be fetched.
abbrev pub unfetched_text : Unfetched → List ℕ
unfetched_text unfetched.Silence = codes "no answer to a request for a further block"
unfetched_text unfetched.Rejected = codes "a request for a further block was rejected"
unfetched_text (unfetched.Refused code) = codes "a further block was refused by " ++ code_text code.byte
unfetched_text unfetched.Changed = codes "it changed while its blocks were fetched"
unfetched_text unfetched.Malformed = codes "a further block doesn't fit the request"
unfetched_text unfetched.TooMany = codes "a block is missing after 4194304 requests"

-- the errors: an error of the peer, a failed allocation of memory, or a notification that can't be
-- shown.
abbrev pub IsFollowingFault : (List ℕ → Type 0) → (PeerError → Type 0) → List ℕ → FetchFault → Type 0
IsFollowingFault came is_error token fault.Part = (id : ℕ) → UnfitCame came token id
IsFollowingFault came is_error token (fault.Socket error) = is_error error
IsFollowingFault came is_error token (fault.Memory error) = Unit {0}
IsFollowingFault came is_error token other = ⊥
