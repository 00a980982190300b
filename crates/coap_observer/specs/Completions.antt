-- The requests for the further blocks of an observed state, one after the other, and the end of the
-- state: its blocks are whole, it is superseded, or they can't be fetched (RFC 7641, section 3.4;
-- RFC 7959, sections 2.4, 2.6 and 3.4). In a list of calls or of outcomes, the newest is first.
use Rattle.std.specs.Prelude.{◌≡◌, ℕ, ◌+◌, ◌%◌, ◌==◌, ◌||◌, ◌≤◌, max, true, false, if◌then◌else◌, List, [], ◌∷◌, ◌++◌, length, take, Some, None, Ok}
use Rattle.coap_msg.specs.Reading.{reading_of}
use Rattle.coap_msg.specs.Wire.{Message}
use Rattle.coap_observer.specs.declared.joining.BlockHandled.{BlockHandled}
use Rattle.coap_observer.specs.declared.joining.BlockHandled.TheVariants as handled
use Rattle.coap_observer.specs.declared.joining.Completion.{Completion}
use Rattle.coap_observer.specs.declared.joining.Completion.TheVariants as completion
use Rattle.coap_observer.specs.declared.joining.Joining.{Joining}
use Rattle.coap_observer.specs.declared.joining.Unfetched.{Unfetched}
use Rattle.coap_observer.specs.declared.joining.Unfetched.TheVariants as unfetched
use Rattle.coap_observer.specs.declared.notice.NotificationClass.TheVariants as notice
use Rattle.coap_observer.specs.declared.observing.Observer.{Observer}
use Rattle.coap_client.specs.declared.part.Part.TheVariants.{Answer}
use Rattle.coap_observer.specs.declared.watch.Observation.{Observation}
use Rattle.coap_observer.specs.ObserverFaults.{leaving_id}
use Rattle.coap_client.specs.Faults.{most_requests}
use Rattle.coap_client.specs.Fetching.{State, Out, Ended, Outdated, Lost}
use Rattle.coap_observer.specs.Notes.{IsHandledFrom, IsNextNote}
use Rattle.coap_observer.specs.Notices.{IsOwnResponse, notice_after}
use Rattle.coap_client.specs.PeerCalls.{PeerCall, Reads}
use Rattle.coap_client.specs.Replies.{is_success}
use Rattle.coap_observer.specs.Representations.{IsBlockRejection, IsBlockReply, IsBlockTransmission, joined_from, state_of}
use Rattle.coap_client.specs.Requests.{IsBlock}
use Rattle.coap_client.specs.Transmissions.{AreBehind}

-- ---- the requests

-- the outcome of the wait for a block, after which another request may follow: its response, or a
-- notification that isn't newer, received at this time in milliseconds.
pub data BlockOutcome : Type 0 where
  Response : (reply : Message) → BlockOutcome
  OlderNotification : (message : Message) (time : ℕ) → BlockOutcome

abbrev pub responses_in : List BlockOutcome → List Message
responses_in [] = []
responses_in (Response r ∷ xs) = r ∷ responses_in xs
responses_in (OlderNotification m time ∷ xs) = responses_in xs

-- the state after these outcomes: each response adds its block.
abbrev pub state_from : State → List BlockOutcome → State
state_from state xs = joined_from state (responses_in xs)

-- the message ID of a request, if this is the next one. The IDs of the registration and of the
-- deregistration are skipped, so that the server takes no deregistration for a duplicate of such a
-- request (RFC 7252, section 4.5).
abbrev pub block_id : Observer → ℕ → ℕ
block_id o next = if (next == o.id) || (next == leaving_id o) then (o.id + 2) % 65536 else next

-- the next message ID after these outcomes: the IDs count up from `first`.
abbrev pub next_block_id : Observer → ℕ → List BlockOutcome → ℕ
next_block_id o first [] = first
next_block_id o first (x ∷ xs) = (block_id o (next_block_id o first xs) + 1) % 65536

-- and the message ID of the request that follows.
abbrev pub following_id : Observer → ℕ → List BlockOutcome → ℕ
following_id o first xs = block_id o (next_block_id o first xs)

-- the next request is for a block with this property.
abbrev pub NamesBlock : State → (ℕ → ℕ → Type 0) → Type 0
NamesBlock (Out (Answer n szx) body etag) P = P n szx
NamesBlock state P = ⊥

-- a notification arrived, and was acknowledged if it is confirmable. It isn't newer than the state
-- accepted last, or is a duplicate of one that was accepted (RFC 7641, section 3.4; RFC 7252,
-- section 4.5). A state that is superseded or can't be fetched was accepted too.
pub record IsOlderArrival (went came : List ℕ → Type 0) (told : ℕ → Type 0) (token : List ℕ) (w : Observation) (m : Message) (time : ℕ) : Type 0 where
  pub bytes : List ℕ
  pub handled : IsHandledFrom went came bytes m
  pub own : IsOwnResponse token m
  pub told_is : told time
  pub older : notice_after w (max w.at time) m ≡ notice.Older

-- the outcome of the wait for block n.
abbrev pub IsBlockOutcome : (List ℕ → Type 0) → (List ℕ → Type 0) → (ℕ → Type 0) → Observer → Observation → ℕ → BlockOutcome → ℕ → ℕ → Type 0
IsBlockOutcome went came told o w id (Response r) n szx = IsBlockReply went came o n szx id r
IsBlockOutcome went came told o w id (OlderNotification m time) n szx = IsOlderArrival went came told o.token w m time

-- each request is for the block that the responses before it name.
abbrev pub AreOutcomes : (List ℕ → Type 0) → (List ℕ → Type 0) → (ℕ → Type 0) → Observer → Observation → ℕ → State → List BlockOutcome → Type 0
AreOutcomes went came told o w first from [] = Unit {0}
AreOutcomes went came told o w first from (x ∷ xs) =
    AreOutcomes went came told o w first from xs × NamesBlock (state_from from xs) (IsBlockOutcome went came told o w (following_id o first xs) x)

-- ---- their calls

abbrev pub message_in : BlockOutcome → Message
message_in (Response r) = r
message_in (OlderNotification m time) = m

-- after a notification the clock is read.
abbrev pub reads_in : BlockOutcome → List PeerCall
reads_in (Response r) = []
reads_in (OlderNotification m time) = Reads time ∷ []

-- after these calls, the request for the next block is transmitted until this outcome.
pub record IsOneMoreBlock (Before : List PeerCall → Type 0) (o : Observer) (id : ℕ) (state : State) (x : BlockOutcome) (calls : List PeerCall) : Type 0 where
  pub older : List PeerCall
  pub before : Before older
  pub answer : List ℕ
  pub read_is : reading_of answer ≡ Ok (message_in x)
  pub last : List PeerCall
  pub transmission : NamesBlock state (λ n szx. IsBlockTransmission o n szx id (Some answer) last)
  pub is : calls ≡ (reads_in x ++ last) ++ older

-- the calls for these outcomes: one request for each of them, and nothing else.
abbrev pub AreBlockRequests : Observer → ℕ → State → List BlockOutcome → List PeerCall → Type 0
AreBlockRequests o first from [] calls = calls ≡ []
AreBlockRequests o first from (x ∷ xs) calls = IsOneMoreBlock (AreBlockRequests o first from xs) o (following_id o first xs) (state_from from xs) x calls

-- ---- the end of a state

-- exactly one of these ends a state of several blocks: its blocks, joined, and the code of the last
-- response; or a newer notification, these bytes, received at this time in milliseconds; or the
-- reason why its blocks can't be fetched.
pub data StateEnd : Type 0 where
  Joined : (code : ℕ) (body : List ℕ) → StateEnd
  Superseded : (bytes : List ℕ) (time : ℕ) → StateEnd
  Missing : (cause : Unfetched) → StateEnd

-- a further block is outstanding, so the state isn't whole.
abbrev pub IsBlockOutstanding : State → Type 0
IsBlockOutstanding state = NamesBlock state (λ n szx. Unit {0})

-- the reason why the further blocks can't be fetched, in this state and after this number of
-- outcomes. The outstanding request has no response or is rejected; or the last response is an
-- error, is of another version, or doesn't match; or a block is outstanding after 4,194,304
-- outcomes.
abbrev pub IsUnfetchedBy : State → ℕ → Unfetched → Type 0
IsUnfetchedBy state count unfetched.Silence = IsBlockOutstanding state
IsUnfetchedBy state count unfetched.Rejected = IsBlockOutstanding state
IsUnfetchedBy state count (unfetched.Refused code) = (is_success code.byte ≡ false) × ((body : List ℕ) × (state ≡ Ended code.byte body))
IsUnfetchedBy state count unfetched.Changed = state ≡ Outdated
IsUnfetchedBy state count unfetched.Malformed = state ≡ Lost
IsUnfetchedBy state count unfetched.TooMany = (count ≡ most_requests) × IsBlockOutstanding state

abbrev pub IsEndedBy : State → ℕ → StateEnd → Type 0
IsEndedBy state count (Joined code body) = (is_success code ≡ true) × (state ≡ Ended code body)
IsEndedBy state count (Superseded bytes time) = IsBlockOutstanding state
IsEndedBy state count (Missing cause) = IsUnfetchedBy state count cause

-- the number of requests for further blocks: one for each outcome, and the last request, if it has
-- no such outcome.
abbrev pub requests_until : StateEnd → ℕ → ℕ
requests_until (Superseded bytes time) count = count + 1
requests_until (Missing unfetched.Silence) count = count + 1
requests_until (Missing unfetched.Rejected) count = count + 1
requests_until end count = count

-- the end of the state after this number of outcomes: at most 4,194,304 requests were sent.
abbrev pub IsStateEnd : State → ℕ → StateEnd → Type 0
IsStateEnd state count end = (requests_until end count ≤ most_requests) × IsEndedBy state count end

-- a request whose wait ends by a newer notification; then the clock is read.
pub record IsSupersededBy (o : Observer) (id : ℕ) (bytes : List ℕ) (time : ℕ) (calls : List PeerCall) (n szx : ℕ) : Type 0 where
  pub older : List PeerCall
  pub transmission : IsBlockTransmission o n szx id (Some bytes) older
  pub is : calls ≡ Reads time ∷ older

-- the calls of the outstanding request, which has no response. There are none if the last response
-- ended the state.
abbrev pub IsLastRequest : Observer → ℕ → State → StateEnd → List PeerCall → Type 0
IsLastRequest o id state (Superseded bytes time) calls = NamesBlock state (IsSupersededBy o id bytes time calls)
IsLastRequest o id state (Missing unfetched.Silence) calls = NamesBlock state (λ n szx. IsBlockTransmission o n szx id None calls)
IsLastRequest o id state (Missing unfetched.Rejected) calls = NamesBlock state (λ n szx. IsBlockRejection o n szx id calls)
IsLastRequest o id state end calls = calls ≡ []

-- the further blocks are requested until the end of the state.
abbrev pub IsFollowing : Observer → ℕ → State → List BlockOutcome → StateEnd → List PeerCall → Type 0
IsFollowing o first from xs end =
    AreBehind (AreBlockRequests o first from xs) (IsLastRequest o (following_id o first xs) (state_from from xs) end)

-- the next message ID after that.
abbrev pub id_after : Observer → ℕ → List BlockOutcome → StateEnd → ℕ
id_after o first xs (Superseded bytes time) = (following_id o first xs + 1) % 65536
id_after o first xs (Missing unfetched.Silence) = (following_id o first xs + 1) % 65536
id_after o first xs (Missing unfetched.Rejected) = (following_id o first xs + 1) % 65536
id_after o first xs end = next_block_id o first xs

-- ---- the result

-- the end of the state; a newer notification is at the start of the buffer.
abbrev pub end_of : List ℕ → Completion → StateEnd
end_of buffer (completion.Whole code body) = Joined code.byte body.items
end_of buffer (completion.Newer noted) = Superseded (take noted.count buffer) noted.time
end_of buffer (completion.Unfetched cause) = Missing cause

-- only a newer notification changes the watch.
abbrev pub IsWatchAfter : (List ℕ → Type 0) → (List ℕ → Type 0) → (ℕ → Type 0) → List ℕ → Observation → Observation → List ℕ → Completion → Type 0
IsWatchAfter went came told token old new buffer (completion.Newer noted) =
    (noted.count ≤ length buffer) × IsNextNote went came told token (take noted.count buffer) noted.time old new noted.last
IsWatchAfter went came told token old new buffer other = new ≡ old

-- the result of the requests for the further blocks. Their message IDs count up from `first` to
-- `next`, and `Makes` says that calls with a property are made.
pub record IsCompletion (went came : List ℕ → Type 0) (told : ℕ → Type 0) (Makes : (List PeerCall → Type 0) → Type 0) (o : Observer) (first next : ℕ) (from : State)
    (old new : Observation) (buffer : List ℕ) (c : Completion) : Type 0 where
  pub outcomes : List BlockOutcome
  pub are : AreOutcomes went came told o old first from outcomes
  pub ends : IsStateEnd (state_from from outcomes) (length outcomes) (end_of buffer c)
  pub called : Makes (IsFollowing o first from outcomes (end_of buffer c))
  pub watch : IsWatchAfter went came told o.token old new buffer c
  pub next_is : next ≡ id_after o first outcomes (end_of buffer c)

-- ---- one message

-- the message that ended the wait for the block that `old` names leads to this state.
pub record HasOutcome (went came : List ℕ → Type 0) (told : ℕ → Type 0) (Makes : (List PeerCall → Type 0) → Type 0) (o : Observer) (w : Observation) (id : ℕ) (old : Joining)
    (bytes : List ℕ) (state : State) : Type 0 where
  pub outcome : BlockOutcome
  pub is : IsBlockOutcome went came told o w id outcome old.number old.szx
  pub read_is : reading_of bytes ≡ Ok (message_in outcome)
  pub leads : state_from (state_of old) (outcome ∷ []) ≡ state
  pub called : Makes (λ calls. calls ≡ reads_in outcome)

-- the reason in that response why the further blocks can't be fetched.
abbrev pub IsMissingBy : Unfetched → (State → Type 0) → Type 0
IsMissingBy (unfetched.Refused code) Leads = (is_success code.byte ≡ false) × ((body : List ℕ) × Leads (Ended code.byte body))
IsMissingBy unfetched.Changed Leads = Leads Outdated
IsMissingBy unfetched.Malformed Leads = Leads Lost
IsMissingBy other Leads = ⊥

-- the effect of the message that ended the wait for the next block.
abbrev pub IsBlockHandled : (List ℕ → Type 0) → (List ℕ → Type 0) → (ℕ → Type 0) → ((List PeerCall → Type 0) → Type 0) → Observer → ℕ → Joining → Joining → Observation → Observation → List ℕ → ℕ → BlockHandled → Type 0
IsBlockHandled went came told Makes o id old new before after bytes count handled.GoesOn =
    (after ≡ before) × (IsBlock new.number new.szx × HasOutcome went came told Makes o before id old bytes (state_of new))
IsBlockHandled went came told Makes o id old new before after bytes count (handled.Ended code) =
    (after ≡ before) × ((is_success code.byte ≡ true) × HasOutcome went came told Makes o before id old bytes (Ended code.byte new.body.items))
IsBlockHandled went came told Makes o id old new before after bytes count (handled.Newer noted) =
    (noted.count ≡ count) × (IsNextNote went came told o.token bytes noted.time before after noted.last × Makes (λ calls. calls ≡ Reads noted.time ∷ []))
IsBlockHandled went came told Makes o id old new before after bytes count (handled.Unfetched cause) =
    (after ≡ before) × IsMissingBy cause (HasOutcome went came told Makes o before id old bytes)
