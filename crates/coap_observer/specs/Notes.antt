-- The notifications that an observer shows. Each was received, each state is newer than the state
-- before, and none is shown twice.
use Rattle.std.specs.Prelude.{◌≡◌, ℕ, ◌+◌, ◌≤◌, ◌%◌, ◌&&◌, ◌⊎◌, nat_eq, Bool, true, false, max, List, [], ◌∷◌, length, take, Option, Some, None, Ok}
use Rattle.std.specs.List.{All, list_any}
use Rattle.coap_msg.specs.Reading.{reading_of}
use Rattle.coap_msg.specs.Windows.{window}
use Rattle.coap_msg.specs.Wire.{Message, message_bytes}
use Rattle.coap_msg.specs.declared.types.MessageType.TheVariants.{Acknowledgement, Confirmable}
use Rattle.coap_client.specs.declared.transmission.ReplyClass.{ReplyClass}
use Rattle.coap_client.specs.declared.transmission.ReplyClass.TheVariants.{Reply, Acknowledged, Rejected, Other}
use Rattle.coap_client.specs.declared.transmission.WaitOutcome.{WaitOutcome}
use Rattle.coap_client.specs.declared.transmission.WaitOutcome.TheVariants as listened
use Rattle.coap_observer.specs.declared.notice.ObserveOption.TheVariants.{Register, Deregister}
use Rattle.coap_observer.specs.declared.notice.NotificationClass.{NotificationClass}
use Rattle.coap_observer.specs.declared.notice.NotificationClass.TheVariants.{State, Last}
use Rattle.coap_observer.specs.declared.observing.NotedMessage.{NotedMessage}
use Rattle.coap_observer.specs.declared.observing.Observer.{Observer}
use Rattle.coap_observer.specs.declared.watch.ShownMark.{ShownMark}
use Rattle.coap_observer.specs.declared.watch.Observation.{Observation}
use Rattle.coap_client.specs.Handled.{CameAcknowledgement, IsReadAs}
use Rattle.coap_observer.specs.Notices.{IsOwnResponse, IsReplyWith, can_be_shown, is_newer, marked, notice_after, notice_of, observe_request}
use Rattle.coap_client.specs.Replies.{IsEmptyAcknowledgement, IsReset, begins_exchange}
use Rattle.coap_client.specs.Requests.{acknowledgement}

-- ---- the messages that an observer receives

-- a response with the token: piggybacked on the acknowledgement of the request with this message
-- ID, or separate.
abbrev pub IsResponseWith : List ℕ → ℕ → Message → Type 0
IsResponseWith token id m = IsReplyWith token id m ⊎ IsOwnResponse token m

-- a response to the request with this message ID and the token `own`, or a notification with the
-- observer's token `token`. The registration has the observer's token as its own.
abbrev pub IsAwaitedBy : List ℕ → List ℕ → ℕ → Message → Type 0
IsAwaitedBy token own id m = IsResponseWith own id m ⊎ IsOwnResponse token m

-- the message is neither a response to the request nor a notification, and neither acknowledges nor
-- rejects the request.
pub record IsNoneOf (token own : List ℕ) (id : ℕ) (m : Message) : Type 0 where
  pub reply : IsReplyWith own id m → ⊥
  pub separate : IsOwnResponse own m → ⊥
  pub notification : IsOwnResponse token m → ⊥
  pub acknowledged : IsEmptyAcknowledgement id m → ⊥
  pub rejected : IsReset id m → ⊥

-- the classification of a message for an observer with an outstanding request, which has this
-- message ID and the token `own`. For `TellsRequest`, a datagram that encodes no message is
-- `Other`.
abbrev pub IsToldAs : List ℕ → List ℕ → ℕ → Message → ReplyClass → Type 0
IsToldAs token own id m Reply = IsAwaitedBy token own id m
IsToldAs token own id m Acknowledged = IsEmptyAcknowledgement id m
IsToldAs token own id m Rejected = IsReset id m
IsToldAs token own id m Other = IsNoneOf token own id m
IsToldAs token own id m handled = ⊥

abbrev pub TellsRequest : List ℕ → List ℕ → ℕ → List ℕ → ReplyClass → Type 0
TellsRequest token own id bytes Other = (m : Message) → reading_of bytes ≡ Ok m → IsNoneOf token own id m
TellsRequest token own id bytes handled = IsReadAs bytes (λ m. IsToldAs token own id m handled)

-- the classification of a datagram while the registration is outstanding.
abbrev pub TellsObserver : List ℕ → ℕ → List ℕ → ReplyClass → Type 0
TellsObserver token id = TellsRequest token token id

-- the datagram arrived, and encodes a message with the property `P`.
pub record HasArrived (came : List ℕ → Type 0) (P : Message → Type 0) (bytes : List ℕ) : Type 0 where
  pub message : Message
  pub came_is : came bytes
  pub read_is : reading_of bytes ≡ Ok message
  pub holds : P message

-- what the outcome of a wait says. `Answer`: a response or a notification is at the start of
-- `buffer`. `Acknowledged`: an empty acknowledgement arrived. `Nothing` says nothing.
abbrev pub HandlesAnswer : (List ℕ → Type 0) → List ℕ → List ℕ → ℕ → List ℕ → WaitOutcome → Type 0
HandlesAnswer came token own id buffer (listened.Answer count) = (count ≤ length buffer) × HasArrived came (IsAwaitedBy token own id) (take count buffer)
HandlesAnswer came token own id buffer listened.Acknowledged = CameAcknowledgement came id
HandlesAnswer came token own id buffer listened.Nothing = Unit {0}

-- ---- the messages that an observer shows

-- a message that was shown, and the time of its arrival in milliseconds.
pub record Note : Type 0 where
  pub message : Message
  pub at : ℕ

-- the datagram arrived and encodes the message, which was acknowledged if it is confirmable (RFC
-- 7252, section 4.2).
pub record IsHandledFrom (went came : List ℕ → Type 0) (bytes : List ℕ) (m : Message) : Type 0 where
  pub came_is : came bytes
  pub read_is : reading_of bytes ≡ Ok m
  pub acknowledged : m.kind ≡ Confirmable → went (message_bytes (acknowledgement m.id))

-- the registration was sent, and `bytes` are a response to the registration.
pub record IsRegistered (went came : List ℕ → Type 0) (o : Observer) (bytes : List ℕ) : Type 0 where
  pub asked : went (message_bytes (observe_request o.client_request.now Register o.token o.id))
  pub message : Message
  pub handled : IsHandledFrom went came bytes message
  pub own : IsResponseWith o.token o.id message

-- the message is a response with this token, separate or to the request with this message ID. It
-- can be shown, and the note's time is one that the clock returned.
pub record IsNoteOf (went came : List ℕ → Type 0) (told : ℕ → Type 0) (token : List ℕ) (id : ℕ) (n : Note) : Type 0 where
  pub bytes : List ℕ
  pub handled : IsHandledFrom went came bytes n.message
  pub own : IsResponseWith token id n.message
  pub fit : can_be_shown n.message ≡ true
  pub time : told n.at

-- if the notification at `now` is a state, it is newer than the state with this sequence number and
-- time (RFC 7641, section 3.4).
abbrev pub IsNewerThan : ℕ → ℕ → NotificationClass → ℕ → Type 0
IsNewerThan sequence at (State v) now = is_newer sequence at v now ≡ true
IsNewerThan sequence at other now = Unit {0}

-- the earlier message is a state, and the later message doesn't have an earlier time. If the later
-- message is a state too, it is newer.
pub record IsAfter (earlier later : Note) : Type 0 where
  pub sequence : ℕ
  pub state : notice_of earlier.message ≡ State sequence
  pub times : earlier.at ≤ later.at
  pub newer : IsNewerThan sequence earlier.at (notice_of later.message) later.at

-- the later message isn't a duplicate of the earlier one: it has another message ID, or arrived at
-- least 247 s later (RFC 7252, sections 4.5 and 4.8.2).
abbrev pub IsApart : Note → Note → Type 0
IsApart later earlier = begins_exchange earlier.message.kind ≡ true → earlier.message.id ≡ later.message.id → earlier.at + window ≤ later.at

-- a message shown after others is a notification and follows the message before it as `IsAfter`
-- says. It isn't a duplicate of any earlier message.
pub record IsNext (token : List ℕ) (before : Note) (older : List Note) (n : Note) : Type 0 where
  pub own : IsOwnResponse token n.message
  pub after : IsAfter before n
  pub once : All (IsApart n) (before ∷ older)

abbrev pub FollowsNotes : List ℕ → List Note → Note → Type 0
FollowsNotes token [] n = Unit {0}
FollowsNotes token (before ∷ older) n = IsNext token before older n

-- the list has the messages shown, the newest first.
abbrev pub AreNotes : (List ℕ → Type 0) → (List ℕ → Type 0) → (ℕ → Type 0) → List ℕ → ℕ → List Note → Type 0
AreNotes went came told token id [] = Unit {0}
AreNotes went came told token id (n ∷ ns) = AreNotes went came told token id ns × IsNoteOf went came told token id n × FollowsNotes token ns n

-- ---- one message after the other

abbrev pub is_mark_of : ℕ → ℕ → ShownMark → Bool
is_mark_of id at k = nat_eq k.id id && nat_eq k.at at

-- there is a mark with this message ID and time.
abbrev pub has_mark : List ShownMark → ℕ → ℕ → Bool
has_mark marks id at = list_any (is_mark_of id at) marks

-- if the note's message is a separate response, it has a mark, or is at least 247 s old at `now`.
abbrev pub IsRemembered : List ShownMark → ℕ → Note → Type 0
IsRemembered marks now n = begins_exchange n.message.kind ≡ true → (has_mark marks n.message.id n.at ≡ true) ⊎ (n.at + window ≤ now)

-- these messages were shown. The observation has the sequence number and the time of the newest
-- message, and remembers all these messages.
pub record IsWatching (went came : List ℕ → Type 0) (told : ℕ → Type 0) (token : List ℕ) (id : ℕ) (latest : Note) (older : List Note) (w : Observation) : Type 0 where
  pub are : AreNotes went came told token id (latest ∷ older)
  pub state : notice_of latest.message ≡ State w.sequence
  pub time : w.at ≡ latest.at
  pub remembered : All (IsRemembered w.marks.items w.at) (latest ∷ older)

-- the message shown at this time is a state, and the observation `new` records that state.
pub record IsKept (old new : Observation) (at : ℕ) (m : Message) : Type 0 where
  pub notice : notice_after old at m ≡ State new.sequence
  pub time : new.at ≡ at
  pub marks : new.marks.items ≡ marked old.marks.items m.id at

abbrev pub IsShownAs : Bool → Observation → Observation → ℕ → Message → Type 0
IsShownAs true old new at m = notice_after old at m ≡ Last
IsShownAs false old new at m = IsKept old new at m

pub record IsNextNote (went came : List ℕ → Type 0) (told : ℕ → Type 0) (token bytes : List ℕ) (time : ℕ) (old new : Observation) (last : Bool) : Type 0 where
  pub message : Message
  pub told_is : told time
  pub handled : IsHandledFrom went came bytes message
  pub own : IsOwnResponse token message
  pub shown : IsShownAs last old new (max old.at time) message

-- if a notification is to be shown, it is at the start of `buffer`, and `new` is the observation
-- after it. If none is to be shown, the observation is unchanged.
abbrev pub Watches : (List ℕ → Type 0) → (List ℕ → Type 0) → (ℕ → Type 0) → List ℕ → List ℕ → Observation → Observation → Option NotedMessage → Type 0
Watches went came told token buffer old new None = new ≡ old
Watches went came told token buffer old new (Some noted) =
    (noted.count ≤ length buffer) × IsNextNote went came told token (take noted.count buffer) noted.time old new noted.last

-- `bytes` are a notification that arrived, and that was acknowledged if it is confirmable.
pub record HasOwnResponse (went came : List ℕ → Type 0) (token bytes : List ℕ) : Type 0 where
  pub message : Message
  pub handled : IsHandledFrom went came bytes message
  pub own : IsOwnResponse token message

-- ---- the deregistration

-- the message is an acknowledgement of the request with this message ID, with or without a
-- response.
pub record IsAcknowledgementOf (id : ℕ) (m : Message) : Type 0 where
  pub kind : m.kind ≡ Acknowledgement
  pub id_is : m.id ≡ id

pub record HasAcknowledgement (came : List ℕ → Type 0) (id : ℕ) : Type 0 where
  pub bytes : List ℕ
  pub is : HasArrived came (IsAcknowledgementOf id) bytes

-- the deregistration was sent and acknowledged.
pub record HasDeregistered (went came : List ℕ → Type 0) (o : Observer) : Type 0 where
  pub asked : went (message_bytes (observe_request o.client_request.now Deregister o.token ((o.id + 1) % 65536)))
  pub acknowledged : HasAcknowledgement came ((o.id + 1) % 65536)
