-- The classification of a datagram with respect to the outstanding request.
use Rattle.std.specs.Prelude.{◌≡◌, ℕ, ◌≤◌, ◌⊎◌, Bool, true, false, List, length, take, Ok}
use Rattle.coap_msg.specs.Wire.{Message, message_bytes}
use Rattle.coap_msg.specs.Reading.{reading_of}
use Rattle.coap_msg.specs.declared.types.MessageType.TheVariants.{Confirmable}
use Rattle.coap_client.specs.declared.transmission.ReplyClass.{ReplyClass}
use Rattle.coap_client.specs.declared.transmission.ReplyClass.TheVariants.{Reply, Separate, Repeat, Acknowledged, Rejected, Other}
use Rattle.coap_client.specs.declared.transmission.WaitOutcome.{WaitOutcome}
use Rattle.coap_client.specs.declared.transmission.WaitOutcome.TheVariants as listened
use Rattle.coap_client.specs.declared.transmission.SentRequest.{SentRequest}
use Rattle.coap_client.specs.Replies.{IsEmptyAcknowledgement, IsReply, IsReset, IsSeparate, is_taken}
use Rattle.coap_client.specs.Requests.{acknowledgement}

-- an empty acknowledgement of the request with this message ID arrived.
pub record CameAcknowledgement (came : List ℕ → Type 0) (id : ℕ) : Type 0 where
  pub bytes : List ℕ
  pub message : Message
  pub came_is : came bytes
  pub read_is : reading_of bytes ≡ Ok message
  pub is : IsEmptyAcknowledgement id message

-- the message is a separate response, and its ID is none of the `earlier` IDs. If the request is
-- confirmable, an acknowledgement of the request arrived.
pub record IsSeparateTo (came : List ℕ → Type 0) (confirmable : Bool) (id : ℕ) (earlier : List ℕ) (m : Message) : Type 0 where
  pub own : IsSeparate m
  pub new : is_taken earlier m.id ≡ false
  pub awaited : confirmable ≡ true → CameAcknowledgement came id

-- the message is a piggybacked response to the request, which is confirmable.
pub record IsPiggybacked (confirmable : Bool) (id : ℕ) (m : Message) : Type 0 where
  pub own : IsReply id m
  pub asked : confirmable ≡ true

-- the message is a response to the request with this message ID. The separate responses so far had
-- the `earlier` IDs.
abbrev pub IsResponseFor : (List ℕ → Type 0) → Bool → ℕ → List ℕ → Message → Type 0
IsResponseFor came confirmable id earlier m = IsPiggybacked confirmable id m ⊎ IsSeparateTo came confirmable id earlier m

-- this request was sent, and a datagram arrived that encodes the message, a response to it.
pub record IsResponseTo (went came : List ℕ → Type 0) (confirmable : Bool) (id : ℕ) (earlier request bytes : List ℕ) (m : Message) : Type 0 where
  pub asked : went request
  pub came_is : came bytes
  pub read_is : reading_of bytes ≡ Ok m
  pub responds : IsResponseFor came confirmable id earlier m

-- as in `IsResponseTo`, and the message was acknowledged if it is confirmable (RFC 7252, section
-- 4.2).
pub record IsTakenResponse (went came : List ℕ → Type 0) (confirmable : Bool) (id : ℕ) (earlier request bytes : List ℕ) (m : Message) : Type 0 where
  pub asked : IsResponseTo went came confirmable id earlier request bytes m
  pub acknowledged : m.kind ≡ Confirmable → went (message_bytes (acknowledgement m.id))

-- the bytes encode a response to the request.
pub record HasResponse (went came : List ℕ → Type 0) (r : SentRequest) (bytes : List ℕ) : Type 0 where
  pub message : Message
  pub is : IsResponseTo went came r.confirmable r.id r.earlier.now r.datagram.now.items bytes message

-- the message is a separate response; `before` says whether its ID is one of the `earlier` IDs.
pub record IsSeparateAmong (earlier : List ℕ) (before : Bool) (m : Message) : Type 0 where
  pub own : IsSeparate m
  pub before_is : is_taken earlier m.id ≡ before

-- the message is none of these: a piggybacked response, a separate response, an empty
-- acknowledgement, or a rejection.
pub record IsOther (confirmable : Bool) (id : ℕ) (m : Message) : Type 0 where
  pub reply : IsPiggybacked confirmable id m → ⊥
  pub acknowledged : IsEmptyAcknowledgement id m → ⊥
  pub rejected : IsReset id m → ⊥
  pub separate : IsSeparate m → ⊥

-- the classification of a message for the request with this message ID. The message is a
-- piggybacked response, an empty acknowledgement or a rejection; or a separate response, new or
-- received before; or none of these.
abbrev pub IsHandledAs : Bool → ℕ → List ℕ → Message → ReplyClass → Type 0
IsHandledAs confirmable id earlier m Reply = IsPiggybacked confirmable id m
IsHandledAs confirmable id earlier m Separate = IsSeparateAmong earlier false m
IsHandledAs confirmable id earlier m Repeat = IsSeparateAmong earlier true m
IsHandledAs confirmable id earlier m Acknowledged = IsEmptyAcknowledgement id m
IsHandledAs confirmable id earlier m Rejected = IsReset id m
IsHandledAs confirmable id earlier m Other = IsOther confirmable id m

-- the datagram encodes a message with the property `P`.
pub record IsReadAs (bytes : List ℕ) (P : Message → Type 0) : Type 0 where
  pub message : Message
  pub read_is : reading_of bytes ≡ Ok message
  pub holds : P message

-- the classification of a datagram for the request with this message ID; a datagram that encodes no
-- message is `Other`.
abbrev pub Tells : Bool → ℕ → List ℕ → List ℕ → ReplyClass → Type 0
Tells confirmable id earlier bytes Other = (m : Message) → reading_of bytes ≡ Ok m → IsOther confirmable id m
Tells confirmable id earlier bytes handled = IsReadAs bytes (λ m. IsHandledAs confirmable id earlier m handled)

abbrev pub TellsSent : SentRequest → List ℕ → ReplyClass → Type 0
TellsSent r bytes handled = Tells r.confirmable r.id r.earlier.now bytes handled

-- if the datagram is a response that was received before and is confirmable, an acknowledgement was
-- sent.
abbrev pub AcknowledgesRepeat : (List ℕ → Type 0) → List ℕ → ReplyClass → Type 0
AcknowledgesRepeat went bytes Repeat = (m : Message) → reading_of bytes ≡ Ok m → m.kind ≡ Confirmable → went (message_bytes (acknowledgement m.id))
AcknowledgesRepeat went bytes _ = Unit {0}

-- the message is a response to the request: a piggybacked response, or a separate response if one
-- is awaited.
abbrev pub IsAwaitedReply : SentRequest → Bool → Message → Type 0
IsAwaitedReply r awaited m = IsPiggybacked r.confirmable r.id m ⊎ ((awaited ≡ true) × IsSeparateAmong r.earlier.now false m)

pub record IsAwaitedAnswer (came : List ℕ → Type 0) (r : SentRequest) (awaited : Bool) (bytes : List ℕ) : Type 0 where
  pub message : Message
  pub came_is : came bytes
  pub read_is : reading_of bytes ≡ Ok message
  pub answers : IsAwaitedReply r awaited message

-- what the outcome of a wait says. `Answer`: a response is at the start of `buffer`.
-- `Acknowledged`: an empty acknowledgement arrived. `Nothing` says nothing.
abbrev pub Listens : (List ℕ → Type 0) → SentRequest → Bool → List ℕ → WaitOutcome → Type 0
Listens came r awaited buffer (listened.Answer count) = (count ≤ length buffer) × IsAwaitedAnswer came r awaited (take count buffer)
Listens came r awaited buffer listened.Acknowledged = CameAcknowledgement came r.id
Listens came r awaited buffer listened.Nothing = Unit {0}
