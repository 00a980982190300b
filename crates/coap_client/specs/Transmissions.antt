-- The transmissions of a request, and the waits for its response (RFC 7252, section 4.2). In a list
-- of calls, the newest is first.
use Rattle.std.specs.Prelude.{◌≡◌, ℕ, zero, suc, ◌+◌, ◌<◌, ◌^◌, ◌⊎◌, Bool, true, false, List, [], ◌∷◌, ◌++◌, Option, Some, None}
use Rattle.coap_msg.specs.Wire.{Message}
use Rattle.coap_client.specs.declared.transmission.ReplyClass.{ReplyClass}
use Rattle.coap_client.specs.declared.transmission.SentRequest.{SentRequest}
use Rattle.coap_client.specs.Handled.{IsTakenResponse, TellsSent}
use Rattle.coap_client.specs.Listening.{IsAcknowledgedBy, IsAnsweredBy, IsOver, IsPassedOver, acknowledges}
use Rattle.coap_client.specs.PeerCalls.{PeerCall, Sends, Waits}

-- the maximum number of transmissions of a confirmable request: the first, and MAX_RETRANSMIT
-- retransmissions (RFC 7252, section 4.8).
abbrev pub most_sendings : ℕ
most_sendings = 5

-- the wait in seconds for a response to a transmission after `sendings` others. It is ACK_TIMEOUT,
-- doubled for each of the others (RFC 7252, section 4.2).
abbrev pub ack_timeout : ℕ → ℕ
ack_timeout sendings = 2 ^ (sendings + 1)

-- the wait for a separate response, in seconds: MAX_TRANSMIT_WAIT (RFC 7252, section 4.8.2).
abbrev pub separate_wait : ℕ
separate_wait = 93

-- the wait for the response to a non-confirmable request, in seconds.
abbrev pub non_wait : ℕ
non_wait = 32

-- calls with the property `P` are added to `calls`, and the result has the property `after`.
pub record HasAdded (after : List PeerCall → Type 0) (P : List PeerCall → Type 0) (calls : List PeerCall) : Type 0 where
  pub more : List PeerCall
  pub are : P more
  pub is : after (more ++ calls)

-- from the state `before` to the state `after`, exactly calls with the property `P` were made.
abbrev pub MakesCalls : (List PeerCall → Type 0) → (List PeerCall → Type 0) → (List PeerCall → Type 0) → Type 0
MakesCalls before after P = (calls : List PeerCall) → before calls → HasAdded after P calls

-- calls with the first property, and then calls with the second.
pub record AreBehind (First Then : List PeerCall → Type 0) (calls : List PeerCall) : Type 0 where
  pub older : List PeerCall
  pub first : First older
  pub newer : List PeerCall
  pub then : Then newer
  pub is : calls ≡ newer ++ older

-- ---- one request

-- a request is sent, a wait of `seconds` seconds begins, and then calls with this property follow.
pub record IsSending (request : List ℕ) (seconds : ℕ) (P : List PeerCall → Type 0) (calls : List PeerCall) : Type 0 where
  pub handled : List PeerCall
  pub ends : P handled
  pub is : calls ≡ handled ++ (Waits seconds ∷ Sends request ∷ [])

-- after the `Before` calls, the request was sent again, after n other transmissions. The wait for
-- its response was over.
pub record IsSentAgain (Before : List PeerCall → Type 0) (passes : List ℕ → List PeerCall → Type 0) (request : List ℕ) (n : ℕ) (calls : List PeerCall) : Type 0 where
  pub older : List PeerCall
  pub before : Before older
  pub last : List PeerCall
  pub in_vain : IsSending request (ack_timeout n) (IsOver passes) last
  pub is : calls ≡ last ++ older

abbrev pub AreInVain : (List ℕ → List PeerCall → Type 0) → List ℕ → ℕ → List PeerCall → Type 0
AreInVain passes request zero calls = calls ≡ []
AreInVain passes request (suc n) calls = IsSentAgain (AreInVain passes request n) passes request n calls

-- the request is sent after n transmissions in vain, fewer than the maximum. Then calls with the
-- property `P` follow.
pub record IsLastSending (passes : List ℕ → List PeerCall → Type 0) (request : List ℕ) (P : List PeerCall → Type 0) (calls : List PeerCall) : Type 0 where
  pub n : ℕ
  pub few : n < most_sendings
  pub older : List PeerCall
  pub before : AreInVain passes request n older
  pub last : List PeerCall
  pub sending : IsSending request (ack_timeout n) P last
  pub is : calls ≡ last ++ older

-- ---- the response to a request; `tells` classifies a datagram for the request

-- the calls of a wait for a separate response: this response arrived, or the wait is over.
abbrev pub EndsAwaited : (List ℕ → ReplyClass → Type 0) → Option (List ℕ) → List PeerCall → Type 0
EndsAwaited tells None handled = IsOver (IsPassedOver tells true) handled
EndsAwaited tells (Some answer) handled = IsAnsweredBy tells true answer handled

-- the request was acknowledged, and then a wait of 93 s for a separate response had this outcome.
pub record IsAcknowledgedFirst (tells : List ℕ → ReplyClass → Type 0) (answer : Option (List ℕ)) (handled : List PeerCall) : Type 0 where
  pub first : List PeerCall
  pub acknowledged : IsAcknowledgedBy tells first
  pub more : List PeerCall
  pub ends : EndsAwaited tells answer more
  pub is : handled ≡ more ++ Waits separate_wait ∷ first

-- the response arrived, with or without an acknowledgement before it.
abbrev pub EndsAnswered : (List ℕ → ReplyClass → Type 0) → List ℕ → List PeerCall → Type 0
EndsAnswered tells answer handled = IsAnsweredBy tells false answer handled ⊎ IsAcknowledgedFirst tells (Some answer) handled

-- the transmissions of a confirmable request. A response arrives; or the request is sent the
-- maximum number of times in vain; or it is acknowledged, and no response follows.
abbrev pub IsAskedAgain : (List ℕ → ReplyClass → Type 0) → List ℕ → Option (List ℕ) → List PeerCall → Type 0
IsAskedAgain tells request (Some answer) calls = IsLastSending (IsPassedOver tells false) request (EndsAnswered tells answer) calls
IsAskedAgain tells request None calls =
    AreInVain (IsPassedOver tells false) request most_sendings calls ⊎ IsLastSending (IsPassedOver tells false) request (IsAcknowledgedFirst tells None) calls

-- the transmission of a request; a non-confirmable request is sent once.
abbrev pub IsTransmitted : Bool → (List ℕ → ReplyClass → Type 0) → List ℕ → Option (List ℕ) → List PeerCall → Type 0
IsTransmitted true tells request answer calls = IsAskedAgain tells request answer calls
IsTransmitted false tells request answer calls = IsSending request non_wait (EndsAwaited tells answer) calls

-- the acknowledgement of a response, if there is one and it is confirmable.
abbrev pub acknowledges_answer : Option (List ℕ) → List PeerCall
acknowledges_answer None = []
acknowledges_answer (Some answer) = acknowledges answer

-- a request is transmitted, and its response is acknowledged if it is confirmable.
pub record IsTransmission (confirmable : Bool) (tells : List ℕ → ReplyClass → Type 0) (request : List ℕ) (answer : Option (List ℕ)) (calls : List PeerCall) : Type 0 where
  pub asked : List PeerCall
  pub is_asked : IsTransmitted confirmable tells request answer asked
  pub is : calls ≡ acknowledges_answer answer ++ asked

-- the request was transmitted, and the message is the response to it, which was acknowledged if it
-- is confirmable. `Makes` says that calls with a property are made.
pub record IsAnsweredTransmission (went came : List ℕ → Type 0) (Makes : (List PeerCall → Type 0) → Type 0) (r : SentRequest) (m : Message) : Type 0 where
  pub bytes : List ℕ
  pub is : IsTakenResponse went came r.confirmable r.id r.earlier.now r.datagram.now.items bytes m
  pub called : Makes (IsTransmission r.confirmable (TellsSent r) r.datagram.now.items (Some bytes))

-- the request was transmitted, and this response arrived, if any.
abbrev pub IsTransmissionWith : (List ℕ → Type 0) → (List ℕ → Type 0) → ((List PeerCall → Type 0) → Type 0) → SentRequest → Option Message → Type 0
IsTransmissionWith went came Makes r None = Makes (IsTransmission r.confirmable (TellsSent r) r.datagram.now.items None)
IsTransmissionWith went came Makes r (Some m) = IsAnsweredTransmission went came Makes r m
