-- The calls during a wait. Datagrams arrive and are skipped, until a datagram ends the wait or the
-- wait is over. In a list of calls, the newest is first.
use Rattle.std.specs.Prelude.{◌≡◌, ℕ, zero, suc, ◌+◌, ◌≤◌, ◌^◌, ◌⊎◌, not, Bool, true, false, List, [], ◌∷◌, ◌++◌, take, Result, Ok, Err, Some, None}
use Rattle.coap_msg.specs.Reading.{reading_of}
use Rattle.coap_msg.specs.Wire.{Message, message_bytes}
use Rattle.coap_msg.specs.declared.types.Bad.{Bad}
use Rattle.coap_msg.specs.declared.types.MessageType.{MessageType}
use Rattle.coap_msg.specs.declared.types.MessageType.TheVariants.{Confirmable}
use Rattle.coap_client.specs.declared.transmission.WaitOutcome.{WaitOutcome}
use Rattle.coap_client.specs.declared.transmission.WaitOutcome.TheVariants as listened
use Rattle.coap_client.specs.declared.transmission.ReplyClass.{ReplyClass}
use Rattle.coap_client.specs.declared.transmission.ReplyClass.TheVariants.{Reply, Separate, Repeat, Acknowledged, Other}
use Rattle.coap_client.specs.PeerCalls.{PeerCall, Sends, Receives}
use Rattle.coap_client.specs.Requests.{acknowledgement}

-- ---- any wait

-- after the `Before` calls, one more datagram arrives and is skipped; the `sent` calls follow it.
pub record PassesOneMore (passes : List ℕ → List PeerCall → Type 0) (Before : List PeerCall → Type 0) (calls : List PeerCall) : Type 0 where
  pub older : List PeerCall
  pub before : Before older
  pub bytes : List ℕ
  pub sent : List PeerCall
  pub passed : passes bytes sent
  pub is : calls ≡ sent ++ Receives (Some bytes) ∷ older

-- n datagrams arrive, and all of them are skipped.
abbrev pub ArePassedOver : (List ℕ → List PeerCall → Type 0) → ℕ → List PeerCall → Type 0
ArePassedOver passes zero calls = calls ≡ []
ArePassedOver passes (suc n) calls = PassesOneMore passes (ArePassedOver passes n) calls

-- after n skipped datagrams the wait is over, or n is at least 2^64 - 1, the maximum of a count.
pub record IsOver (passes : List ℕ → List PeerCall → Type 0) (handled : List PeerCall) : Type 0 where
  pub n : ℕ
  pub older : List PeerCall
  pub before : ArePassedOver passes n older
  pub is : (handled ≡ Receives None ∷ older) ⊎ ((handled ≡ older) × (2 ^ 64 ≤ n + 1))

-- this datagram, the first that isn't skipped, ends the wait.
pub record EndsOn (passes : List ℕ → List PeerCall → Type 0) (bytes : List ℕ) (handled : List PeerCall) : Type 0 where
  pub n : ℕ
  pub older : List PeerCall
  pub before : ArePassedOver passes n older
  pub is : handled ≡ Receives (Some bytes) ∷ older

-- ---- acknowledgements

-- the call that acknowledges a confirmable message with this ID (RFC 7252, section 4.2). No other
-- message is acknowledged.
abbrev pub acknowledges_kind : MessageType → ℕ → List PeerCall
acknowledges_kind Confirmable id = Sends (message_bytes (acknowledgement id)) ∷ []
acknowledges_kind other id = []

abbrev pub acknowledges_read : Result Message Bad → List PeerCall
acknowledges_read (Ok m) = acknowledges_kind m.kind m.id
acknowledges_read (Err bad) = []

abbrev pub acknowledges : List ℕ → List PeerCall
acknowledges bytes = acknowledges_read (reading_of bytes)

-- ---- a wait for a response

-- a datagram of this class is skipped. This holds for a response received before and for any
-- unrelated datagram. It also holds for a separate response if none is awaited, and for an
-- acknowledgement if a separate response is awaited.
abbrev pub is_passed_over : Bool → ReplyClass → Bool
is_passed_over awaited Repeat = true
is_passed_over awaited Other = true
is_passed_over awaited Separate = not awaited
is_passed_over awaited Acknowledged = awaited
is_passed_over awaited ended = false

-- a datagram of this class ends the wait as the response: it is a piggybacked response, or a
-- separate response if one is awaited.
abbrev pub is_answering : Bool → ReplyClass → Bool
is_answering awaited Reply = true
is_answering awaited Separate = awaited
is_answering awaited handled = false

-- the calls that follow a skipped datagram: a response received before is acknowledged if it is
-- confirmable, and after any other datagram nothing is sent.
abbrev pub sent_behind : ReplyClass → List ℕ → List PeerCall
sent_behind Repeat bytes = acknowledges bytes
sent_behind handled bytes = []

-- the datagram is skipped because of its class, which `tells` gives.
pub record IsPassedOver (tells : List ℕ → ReplyClass → Type 0) (awaited : Bool) (bytes : List ℕ) (sent : List PeerCall) : Type 0 where
  pub handled : ReplyClass
  pub told : tells bytes handled
  pub passed : is_passed_over awaited handled ≡ true
  pub sent_is : sent ≡ sent_behind handled bytes

-- the datagram ends the wait as the response because of its class.
pub record AnswersAwaited (tells : List ℕ → ReplyClass → Type 0) (awaited : Bool) (bytes : List ℕ) : Type 0 where
  pub handled : ReplyClass
  pub told : tells bytes handled
  pub answers : is_answering awaited handled ≡ true

-- the wait ended on this response, after skipped datagrams.
abbrev pub IsAnsweredBy : (List ℕ → ReplyClass → Type 0) → Bool → List ℕ → List PeerCall → Type 0
IsAnsweredBy tells awaited answer handled = AnswersAwaited tells awaited answer × EndsOn (IsPassedOver tells awaited) answer handled

-- the wait, in which no separate response is awaited, ended on an empty acknowledgement.
abbrev pub IsAcknowledgedBy : (List ℕ → ReplyClass → Type 0) → List PeerCall → Type 0
IsAcknowledgedBy tells handled = (bytes : List ℕ) × tells bytes Acknowledged × EndsOn (IsPassedOver tells false) bytes handled

-- the calls during a wait, by the wait's outcome. An acknowledgement ends the wait only if no
-- separate response is awaited.
abbrev pub IsHandled : (List ℕ → ReplyClass → Type 0) → Bool → List ℕ → WaitOutcome → List PeerCall → Type 0
IsHandled tells awaited buffer listened.Nothing handled = IsOver (IsPassedOver tells awaited) handled
IsHandled tells awaited buffer listened.Acknowledged handled = (awaited ≡ false) × IsAcknowledgedBy tells handled
IsHandled tells awaited buffer (listened.Answer count) handled = IsAnsweredBy tells awaited (take count buffer) handled
