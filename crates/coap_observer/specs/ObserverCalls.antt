-- The calls of an observer for the registration, while it is registered, and for the
-- deregistration. In a list of calls, the newest is first.
use Rattle.std.specs.Prelude.{◌≡◌, ℕ, zero, suc, ◌+◌, ◌%◌, ◌⊎◌, max, option_map, Bool, true, false, List, [], ◌∷◌, ◌++◌, take, Ok, Option, Some, None}
use Rattle.coap_msg.specs.Reading.{reading_of}
use Rattle.coap_msg.specs.Wire.{Message, message_bytes}
use Rattle.coap_observer.specs.declared.notice.ObserveOption.TheVariants.{Register, Deregister}
use Rattle.coap_observer.specs.declared.notice.NotificationClass.TheVariants.{Older}
use Rattle.coap_observer.specs.declared.observing.DatedMessage.{DatedMessage}
use Rattle.coap_observer.specs.declared.observing.NotedMessage.{NotedMessage}
use Rattle.coap_observer.specs.declared.observing.Observer.{Observer}
use Rattle.coap_observer.specs.declared.watch.Observation.{Observation}
use Rattle.coap_client.specs.Handled.{IsReadAs}
use Rattle.coap_client.specs.Listening.{EndsOn, IsOver, acknowledges}
use Rattle.coap_observer.specs.Notes.{IsAcknowledgementOf, TellsObserver}
use Rattle.coap_observer.specs.Notices.{IsOwnResponse, notice_after, observe_request}
use Rattle.coap_client.specs.PeerCalls.{PeerCall, Reads, Receives, Waits}
use Rattle.coap_client.specs.Replies.{IsReset}
use Rattle.coap_client.specs.Transmissions.{AreBehind, IsLastSending, IsTransmission}

-- ---- the registration

-- the registration is transmitted, and the response `answer` arrives.
abbrev pub IsRegistration : Observer → List ℕ → List PeerCall → Type 0
IsRegistration o answer calls =
    IsTransmission true (TellsObserver o.token o.id) (message_bytes (observe_request o.client_request.now Register o.token o.id)) (Some answer) calls

abbrev pub IsAnsweredRegistration : Observer → List PeerCall → Type 0
IsAnsweredRegistration o calls = (answer : List ℕ) × IsRegistration o answer calls

-- the registration is transmitted, a response arrives, and then the clock is read.
pub record IsDatedRegistration (o : Observer) (calls : List PeerCall) : Type 0 where
  pub older : List PeerCall
  pub answered : IsAnsweredRegistration o older
  pub time : ℕ
  pub is : calls ≡ Reads time ∷ older

-- ---- notifications

-- the datagram isn't a notification, and nothing is sent after it.
abbrev pub IsNoNotification : List ℕ → List ℕ → List PeerCall → Type 0
IsNoNotification token bytes sent = (IsReadAs bytes (IsOwnResponse token) → ⊥) × (sent ≡ [])

-- a datagram that is a notification is acknowledged if it is confirmable. Nothing is sent after any
-- other datagram.
abbrev pub AcknowledgesNotification : List ℕ → List ℕ → List PeerCall → Type 0
AcknowledgesNotification token bytes sent = (IsReadAs bytes (IsOwnResponse token) × (sent ≡ acknowledges bytes)) ⊎ IsNoNotification token bytes sent

-- the calls after a notification: it is acknowledged if it is confirmable, and the clock is read.
abbrev pub dates : List ℕ → ℕ → List PeerCall
dates bytes time = Reads time ∷ acknowledges bytes

-- the datagram is a notification that isn't shown. At the time that the clock then returns, it is a
-- duplicate of one already accepted, or isn't newer than the state accepted last.
pub record IsOlderNotification (told : ℕ → Type 0) (token : List ℕ) (w : Observation) (bytes : List ℕ) (sent : List PeerCall) : Type 0 where
  pub message : Message
  pub read_is : reading_of bytes ≡ Ok message
  pub own : IsOwnResponse token message
  pub time : ℕ
  pub told_is : told time
  pub older : notice_after w (max w.at time) message ≡ Older
  pub sent_is : sent ≡ dates bytes time

-- a datagram that is skipped during an observation: a notification that isn't shown, or a datagram
-- that isn't a notification.
abbrev pub IsPassedOverWatching : (ℕ → Type 0) → List ℕ → Observation → List ℕ → List PeerCall → Type 0
IsPassedOverWatching told token w bytes sent = IsOlderNotification told token w bytes sent ⊎ IsNoNotification token bytes sent

-- the wait ended on this notification, which was acknowledged if it is confirmable. Then the clock
-- returned this time.
pub record IsNoticed (token : List ℕ) (passes : List ℕ → List PeerCall → Type 0) (bytes : List ℕ) (time : ℕ) (calls : List PeerCall) : Type 0 where
  pub own : IsReadAs bytes (IsOwnResponse token)
  pub handled : List PeerCall
  pub ends : EndsOn passes bytes handled
  pub is : calls ≡ dates bytes time ++ handled

-- the bytes of a notification, and the time that the clock returned after its arrival.
abbrev pub Dated : Type 0
Dated = List ℕ × ℕ

-- the calls of a wait for a notification: a notification arrives, or the wait is over.
abbrev pub AwaitsNotification : List ℕ → (List ℕ → List PeerCall → Type 0) → Option Dated → List PeerCall → Type 0
AwaitsNotification token passes None calls = IsOver passes calls
AwaitsNotification token passes (Some (bytes, time)) calls = IsNoticed token passes bytes time calls

-- the notification at the start of the buffer, if one arrived.
abbrev pub dated_in : List ℕ → Option DatedMessage → Option Dated
dated_in buffer came = option_map (λ x. (take x.count buffer, x.time)) came

-- the notification at the start of the buffer, if one is to be shown.
abbrev pub noted_in : List ℕ → Option NotedMessage → Option Dated
noted_in buffer noted = option_map (λ x. (take x.count buffer, x.time)) noted

-- ---- a registered observer

-- a datagram arrives, and is acknowledged if it is a confirmable notification.
pub record ComesToObserver (token : List ℕ) (step : List PeerCall) : Type 0 where
  pub bytes : List ℕ
  pub sent : List PeerCall
  pub acknowledged : AcknowledgesNotification token bytes sent
  pub is : step ≡ sent ++ Receives (Some bytes) ∷ []

-- a step of a registered observer: a wait begins or is over, the clock is read, or a datagram
-- arrives.
abbrev pub IsObserverStep : List ℕ → List PeerCall → Type 0
IsObserverStep token step =
    ((seconds : ℕ) × (step ≡ Waits seconds ∷ [])) ⊎ ((step ≡ Receives None ∷ []) ⊎ (((time : ℕ) × (step ≡ Reads time ∷ [])) ⊎ ComesToObserver token step))

pub record IsOneMoreStep (Before : List PeerCall → Type 0) (token : List ℕ) (calls : List PeerCall) : Type 0 where
  pub older : List PeerCall
  pub before : Before older
  pub step : List PeerCall
  pub is_step : IsObserverStep token step
  pub is : calls ≡ step ++ older

abbrev pub AreObserverSteps : List ℕ → ℕ → List PeerCall → Type 0
AreObserverSteps token zero calls = calls ≡ []
AreObserverSteps token (suc n) calls = IsOneMoreStep (AreObserverSteps token n) token calls

abbrev pub IsObserving : List ℕ → List PeerCall → Type 0
IsObserving token calls = (n : ℕ) × AreObserverSteps token n calls

-- the calls of the registration, the reading of the clock, and then steps of a registered observer.
abbrev pub IsObservation : Observer → List PeerCall → Type 0
IsObservation o calls = AreBehind (IsDatedRegistration o) (IsObserving o.token) calls

-- ---- the deregistration

-- the datagram neither acknowledges nor rejects the deregistration with this message ID. So it is
-- skipped; if it is a confirmable notification, it is acknowledged.
pub record IsPassedOverLeaving (token : List ℕ) (id : ℕ) (bytes : List ℕ) (sent : List PeerCall) : Type 0 where
  pub acknowledged : IsReadAs bytes (IsAcknowledgementOf id) → ⊥
  pub rejected : IsReadAs bytes (IsReset id) → ⊥
  pub notification : AcknowledgesNotification token bytes sent

-- the wait ended on an acknowledgement of the deregistration.
pub record IsAcknowledgedLeaving (token : List ℕ) (id : ℕ) (handled : List PeerCall) : Type 0 where
  pub bytes : List ℕ
  pub acknowledges_it : IsReadAs bytes (IsAcknowledgementOf id)
  pub ends : EndsOn (IsPassedOverLeaving token id) bytes handled

-- the wait ended on an acknowledgement of the deregistration (`true`), or the wait is over
-- (`false`).
abbrev pub IsOverUnlessLeft : List ℕ → ℕ → Bool → List PeerCall → Type 0
IsOverUnlessLeft token id true handled = IsAcknowledgedLeaving token id handled
IsOverUnlessLeft token id false handled = IsOver (IsPassedOverLeaving token id) handled

-- the deregistration is sent until it is acknowledged.
abbrev pub IsDeregistrationOf : Observer → ℕ → List PeerCall → Type 0
IsDeregistrationOf o id calls =
    IsLastSending (IsPassedOverLeaving o.token id) (message_bytes (observe_request o.client_request.now Deregister o.token id)) (IsAcknowledgedLeaving o.token id) calls

abbrev pub IsDeregistration : Observer → List PeerCall → Type 0
IsDeregistration o calls = IsDeregistrationOf o ((o.id + 1) % 65536) calls
