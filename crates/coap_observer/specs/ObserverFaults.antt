-- The errors of an observer: of its registration, of its deregistration, and of the wait for a
-- notification. In a list of calls, the newest is first.
use Rattle.std.specs.Prelude.{◌≡◌, ℕ, ◌+◌, ◌%◌, max, true, false, List, [], Ok}
use Rattle.coap_msg.specs.Reading.{reading_of}
use Rattle.coap_msg.specs.Wire.{Message, message_bytes}
use Rattle.coap_client.specs.declared.fetcher.FetchFault.{FetchFault}
use Rattle.coap_client.specs.declared.fetcher.FetchFault.TheVariants as fault
use Rattle.coap_observer.specs.declared.notice.ObserveOption.TheVariants.{Register, Deregister}
use Rattle.coap_observer.specs.declared.notice.NotificationClass.{NotificationClass}
use Rattle.coap_observer.specs.declared.notice.NotificationClass.TheVariants as notice
use Rattle.coap_observer.specs.declared.observing.Observer.{Observer}
use Rattle.coap_observer.specs.declared.watch.Observation.{Observation}
use Rattle.coap_client.specs.Handled.{IsReadAs}
use Rattle.coap_client.specs.Listening.{EndsOn}
use Rattle.coap_observer.specs.Notes.{IsResponseWith, TellsObserver}
use Rattle.coap_observer.specs.Notices.{IsOwnResponse, can_be_shown, notice_after, observe_request}
use Rattle.coap_observer.specs.ObserverCalls.{IsNoticed, IsPassedOverLeaving, IsPassedOverWatching}
use Rattle.coap_client.specs.PeerCalls.{PeerCall, PeerError}
use Rattle.coap_client.specs.Replies.{IsReset}
use Rattle.coap_client.specs.Transmissions.{most_sendings, AreInVain, IsLastSending}
use Rattle.coap_client.specs.Faults.{IsRejection, IsSilence}

abbrev pub registration_of : Observer → List ℕ
registration_of o = message_bytes (observe_request o.client_request.now Register o.token o.id)

-- the deregistration has the next message ID.
abbrev pub leaving_id : Observer → ℕ
leaving_id o = (o.id + 1) % 65536

abbrev pub deregistration_of : Observer → List ℕ
deregistration_of o = message_bytes (observe_request o.client_request.now Deregister o.token (leaving_id o))

-- the errors of a registration. If memory for the request couldn't be allocated, no call was made.
abbrev pub IsRegistrationFault : (PeerError → Type 0) → ((List PeerCall → Type 0) → Type 0) → Observer → FetchFault → Type 0
IsRegistrationFault is_error Makes o fault.Silence = Makes (IsSilence true (TellsObserver o.token o.id) (registration_of o))
IsRegistrationFault is_error Makes o fault.Rejected = Makes (IsRejection true (TellsObserver o.token o.id) (registration_of o))
IsRegistrationFault is_error Makes o (fault.Memory error) = Makes (λ calls. calls ≡ [])
IsRegistrationFault is_error Makes o (fault.Socket error) = is_error error
IsRegistrationFault is_error Makes o other = ⊥

-- the wait ended on a Reset of the deregistration with this message ID.
pub record IsRejectedLeaving (token : List ℕ) (id : ℕ) (handled : List PeerCall) : Type 0 where
  pub bytes : List ℕ
  pub rejects : IsReadAs bytes (IsReset id)
  pub ends : EndsOn (IsPassedOverLeaving token id) bytes handled

-- the errors of a deregistration request: the request was sent five times without an
-- acknowledgement, it was rejected, or the peer returned an error.
abbrev pub IsLeavingFault : (PeerError → Type 0) → ((List PeerCall → Type 0) → Type 0) → Observer → FetchFault → Type 0
IsLeavingFault is_error Makes o fault.Silence = Makes (AreInVain (IsPassedOverLeaving o.token (leaving_id o)) (deregistration_of o) most_sendings)
IsLeavingFault is_error Makes o fault.Rejected =
    Makes (IsLastSending (IsPassedOverLeaving o.token (leaving_id o)) (deregistration_of o) (IsRejectedLeaving o.token (leaving_id o)))
IsLeavingFault is_error Makes o (fault.Socket error) = is_error error
IsLeavingFault is_error Makes o other = ⊥

-- the errors of a deregistration: those of the request, or `Memory` if memory for the request
-- couldn't be allocated; then no call was made.
abbrev pub IsDeregistrationFault : (PeerError → Type 0) → ((List PeerCall → Type 0) → Type 0) → Observer → FetchFault → Type 0
IsDeregistrationFault is_error Makes o (fault.Memory error) = Makes (λ calls. calls ≡ [])
IsDeregistrationFault is_error Makes o other = IsLeavingFault is_error Makes o other

-- the wait ended on a notification whose classification has the property `P`, at the time that the
-- clock then returned.
pub record EndsOnNotification (told : ℕ → Type 0) (token : List ℕ) (w : Observation) (P : NotificationClass → Type 0) (calls : List PeerCall) : Type 0 where
  pub bytes : List ℕ
  pub message : Message
  pub read_is : reading_of bytes ≡ Ok message
  pub own : IsOwnResponse token message
  pub time : ℕ
  pub told_is : told time
  pub so : P (notice_after w (max w.at time) message)
  pub noticed : IsNoticed token (IsPassedOverWatching told token w) bytes time calls

abbrev pub IsNewState : NotificationClass → Type 0
IsNewState (notice.State sequence) = Unit {0}
IsNewState other = ⊥

-- a response arrived that has the token and can't be shown. It is a separate response, or is
-- piggybacked on the acknowledgement of the request with this message ID.
pub record UnfitCame (came : List ℕ → Type 0) (token : List ℕ) (id : ℕ) : Type 0 where
  pub bytes : List ℕ
  pub message : Message
  pub came_is : came bytes
  pub read_is : reading_of bytes ≡ Ok message
  pub own : IsResponseWith token id message
  pub unfit : can_be_shown message ≡ false

-- the errors of the wait for the next notification: a notification that can't be shown, a new state
-- for which memory couldn't be allocated, or an error of the peer.
abbrev pub IsNotificationFault : (List ℕ → Type 0) → (PeerError → Type 0) → ((List PeerCall → Type 0) → Type 0) → (ℕ → Type 0) → List ℕ → Observation → FetchFault → Type 0
IsNotificationFault came is_error Makes told token w fault.Part =
    Makes (EndsOnNotification told token w (λ n. n ≡ notice.Malformed)) × ((id : ℕ) → UnfitCame came token id)
IsNotificationFault came is_error Makes told token w (fault.Memory error) = Makes (EndsOnNotification told token w IsNewState)
IsNotificationFault came is_error Makes told token w (fault.Socket error) = is_error error
IsNotificationFault came is_error Makes told token w other = ⊥
