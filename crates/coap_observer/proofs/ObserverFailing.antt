-- The errors of an observer, from the errors of its calls.
use Rattle.std.proofs.Common.{◌≡◌, ℕ, ◌<◌, max, inr, true, false, List, [], ◌∷◌, Some, refl, sym, subst, Result, Ok, Err, IfErr, Option, None, ◌∙◌, if◌then◌else◌}
use Rattle.coap_msg.specs.Reading.{reading_of}
use Rattle.coap_msg.specs.Wire.{Message}
use Rattle.coap_observer.specs.declared.notice.NotificationClass.{NotificationClass}
use Rattle.coap_observer.specs.declared.notice.NotificationClass.TheVariants as notice
use Rattle.coap_observer.specs.declared.observing.Observer.{Observer}
use Rattle.coap_observer.specs.declared.watch.Observation.{Observation}
use Rattle.coap_client.specs.declared.fetcher.FetchFault.{FetchFault}
use Rattle.coap_client.specs.declared.fetcher.FetchFault.TheVariants as fault
use Rattle.coap_observer.specs.ObserverFaults.{EndsOnNotification, IsDeregistrationFault, IsLeavingFault, IsNotificationFault, IsRegistrationFault, IsRejectedLeaving, deregistration_of, leaving_id, registration_of, UnfitCame}
use Rattle.coap_client.specs.Faults.{IsOfPeer, IsRejection}
use Rattle.coap_client.specs.Listening.{EndsOn}
use Rattle.coap_client.specs.Handled.{IsReadAs}
use Rattle.coap_observer.specs.Notes.{HasOwnResponse, TellsObserver}
use Rattle.coap_observer.specs.Notices.{IsOwnResponse, by_age, by_sequence, by_success, can_be_shown, is_newer, is_shown_again, notice_after, notice_of, sequence_of}
use Rattle.coap_observer.specs.ObserverCalls.{AwaitsNotification, IsPassedOverLeaving, IsPassedOverWatching}
use Rattle.coap_client.specs.Replies.{IsReset, is_success}
use Rattle.coap_client.specs.PeerCalls.{Adds, PeerError, Sends, Waits}
use Rattle.coap_client.specs.Transmissions.{ack_timeout, most_sendings, AreInVain, IsLastSending, MakesCalls}
use Rattle.coap_client.proofs.Transmitting.{Calls, again, does_of, last_sending}

pub registration_fault : (is_error : PeerError → Type 0) (Makes : Calls → Type 0) (o : Observer) (f : FetchFault)
    → IsOfPeer is_error (Makes (IsRejection true (TellsObserver o.token o.id) (registration_of o))) f → IsRegistrationFault is_error Makes o f
registration_fault is_error Makes o fault.Silence h = absurd h
registration_fault is_error Makes o fault.Rejected h = h
registration_fault is_error Makes o fault.Malformed h = absurd h
registration_fault is_error Makes o fault.Changed h = absurd h
registration_fault is_error Makes o fault.Part h = absurd h
registration_fault is_error Makes o (fault.Socket error) h = h
registration_fault is_error Makes o (fault.Memory error) h = absurd h

-- if a wait ended on a Reset with the deregistration's message ID, the deregistration was rejected.
pub reset_came : (token : List ℕ) (id : ℕ) (bytes : List ℕ) (before after : Calls) → IsReadAs bytes (IsReset id) → MakesCalls before after (EndsOn (IsPassedOverLeaving token id) bytes)
    → MakesCalls before after (IsRejectedLeaving token id)
reset_came token id bytes before after rejects one =
    does_of before after (EndsOn (IsPassedOverLeaving token id) bytes) (IsRejectedLeaving token id) one (λ calls h. record { bytes = bytes; rejects = rejects; ends = h })

pub rejected_leaving : (token : List ℕ) (id : ℕ) (request own : List ℕ) (n seconds : ℕ) (before between sent after : Calls) → n < most_sendings → request ≡ own
    → MakesCalls before between (AreInVain (IsPassedOverLeaving token id) request n) → seconds ≡ ack_timeout n → Adds between sent (Waits seconds ∷ Sends request ∷ [])
    → MakesCalls sent after (IsRejectedLeaving token id) → MakesCalls before after (IsLastSending (IsPassedOverLeaving token id) own (IsRejectedLeaving token id))
rejected_leaving token id request own n seconds before between sent after few is one twice adds came =
    subst (λ (x : List ℕ). MakesCalls before after (IsLastSending (IsPassedOverLeaving token id) x (IsRejectedLeaving token id))) is
    (last_sending (IsPassedOverLeaving token id) request n before between after (IsRejectedLeaving token id) few one
    (again request n seconds between sent after (IsRejectedLeaving token id) twice adds came))

pub silent_leaving : (token : List ℕ) (id : ℕ) (request own : List ℕ) (n : ℕ) (before after : Calls) → n ≡ most_sendings → request ≡ own
    → MakesCalls before after (AreInVain (IsPassedOverLeaving token id) request n) → MakesCalls before after (AreInVain (IsPassedOverLeaving token id) own most_sendings)
silent_leaving token id request own n before after five is one =
    subst (λ (x : List ℕ). MakesCalls before after (AreInVain (IsPassedOverLeaving token id) x most_sendings)) is
    (subst (λ (k : ℕ). MakesCalls before after (AreInVain (IsPassedOverLeaving token id) request k)) five one)

pub leaving_of : (is_error : PeerError → Type 0) (Makes : Calls → Type 0) (o : Observer) (Rejects : Type 0) (f : FetchFault)
    → (Rejects → Makes (IsLastSending (IsPassedOverLeaving o.token (leaving_id o)) (deregistration_of o) (IsRejectedLeaving o.token (leaving_id o)))) → IsOfPeer is_error Rejects f
    → IsLeavingFault is_error Makes o f
leaving_of is_error Makes o Rejects fault.Silence turns h = absurd h
leaving_of is_error Makes o Rejects fault.Rejected turns h = turns h
leaving_of is_error Makes o Rejects fault.Malformed turns h = absurd h
leaving_of is_error Makes o Rejects fault.Changed turns h = absurd h
leaving_of is_error Makes o Rejects fault.Part turns h = absurd h
leaving_of is_error Makes o Rejects (fault.Socket error) turns h = h
leaving_of is_error Makes o Rejects (fault.Memory error) turns h = absurd h

pub leaving_fault : (is_error : PeerError → Type 0) (Makes : Calls → Type 0) (o : Observer) (r : Result Unit FetchFault) → IfErr r (IsLeavingFault is_error Makes o)
    → IfErr r (IsDeregistrationFault is_error Makes o)
leaving_fault is_error Makes o (Ok x) h = h
leaving_fault is_error Makes o (Err fault.Silence) h = h
leaving_fault is_error Makes o (Err fault.Rejected) h = h
leaving_fault is_error Makes o (Err fault.Malformed) h = h
leaving_fault is_error Makes o (Err fault.Changed) h = h
leaving_fault is_error Makes o (Err fault.Part) h = h
leaving_fault is_error Makes o (Err (fault.Socket error)) h = h
leaving_fault is_error Makes o (Err (fault.Memory error)) h = absurd h

-- a success is classified as a state or as the last response, never as `Malformed`.
shown_sequence : (o : Option ℕ) → by_sequence o ≡ notice.Malformed → ⊥
shown_sequence None h = cc h
shown_sequence (Some v) h = cc h

shown : (m : Message) → by_success m ≡ notice.Malformed → ⊥
shown m h = elim (is_success m.code) as (λ b. (if b then by_sequence (sequence_of m) else notice.Last) ≡ notice.Malformed → ⊥) [
  | true ↦ λ x. shown_sequence (sequence_of m) x
  | false ↦ λ x. cc x
] h

-- if the class of a response is `Malformed` with its age, it is `Malformed` without its age.
unfit_by_age : (w : Observation) (at : ℕ) (n : NotificationClass) → by_age w at n ≡ notice.Malformed → n ≡ notice.Malformed
unfit_by_age w at (notice.State v) h = absurd (elim (is_newer w.sequence w.at v at) as (λ b. (if b then notice.State v else notice.Older) ≡ notice.Malformed → ⊥) [
  | true ↦ λ x. cc x
  | false ↦ λ x. cc x
] h)
unfit_by_age w at notice.Older h = h
unfit_by_age w at notice.Last h = h
unfit_by_age w at notice.Malformed h = h

unfit_after : (w : Observation) (at : ℕ) (m : Message) → notice_after w at m ≡ notice.Malformed → notice_of m ≡ notice.Malformed
unfit_after w at m h = elim (is_shown_again w.marks.items m.id at) as (λ b. (if b then notice.Older else by_age w at (notice_of m)) ≡ notice.Malformed → notice_of m ≡ notice.Malformed) [
  | true ↦ λ x. absurd (cc x)
  | false ↦ λ x. unfit_by_age w at (notice_of m) x
] h

spelled : (bytes : List ℕ) (x m : Message) → reading_of bytes ≡ Ok x → reading_of bytes ≡ Ok m → x ≡ m
spelled bytes x m a b = cc (a, b)

-- if a message is classified as `Malformed`, it can't be shown.
pub unfit_notice : (m : Message) → notice_of m ≡ notice.Malformed → can_be_shown m ≡ false
unfit_notice m is = elim (can_be_shown m) as (λ b. (if b then by_success m else notice.Malformed) ≡ notice.Malformed → b ≡ false) [
  | true ↦ λ h. absurd (shown m h)
  | false ↦ λ h. refl
] is

pub unfit_came : (went came : List ℕ → Type 0) (token bytes : List ℕ) (now : Observation) (m : Message) (at : ℕ) (n : NotificationClass) (id : ℕ) → HasOwnResponse went came token bytes
    → reading_of bytes ≡ Ok m → n ≡ notice_after now at m → n ≡ notice.Malformed → UnfitCame came token id
unfit_came went came token bytes now m at n id own read is so = record {
  bytes = bytes;
  message = m;
  came_is = own.handled.came_is;
  read_is = read;
  own = inr (subst (IsOwnResponse token) (spelled bytes own.message m own.handled.read_is read) own.own);
  unfit = unfit_notice m (unfit_after now at m (sym is ∙ so));
}

-- if a notification ends a wait, and its class has the property `P`, the wait ends on a
-- notification with that property.
pub ends_on : (went came : List ℕ → Type 0) (told : ℕ → Type 0) (token bytes : List ℕ) (w now : Observation) (m : Message) (time at : ℕ) (n : NotificationClass) (P : NotificationClass → Type 0) (before after : Calls)
    → HasOwnResponse went came token bytes → reading_of bytes ≡ Ok m → told time → now ≡ w → at ≡ max now.at time → n ≡ notice_after now at m → P n
    → MakesCalls before after (AwaitsNotification token (IsPassedOverWatching told token w) (Some (bytes, time))) → MakesCalls before after (EndsOnNotification told token w P)
ends_on went came told token bytes w now m time at n P before after own read told_is same is_at is so one =
    does_of before after (AwaitsNotification token (IsPassedOverWatching told token w) (Some (bytes, time))) (EndsOnNotification told token w P) one
    (λ calls h. record {
      bytes = bytes;
      message = m;
      read_is = read;
      own = subst (IsOwnResponse token) (spelled bytes own.message m own.handled.read_is read) own.own;
      time = time;
      told_is = told_is;
      so = subst (λ (x : Observation). P (notice_after x (max x.at time) m)) same (subst (λ (x : ℕ). P (notice_after now x m)) is_at (subst P is so));
      noticed = h;
    })

pub notification_fault : (came : List ℕ → Type 0) (is_error : PeerError → Type 0) (Makes : Calls → Type 0) (told : ℕ → Type 0) (token : List ℕ) (w : Observation) (f : FetchFault) → IsOfPeer is_error ⊥ f
    → IsNotificationFault came is_error Makes told token w f
notification_fault came is_error Makes told token w fault.Silence h = absurd h
notification_fault came is_error Makes told token w fault.Rejected h = absurd h
notification_fault came is_error Makes told token w fault.Malformed h = absurd h
notification_fault came is_error Makes told token w fault.Changed h = absurd h
notification_fault came is_error Makes told token w fault.Part h = absurd h
notification_fault came is_error Makes told token w (fault.Socket error) h = h
notification_fault came is_error Makes told token w (fault.Memory error) h = absurd h
