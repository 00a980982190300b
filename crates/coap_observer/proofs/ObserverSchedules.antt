-- The schedule of an observer's requests.
use Rattle.std.proofs.Common.{◌≡◌, ℕ, inl, inr, List, [], Option, Some, None, ap, ◌∙◌, arith}
use Rattle.coap_msg.specs.Wire.{Message, message_bytes}
use Rattle.coap_client.specs.PeerCalls.{PeerCall}
use Rattle.coap_observer.specs.ObserverCalls.{AwaitsNotification, IsAcknowledgedLeaving, IsPassedOverLeaving, IsPassedOverWatching, Dated, dates}
use Rattle.coap_observer.specs.declared.watch.Observation.{Observation}
use Rattle.coap_observer.specs.ObserverFaults.{IsRejectedLeaving}
use Rattle.coap_client.specs.Schedules.{BeginsSchedule, full_schedule, schedule}
use Rattle.coap_client.specs.Transmissions.{AreInVain, IsLastSending}
use Rattle.coap_client.proofs.Scheduled.{IsQuiet, acknowledgement, begun, both, ended, in_vain, over}

leaving_is_quiet : (token : List ℕ) (id : ℕ) → IsQuiet (IsPassedOverLeaving token id)
leaving_is_quiet token id bytes sent p = elim p.notification as (λ _. schedule sent ≡ []) [
  | inl own ↦ ap schedule own.1 ∙ acknowledgement bytes
  | inr other ↦ ap schedule other.1
]

watching_is_quiet : (told : ℕ → Type 0) (token : List ℕ) (w : Observation) → IsQuiet (IsPassedOverWatching told token w)
watching_is_quiet told token w bytes sent (inl older) = ap schedule older.sent_is ∙ acknowledgement bytes
watching_is_quiet told token w bytes sent (inr none) = ap schedule none.1

-- the calls during a wait for the next notification aren't part of a schedule.
pub noted_quietly : (told : ℕ → Type 0) (token : List ℕ) (w : Observation) (answer : Option Dated) (calls : List PeerCall) → AwaitsNotification token (IsPassedOverWatching told token w) answer calls
    → schedule calls ≡ []
noted_quietly told token w None calls o = over (IsPassedOverWatching told token w) (watching_is_quiet told token w) calls o
noted_quietly told token w (Some (bytes, time)) calls x =
    ap schedule x.is
    ∙ both (dates bytes time) x.handled [] [] (acknowledgement bytes) (ended (IsPassedOverWatching told token w) (watching_is_quiet told token w) bytes x.handled x.ends)

-- ---- a message that isn't empty
module _ (m : Message) (coded : m.code ≡ 0 → ⊥) where
  abbrev request : List ℕ
  request = message_bytes m

  pub acknowledged_at_last : (token : List ℕ) (id : ℕ) (calls : List PeerCall) → IsLastSending (IsPassedOverLeaving token id) request (IsAcknowledgedLeaving token id) calls
      → BeginsSchedule request (schedule calls)
  acknowledged_at_last token id calls s =
      let passes = IsPassedOverLeaving token id in
      let quiet = leaving_is_quiet token id in
      begun m coded passes quiet (IsAcknowledgedLeaving token id) calls s (ended passes quiet s.sending.ends.bytes s.sending.handled s.sending.ends.ends)

  pub silent_leaving : (token : List ℕ) (id : ℕ) (calls : List PeerCall) → AreInVain (IsPassedOverLeaving token id) request 5 calls → schedule calls ≡ full_schedule request
  silent_leaving token id calls all = in_vain m coded (IsPassedOverLeaving token id) (leaving_is_quiet token id) 5 calls (omega arith) all

  pub rejected_leaving : (token : List ℕ) (id : ℕ) (calls : List PeerCall) → IsLastSending (IsPassedOverLeaving token id) request (IsRejectedLeaving token id) calls
      → BeginsSchedule request (schedule calls)
  rejected_leaving token id calls s =
      let passes = IsPassedOverLeaving token id in
      let quiet = leaving_is_quiet token id in
      begun m coded passes quiet (IsRejectedLeaving token id) calls s (ended passes quiet s.sending.ends.bytes s.sending.handled s.sending.ends.ends)
