-- The rejections of a request.
use Rattle.std.proofs.Common.{◌≡◌, ℕ, Bool, true, false, List, ◌++◌, inl, inr, ap, ◌∙◌}
use Rattle.coap_client.specs.declared.transmission.ReplyClass.{ReplyClass}
use Rattle.coap_client.specs.declared.transmission.ReplyClass.TheVariants.{Rejected}
use Rattle.coap_client.specs.Faults.{EndsRejected, IsRejectedBy, IsRejection}
use Rattle.coap_client.specs.Handled.{IsReadAs, Tells}
use Rattle.coap_client.specs.Listening.{EndsOn}
use Rattle.coap_client.specs.PeerCalls.{PeerCall}
use Rattle.coap_client.specs.Pings.{IsPinged}
use Rattle.coap_client.specs.Replies.{IsReset}
use Rattle.coap_client.specs.Schedules.{EndsByReset}

-- if a wait ends on a Reset message, the newest call received that message.
pub ended_by_reset : (passes : List ℕ → List PeerCall → Type 0) (id : ℕ) (bytes : List ℕ) (handled : List PeerCall) → IsReadAs bytes (IsReset id) → EndsOn passes bytes handled → EndsByReset id handled
ended_by_reset passes id bytes handled rejects e = record {
  bytes = bytes;
  older = e.older;
  is = e.is;
  message = rejects.message;
  read_is = rejects.read_is;
  rejects = rejects.holds;
}

pub behind : (id : ℕ) (newer older calls : List PeerCall) → EndsByReset id newer → calls ≡ newer ++ older → EndsByReset id calls
behind id newer older calls r is = record {
  bytes = r.bytes;
  older = r.older ++ older;
  is = is ∙ ap (λ (x : List PeerCall). x ++ older) r.is;
  message = r.message;
  read_is = r.read_is;
  rejects = r.rejects;
}

-- lemmas for a classification by which each rejection is a Reset message with this message ID.
module _ (tells : List ℕ → ReplyClass → Type 0) (id : ℕ) (resets : (bytes : List ℕ) → tells bytes Rejected → IsReadAs bytes (IsReset id)) where
  rejected_by : (awaited : Bool) (handled : List PeerCall) → IsRejectedBy tells awaited handled → EndsByReset id handled
  rejected_by awaited handled r = ended_by_reset _ id r.0 handled (resets r.0 r.1) r.2

  ends_rejected : (handled : List PeerCall) → EndsRejected tells handled → EndsByReset id handled
  ends_rejected handled (inl at_once) = rejected_by false handled at_once
  ends_rejected handled (inr later) = behind id later.more _ handled (rejected_by true later.more later.rejected) later.is

  pub reset_of : (confirmable : Bool) (request : List ℕ) (calls : List PeerCall) → IsRejection confirmable tells request calls → EndsByReset id calls
  reset_of true request calls s = behind id s.last s.older calls (behind id s.sending.handled _ s.last (ends_rejected s.sending.handled s.sending.ends) s.sending.is) s.is
  reset_of false request calls s = behind id s.handled _ calls (rejected_by true s.handled s.ends) s.is

pub reset_requesting : (confirmable : Bool) (id : ℕ) (earlier request : List ℕ) (calls : List PeerCall) → IsRejection confirmable (Tells confirmable id earlier) request calls → EndsByReset id calls
reset_requesting confirmable id earlier request calls s = reset_of (Tells confirmable id earlier) id (λ bytes told. told) confirmable request calls s

pub reset_ponging : (id : ℕ) (calls : List PeerCall) → IsPinged id calls → EndsByReset id calls
reset_ponging id calls s =
    let ends = s.sending.ends in
    behind id s.last s.older calls (behind id s.sending.handled _ s.last (ended_by_reset _ id ends.bytes s.sending.handled ends.rejects ends.ends) s.sending.is) s.is
