-- The rejections of an observer's requests.
use Rattle.std.proofs.Common.{ℕ, true, List}
use Rattle.coap_client.specs.Faults.{IsRejection}
use Rattle.coap_observer.specs.ObserverFaults.{IsRejectedLeaving}
use Rattle.coap_observer.specs.Notes.{TellsObserver}
use Rattle.coap_observer.specs.ObserverCalls.{IsPassedOverLeaving}
use Rattle.coap_client.specs.PeerCalls.{PeerCall}
use Rattle.coap_client.specs.Schedules.{EndsByReset}
use Rattle.coap_client.specs.Transmissions.{IsLastSending}
use Rattle.coap_client.proofs.Resets.{behind, ended_by_reset, reset_of}

pub reset_registering : (token : List ℕ) (id : ℕ) (request : List ℕ) (calls : List PeerCall) → IsRejection true (TellsObserver token id) request calls → EndsByReset id calls
reset_registering token id request calls s = reset_of (TellsObserver token id) id (λ bytes told. told) true request calls s

pub reset_leaving : (token : List ℕ) (id : ℕ) (request : List ℕ) (calls : List PeerCall) → IsLastSending (IsPassedOverLeaving token id) request (IsRejectedLeaving token id) calls → EndsByReset id calls
reset_leaving token id request calls s =
    let ends = s.sending.ends in
    behind id s.last s.older calls (behind id s.sending.handled _ s.last (ended_by_reset _ id ends.bytes s.sending.handled ends.rejects ends.ends) s.sending.is) s.is
