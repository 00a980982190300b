-- The errors of a client, from the errors of its calls.
use Rattle.std.proofs.Common.{◌≡◌, ℕ, ◌<◌, inl, inr, Bool, true, false, List, [], ◌∷◌, ◌++◌, refl, sym, subst, append_assoc, Result, Ok, Err, IfErr, IsErrAnd}
use Rattle.coap_client.specs.declared.fetcher.FetchFault.{FetchFault}
use Rattle.coap_client.specs.declared.fetcher.FetchFault.TheVariants as fault
use Rattle.coap_client.specs.declared.transmission.ReplyClass.{ReplyClass}
use Rattle.coap_client.specs.declared.transmission.ReplyClass.TheVariants.{Rejected}
use Rattle.coap_client.specs.Faults.{EndsRejected, IsOfPeer, IsRejectedBy, IsRejectedLater, IsRejection}
use Rattle.coap_client.specs.Listening.{EndsOn, IsAcknowledgedBy, IsPassedOver}
use Rattle.coap_client.specs.PeerCalls.{Adds, PeerError, Sends, Waits}
use Rattle.coap_client.specs.Transmissions.{ack_timeout, most_sendings, non_wait, separate_wait, AreInVain, MakesCalls}
use Rattle.coap_client.proofs.Transmitting.{Calls, again, does_of, last_sending, sending}

abbrev Told : Type 1
Told = List ℕ → ReplyClass → Type 0

-- if `?` returns the error `f`, and `f` has the property `P`, so has the error of the result.
pub raised : {A B : Type 0} (r : Result A B) (f : B) (P : B → Type 0) → IsErrAnd r (λ y. y ≡ f) → P f → IfErr r P
raised (Ok x) f P is h = tt
raised (Err y) f P is h = subst P (sym is) h

-- if the peer is the cause of an error, and `P` implies `Q`, it is so with `Q` as the rejection in
-- place of `P`.
pub of_peer : (is_error : PeerError → Type 0) (P Q : Type 0) (f : FetchFault) → (P → Q) → IsOfPeer is_error P f → IsOfPeer is_error Q f
of_peer is_error P Q fault.Silence turns h = absurd h
of_peer is_error P Q fault.Rejected turns h = turns h
of_peer is_error P Q fault.Malformed turns h = absurd h
of_peer is_error P Q fault.Changed turns h = absurd h
of_peer is_error P Q fault.Part turns h = absurd h
of_peer is_error P Q (fault.Socket error) turns h = h
of_peer is_error P Q (fault.Memory error) turns h = absurd h

-- if the peer returned an error, it is the cause of that error, whatever a rejection is.
pub of_socket : (is_error : PeerError → Type 0) (Q : Type 0) (f : FetchFault) → IsOfPeer is_error ⊥ f → IsOfPeer is_error Q f
of_socket is_error Q f h = of_peer is_error ⊥ Q f (λ x. absurd x) h

pub of_peer_result : {A : Type 0} (is_error : PeerError → Type 0) (P Q : Type 0) (r : Result A FetchFault) → (P → Q) → IfErr r (IsOfPeer is_error P) → IfErr r (IsOfPeer is_error Q)
of_peer_result is_error P Q (Ok x) turns h = h
of_peer_result is_error P Q (Err f) turns h = of_peer is_error P Q f turns h

-- if a wait ended on a datagram of the class `Rejected`, the request was rejected by it.
pub rejection_came : (tells : Told) (awaited : Bool) (bytes : List ℕ) (handled : ReplyClass) (before after : Calls) → tells bytes handled → handled ≡ Rejected
    → MakesCalls before after (EndsOn (IsPassedOver tells awaited) bytes) → MakesCalls before after (IsRejectedBy tells awaited)
rejection_came tells awaited bytes handled before after told is one =
    does_of before after (EndsOn (IsPassedOver tells awaited) bytes) (IsRejectedBy tells awaited) one (λ calls h. (bytes, subst (tells bytes) is told, h))

-- if a confirmable request is sent after n transmissions in vain, and the wait ends by a rejection,
-- the request is rejected.
pub rejected : (tells : Told) (request : List ℕ) (n seconds : ℕ) (before between sent after : Calls) → n < most_sendings
    → MakesCalls before between (AreInVain (IsPassedOver tells false) request n) → seconds ≡ ack_timeout n → Adds between sent (Waits seconds ∷ Sends request ∷ [])
    → MakesCalls sent after (IsRejectedBy tells false) → MakesCalls before after (IsRejection true tells request)
rejected tells request n seconds before between sent after few one twice adds came =
    last_sending (IsPassedOver tells false) request n before between after (EndsRejected tells) few one
    (again request n seconds between sent after (EndsRejected tells) twice adds
    (does_of sent after (IsRejectedBy tells false) (EndsRejected tells) came (λ calls h. inl h)))

-- if a request was acknowledged, and the wait for the separate response ends by a rejection, the
-- request was rejected later.
later : (tells : Told) (before between begun after : Calls) → MakesCalls before between (IsAcknowledgedBy tells) → Adds between begun (Waits separate_wait ∷ [])
    → MakesCalls begun after (IsRejectedBy tells true) → MakesCalls before after (IsRejectedLater tells)
later tells before between begun after one adds other calls h =
    let a = one calls h in
    let b = other (Waits separate_wait ∷ a.more ++ calls) (adds (a.more ++ calls) a.is) in
    record {
      more = b.more ++ Waits separate_wait ∷ a.more;
      are = record { first = a.more; acknowledged = a.are; more = b.more; rejected = b.are; is = refl };
      is = subst after (sym (append_assoc b.more (Waits separate_wait ∷ a.more) calls)) b.is;
    }

pub rejected_later : (tells : Told) (request : List ℕ) (n seconds : ℕ) (before between sent handled begun after : Calls) → n < most_sendings
    → MakesCalls before between (AreInVain (IsPassedOver tells false) request n) → seconds ≡ ack_timeout n → Adds between sent (Waits seconds ∷ Sends request ∷ [])
    → MakesCalls sent handled (λ calls. (false ≡ false) × IsAcknowledgedBy tells calls) → Adds handled begun (Waits separate_wait ∷ [])
    → MakesCalls begun after (IsRejectedBy tells true) → MakesCalls before after (IsRejection true tells request)
rejected_later tells request n seconds before between sent handled begun after few one twice adds came waits other =
    last_sending (IsPassedOver tells false) request n before between after (EndsRejected tells) few one
    (again request n seconds between sent after (EndsRejected tells) twice adds
    (does_of sent after (IsRejectedLater tells) (EndsRejected tells)
    (later tells sent handled begun after (does_of sent handled (λ calls. (false ≡ false) × IsAcknowledgedBy tells calls) (IsAcknowledgedBy tells) came (λ calls h. h.1)) waits other)
    (λ calls h. inr h)))

-- if a non-confirmable request is sent, and the wait ends by a rejection, the request is rejected.
pub rejected_once : (tells : Told) (request : List ℕ) (before between after : Calls) → Adds before between (Waits non_wait ∷ Sends request ∷ [])
    → MakesCalls between after (IsRejectedBy tells true) → MakesCalls before after (IsRejection false tells request)
rejected_once tells request before between after adds one = sending request non_wait before between after (IsRejectedBy tells true) adds one
