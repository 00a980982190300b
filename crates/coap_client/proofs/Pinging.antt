-- A ping, by its calls.
use Rattle.std.proofs.Common.{◌≡◌, ℕ, zero, suc, ◌+◌, ◌*◌, ◌-◌, ◌<◌, Bool, true, false, List, [], ◌∷◌, ◌++◌, drop, inl, inr, Some, refl, ap, subst, ◌∙◌, arith, if◌then◌else◌}
use Rattle.coap_client.specs.declared.fetcher.FetchFault.{FetchFault}
use Rattle.coap_client.specs.declared.fetcher.FetchFault.TheVariants as fault
use Rattle.coap_client.specs.Faults.{IsOfPeer}
use Rattle.coap_client.specs.Handled.{IsReadAs}
use Rattle.coap_client.specs.Listening.{ArePassedOver, EndsOn, IsOver}
use Rattle.coap_client.specs.PeerCalls.{PeerCall, PeerError, Receives, Sends, Waits}
use Rattle.coap_client.specs.Pings.{EndsOnPong, IsNoPong, IsPingFault, IsPinged, IsPingedInVain, is_own_call, own_calls, ping_bytes}
use Rattle.coap_client.specs.Replies.{IsReset}
use Rattle.coap_client.specs.Schedules.{BeginsSchedule, full_schedule}
use Rattle.coap_client.specs.Transmissions.{ack_timeout, most_sendings, AreInVain, IsSending, MakesCalls}
use Rattle.coap_client.proofs.Transmitting.{Calls, does, does_of}

-- if a datagram isn't the ping's Reset message, it is skipped, and nothing is sent after it.
pub no_pong : (id : ℕ) (bytes : List ℕ) (now : Calls) → (IsReadAs bytes (IsReset id) → ⊥) → MakesCalls now now (IsNoPong id bytes)
no_pong id bytes now other = does now now (IsNoPong id bytes) [] (λ calls h. h) (other, refl)

pub pong : (id : ℕ) (bytes : List ℕ) (before after : Calls) → IsReadAs bytes (IsReset id) → MakesCalls before after (EndsOn (IsNoPong id) bytes) → MakesCalls before after (EndsOnPong id)
pong id bytes before after rejects one =
    does_of before after (EndsOn (IsNoPong id) bytes) (EndsOnPong id) one (λ calls h. record { bytes = bytes; rejects = rejects; ends = h })

pub in_vain_to_the_end : (id : ℕ) (request : List ℕ) (n : ℕ) (before after : Calls) → n ≡ most_sendings → request ≡ ping_bytes id
    → MakesCalls before after (AreInVain (IsNoPong id) request n) → MakesCalls before after (IsPingedInVain id)
in_vain_to_the_end id request n before after five is one =
    subst (λ (x : List ℕ). MakesCalls before after (AreInVain (IsNoPong id) x most_sendings)) is
    (subst (λ (k : ℕ). MakesCalls before after (AreInVain (IsNoPong id) request k)) five one)

pub ping_fault : (is_error : PeerError → Type 0) (Makes : Calls → Type 0) (id : ℕ) (f : FetchFault) → IsOfPeer is_error ⊥ f → IsPingFault is_error Makes id f
ping_fault is_error Makes id fault.Silence h = absurd h
ping_fault is_error Makes id fault.Rejected h = absurd h
ping_fault is_error Makes id fault.Malformed h = absurd h
ping_fault is_error Makes id fault.Changed h = absurd h
ping_fault is_error Makes id fault.Part h = absurd h
ping_fault is_error Makes id (fault.Socket error) h = h
ping_fault is_error Makes id (fault.Memory error) h = absurd h

-- ---- the messages sent, and when

joined_by : (b : Bool) (x : PeerCall) (xs ys : List PeerCall) → (if b then x ∷ (xs ++ ys) else xs ++ ys) ≡ (if b then x ∷ xs else xs) ++ ys
joined_by true x xs ys = refl
joined_by false x xs ys = refl

joined : (newer older : List PeerCall) → own_calls (newer ++ older) ≡ own_calls newer ++ own_calls older
joined [] older = refl
joined (x ∷ newer) older = ap (λ (l : List PeerCall). if is_own_call x then x ∷ l else l) (joined newer older) ∙ joined_by (is_own_call x) x (own_calls newer) (own_calls older)

-- during a wait, nothing is sent, and no other wait begins.
passed : (id n : ℕ) (calls : List PeerCall) → ArePassedOver (IsNoPong id) n calls → own_calls calls ≡ []
passed id zero calls none = ap own_calls none
passed id (suc n) calls one =
    ap own_calls one.is ∙ (ap (λ (sent : List PeerCall). own_calls (sent ++ Receives (Some one.bytes) ∷ one.older)) one.passed.1 ∙ passed id n one.older one.before)

over : (id : ℕ) (handled : List PeerCall) → IsOver (IsNoPong id) handled → own_calls handled ≡ []
over id handled o = elim o.is as (λ _. own_calls handled ≡ []) [
  | inl timed ↦ ap own_calls timed ∙ passed id o.n o.older o.before
  | inr full ↦ ap own_calls full.0 ∙ passed id o.n o.older o.before
]

-- the calls of the first n of the five transmissions.
abbrev first_of : List ℕ → ℕ → List PeerCall
first_of request n = drop (2 * (5 - n)) (full_schedule request)

one_more : (request : List ℕ) (n : ℕ) → n < 5 → Waits (ack_timeout n) ∷ Sends request ∷ first_of request n ≡ first_of request (n + 1)
one_more request zero few = refl
one_more request (suc zero) few = refl
one_more request (suc (suc zero)) few = refl
one_more request (suc (suc (suc zero))) few = refl
one_more request (suc (suc (suc (suc zero)))) few = refl
one_more request (suc (suc (suc (suc (suc n))))) few = absurd (omega (arith, few))

once_more : (request : List ℕ) (n : ℕ) (P : List PeerCall → Type 0) (calls older last : List PeerCall) → n < 5 → own_calls older ≡ first_of request n
    → (s : IsSending request (ack_timeout n) P last) → own_calls s.handled ≡ [] → calls ≡ last ++ older → own_calls calls ≡ first_of request (n + 1)
once_more request n P calls older last few before s handled is =
    ap own_calls is
    ∙ (joined last older
    ∙ (ap (λ (l : List PeerCall). own_calls l ++ own_calls older) s.is
    ∙ (ap (λ (l : List PeerCall). l ++ own_calls older) (joined s.handled (Waits (ack_timeout n) ∷ Sends request ∷ []))
    ∙ (ap (λ (l : List PeerCall). (l ++ Waits (ack_timeout n) ∷ Sends request ∷ []) ++ own_calls older) handled
    ∙ (ap (λ (l : List PeerCall). Waits (ack_timeout n) ∷ Sends request ∷ l) before ∙ one_more request n few)))))

pub all_in_vain : (id n : ℕ) (calls : List PeerCall) → n < 6 → AreInVain (IsNoPong id) (ping_bytes id) n calls → own_calls calls ≡ first_of (ping_bytes id) n
all_in_vain id zero calls few none = ap own_calls none
all_in_vain id (suc n) calls few again =
    once_more (ping_bytes id) n (IsOver (IsNoPong id)) calls again.older again.last (omega (arith, few)) (all_in_vain id n again.older (omega (arith, few)) again.before) again.in_vain
    (over id again.in_vain.handled again.in_vain.ends) again.is
    ∙ ap (first_of (ping_bytes id)) (omega arith)

pub answered : (id : ℕ) (calls : List PeerCall) → IsPinged id calls → BeginsSchedule (ping_bytes id) (own_calls calls)
answered id calls s =
    let few = s.few in
    let ends = s.sending.ends in
    let is : own_calls calls ≡ first_of (ping_bytes id) (s.n + 1) =
    once_more (ping_bytes id) s.n (EndsOnPong id) calls s.older s.last few (all_in_vain id s.n s.older (omega (arith, few)) s.before) s.sending
    (ap own_calls ends.ends.is ∙ passed id ends.ends.n ends.ends.older ends.ends.before) s.is in
    (5 - (s.n + 1), omega (arith, few), is)
