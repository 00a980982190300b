-- A refused or rejected message is answered immediately, and produces no job.
use Rattle.std.proofs.Common.{◌≡◌, ℕ, ◌≤◌, List, ◌++◌, map, Bool, false, Option, Some, Ok, Err, refl, sym, ap, ◌∙◌, ◌⊎◌, inl, inr}
use Rattle.std.specs.Prelude.{nat_lt, if◌then◌else◌}
use Rattle.std.proofs.lemmas.Bool.{and_right, le-ltb}
use Rattle.std.proofs.lemmas.List.{append-nil}
use Rattle.coap_msg.specs.declared.types.Bad.TheVariants as bad
use Rattle.coap_msg.specs.declared.types.Emission.{Emission}
use Rattle.coap_msg.specs.declared.types.Endpoint.{Endpoint}
use Rattle.coap_msg.specs.declared.types.MessageType.{MessageType}
use Rattle.coap_msg.specs.declared.types.MessageType.TheVariants.{Confirmable}
use Rattle.coap_msg.specs.Wire.{Message}
use Rattle.coap_opts.specs.Verdict.{Verdict, IsReset, is_request, request_verdict, verdict, verdict_by}
use Rattle.coap_reply.specs.Responses.{reset_of, sent_in}
use Rattle.fc_core.specs.declared.event.Event.{Event}
use Rattle.fc_core.specs.declared.event.Event.TheVariants.{Deliver}
use Rattle.fc_laws.specs.ExchangeLaws.{bare_by}
use Rattle.fc_core.specs.History.{Entry, Seen, and_then, exchanges_received, front_at, received_at, tasks_brought, tasks_moved, at_front, exchanges_by}
use Rattle.fc_core.specs.Legal.{Emits}
use Rattle.fc_front.specs.Receiving.{Received, Refused, Rejected, brought, next_opening, received_as, sent, received_if}
use Rattle.fc_laws.specs.ReplyLaws.{FormatError, IsRefusal, IsRefusedAnew, IsRejected, NoRequest, Refuses, Rejects, reset_to}
use Rattle.fc_core.specs.Stages.{new_task}
use Rattle.fc_core.specs.Transitions.{names}
use Rattle.fc_laws.proofs.front.Repeats.{new_as, opening_is, received_of}

-- ---- a refusal

-- a new request that is refused by this code is classified as refused by it.
refusal_is : (s : Seen) (now : ℕ) (to : Endpoint) (m : Message) (answer : ℕ) → IsRefusal s to m answer → new_as (front_at s now) to (verdict m) m ≡ Refused m answer
refusal_is s now to m answer (inl is) = ap (λ (v : Verdict). new_as (front_at s now) to v m) is
refusal_is s now to m answer (inr w) =
    ap (λ (v : Verdict). new_as (front_at s now) to v m) w.asks
    ∙ (ap (λ (b : Bool). received_if b (front_at s now) to m w.asked) w.allowed
    ∙ ap (λ (n : ℕ). Refused m n) (sym w.answer_is))

-- a datagram with a refused new request is classified as refused by the request's code.
pub refused_is : (s : Seen) (now : ℕ) (to : Endpoint) (bytes : List ℕ) (m : Message) (answer : ℕ) → IsRefusedAnew s now to bytes m answer → received_at s now to bytes ≡ Refused m answer
refused_is s now to bytes m answer w =
    let same : w.opens.message ≡ m = cc (sym w.opens.read ∙ w.read) in
    opening_is s now to bytes w.opens
    ∙ (ap (λ (x : Message). new_as (front_at s now) to (verdict x) x) same
    ∙ refusal_is s now to m answer w.refuses)

refused_emits_by : (s : Seen) (e : Event) (m : Message) (answer : ℕ) (o : Option Emission) → Refuses s e m answer → Emits s e o → o ≡ bare_by s e m answer
refused_emits_by s (Deliver now to bytes) m answer o w sent_so = sent_so ∙ ap (λ (x : Received). sent x (front_at s now) to) (refused_is s now to bytes.now m answer w)
refused_emits_by s other m answer o w sent_so = absurd w

refused_brings_by : (s : Seen) (e : Event) (m : Message) (answer : ℕ) → Refuses s e m answer → tasks_moved (names e) e s ++ tasks_brought e s ≡ s.tasks
refused_brings_by s (Deliver now to bytes) m answer w = ap (λ (x : Received). s.tasks ++ map new_task (brought x (next_opening (front_at s now)) to)) (refused_is s now to bytes.now m answer w) ∙ append-nil s.tasks
refused_brings_by s other m answer w = absurd w

pub refused_emits : (r : Entry) (s : Seen) (m : Message) (answer : ℕ) → Refuses s r.event m answer → Emits s r.event r.emitted → r.emitted ≡ bare_by s r.event m answer
refused_emits r s m answer w sent_so = refused_emits_by s r.event m answer r.emitted w sent_so

pub refused_brings : (r : Entry) (s : Seen) (m : Message) (answer : ℕ) → Refuses s r.event m answer → (and_then r s).tasks ≡ s.tasks
refused_brings r s m answer w = refused_brings_by s r.event m answer w

-- ---- a rejection

no_request : (code : ℕ) → (code ≡ 0) ⊎ (32 ≤ code) → is_request code ≡ false
no_request code (inl none) = ap is_request none
no_request code (inr high) = and_right (nat_lt 0 code) (nat_lt code 32) (le-ltb code 32 high)

reset_verdict : (m : Message) → m.kind ≡ Confirmable → (m.code ≡ 0) ⊎ (32 ≤ m.code) → verdict m ≡ IsReset
unfolding verdict
reset_verdict m kind code = ap (λ (k : MessageType). verdict_by k m) kind ∙ ap (λ (b : Bool). if b then request_verdict m else IsReset) (no_request m.code code)

pub rejected_is : (s : Seen) (now : ℕ) (to : Endpoint) (bytes : List ℕ) (id : ℕ) → IsRejected bytes id → received_at s now to bytes ≡ Rejected id
rejected_is s now to bytes id (FormatError read) = received_of (front_at s now) to bytes (Err (bad.Reset id)) read
rejected_is s now to bytes id (NoRequest m read kind code own) =
    received_of (front_at s now) to bytes (Ok m) read
    ∙ (ap (λ (v : Verdict). received_as (front_at s now) to m v) (reset_verdict m kind code)
    ∙ ap Rejected own)

-- the Reset message for a message ID has these bytes.
reset_bytes : (to : Endpoint) (id : ℕ) → reset_of to id ≡ reset_to to id
unfolding sent_in
reset_bytes to id = refl

rejected_emits_by : (s : Seen) (e : Event) (to : Endpoint) (id : ℕ) (o : Option Emission) → Rejects e to id → Emits s e o → o ≡ Some (reset_to to id)
rejected_emits_by s (Deliver now from bytes) to id o w sent_so =
    sent_so
    ∙ (ap (λ (x : Received). sent x (front_at s now) from) (rejected_is s now from bytes.now id w.1)
    ∙ (ap (λ (x : Endpoint). Some (reset_of x id)) w.0 ∙ ap (λ (e : Emission). Some e) (reset_bytes to id)))
rejected_emits_by s other to id o w sent_so = absurd w

rejected_brings_by : (s : Seen) (e : Event) (to : Endpoint) (id : ℕ) → Rejects e to id → tasks_moved (names e) e s ++ tasks_brought e s ≡ s.tasks
rejected_brings_by s (Deliver now from bytes) to id w = ap (λ (x : Received). s.tasks ++ map new_task (brought x (next_opening (front_at s now)) from)) (rejected_is s now from bytes.now id w.1) ∙ append-nil s.tasks
rejected_brings_by s other to id w = absurd w

rejected_opens_by : (s : Seen) (e : Event) (to : Endpoint) (id : ℕ) (o : Option Emission) → Rejects e to id → exchanges_by (at_front e) o s ≡ s.exchanges
rejected_opens_by s (Deliver now from bytes) to id o w = ap (λ (x : Received). exchanges_received x from o s now) (rejected_is s now from bytes.now id w.1) ∙ append-nil s.exchanges
rejected_opens_by s other to id o w = absurd w

pub rejected_emits : (r : Entry) (s : Seen) (to : Endpoint) (id : ℕ) → Rejects r.event to id → Emits s r.event r.emitted → r.emitted ≡ Some (reset_to to id)
rejected_emits r s to id w sent_so = rejected_emits_by s r.event to id r.emitted w sent_so

pub rejected_brings : (r : Entry) (s : Seen) (to : Endpoint) (id : ℕ) → Rejects r.event to id → (and_then r s).tasks ≡ s.tasks
rejected_brings r s to id w = rejected_brings_by s r.event to id w

pub rejected_opens : (r : Entry) (s : Seen) (to : Endpoint) (id : ℕ) → Rejects r.event to id → (and_then r s).exchanges ≡ s.exchanges
rejected_opens r s to id w = rejected_opens_by s r.event to id r.emitted w
