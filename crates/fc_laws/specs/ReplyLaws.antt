-- Definitions for the laws of refusals and answers.
use Rattle.std.specs.Prelude.{◌≡◌, ℕ, ◌/◌, ◌%◌, ◌≤◌, ◌⊎◌, false, List, [], ◌∷◌, Ok, Err}
use Rattle.coap_msg.specs.declared.types.Bad.TheVariants as bad
use Rattle.coap_msg.specs.declared.types.Emission.{Emission}
use Rattle.coap_msg.specs.declared.types.Endpoint.{Endpoint}
use Rattle.coap_msg.specs.declared.types.MessageType.{MessageType}
use Rattle.coap_msg.specs.declared.types.MessageType.TheVariants.{Confirmable}
use Rattle.coap_msg.specs.Reading.{reading_of}
use Rattle.coap_msg.specs.Wire.{Message}
use Rattle.coap_opts.specs.Verdict.{Asked, IsAsked, IsRefused, verdict}
use Rattle.fc_front.specs.Policies.{is_allowed}
use Rattle.coap_reply.specs.Responses.{Response, sent_in}
use Rattle.fc_ticket.specs.declared.job.Job.{Job}
use Rattle.fc_core.specs.declared.event.Event.{Event}
use Rattle.fc_core.specs.declared.event.Event.TheVariants.{Deliver}
use Rattle.fc_front.specs.Contents.{Content}
use Rattle.fc_laws.specs.ExchangeLaws.{IsOpening}
use Rattle.fc_core.specs.History.{Seen}
use Rattle.fc_front.specs.Replies.{Says}

-- ---- refusals

-- a request passes each check of its options and is to install or remove a program, but its
-- endpoint isn't a manager's. So it is refused by 4.03 (Forbidden), 131.
pub record IsForbidden (s : Seen) (to : Endpoint) (m : Message) (answer : ℕ) : Type 0 where
  pub asked : Asked
  pub asks : verdict m ≡ IsAsked asked
  pub allowed : is_allowed s.policy.managers to asked.action ≡ false
  pub answer_is : answer ≡ 131

-- a request is refused by this code: a check of its options refuses it, or its endpoint isn't
-- allowed to send it.
abbrev pub IsRefusal : Seen → Endpoint → Message → ℕ → Type 0
IsRefusal s to m answer = (verdict m ≡ IsRefused answer) ⊎ IsForbidden s to m answer

-- the datagram is a request and no duplicate, there is space for its exchange, and it is refused by
-- this code.
pub record IsRefusedAnew (s : Seen) (now : ℕ) (to : Endpoint) (bytes : List ℕ) (m : Message) (answer : ℕ) : Type 0 where
  pub opens : IsOpening s now to bytes
  pub read : reading_of bytes ≡ Ok m
  pub refuses : IsRefusal s to m answer

-- the event delivers a new request that is refused by this code.
abbrev pub Refuses : Seen → Event → Message → ℕ → Type 0
Refuses s (Deliver now to bytes) m answer = IsRefusedAnew s now to bytes.now m answer
Refuses s other m answer = ⊥

-- the datagram is a confirmable message with this message ID, and is rejected. It has a format
-- error, or it isn't a request: it is a ping, whose code is 0.00, or has a code of a class other
-- than 0 (RFC 7252, section 4.2).
pub data IsRejected (bytes : List ℕ) (id : ℕ) : Type 0 where
  FormatError : (read : reading_of bytes ≡ Err (bad.Reset id)) → IsRejected bytes id
  NoRequest : (m : Message) (read : reading_of bytes ≡ Ok m) (kind : m.kind ≡ Confirmable) (code : (m.code ≡ 0) ⊎ (32 ≤ m.code)) (own : m.id ≡ id) → IsRejected bytes id

-- the event delivers a datagram from this endpoint that is rejected with this message ID.
abbrev pub Rejects : Event → Endpoint → ℕ → Type 0
Rejects (Deliver now from bytes) to id = (from ≡ to) × IsRejected bytes.now id
Rejects other to id = ⊥

-- a Reset message with this message ID: version 1, type 3, no token, code 0.00 (RFC 7252, section
-- 3).
abbrev pub reset_to : Endpoint → ℕ → Emission
reset_to to id = record { to = to; bytes = record { items = 112 ∷ 0 ∷ (id / 256) ∷ (id % 256) ∷ [] } }

-- ---- answers

-- the emission is the answer of the job with this content. It is sent to the client's endpoint,
-- with this type and message ID, and with the request's token.
pub record IsAnswerTo (j : Job) (content : Content) (kind : MessageType) (id : ℕ) (e : Emission) : Type 0 where
  pub response : Response
  pub says : Says j content response
  pub is : e ≡ sent_in (record { to = j.origin.endpoint; kind = kind; id = id; token = j.token.items }) response
