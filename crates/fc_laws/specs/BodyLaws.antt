-- Definitions for the laws of bodies in blocks.
use Rattle.std.specs.Prelude.{◌≡◌, ℕ, List, [], ◌∷◌, ◌++◌, max, true, Option, Some, None, Ok}
use Rattle.coap_msg.specs.declared.types.Emission.{Emission}
use Rattle.coap_msg.specs.declared.types.Endpoint.{Endpoint}
use Rattle.coap_msg.specs.Codes.{code}
use Rattle.coap_msg.specs.Reading.{reading_of}
use Rattle.coap_msg.specs.Wire.{Message}
use Rattle.coap_opts.specs.Values.{Place}
use Rattle.coap_opts.specs.declared.request.Action.TheVariants as actions
use Rattle.coap_opts.specs.Verdict.{Asked, IsAsked, verdict}
use Rattle.coap_block.specs.Transfers.{Addition}
use Rattle.coap_block.specs.UnderWay.{FitsBehind}
use Rattle.fc_ticket.specs.declared.job.Ask.TheVariants.{Install as Installs}
use Rattle.fc_ticket.specs.declared.job.Job.{Job}
use Rattle.fc_core.specs.declared.event.Event.{Event}
use Rattle.fc_core.specs.declared.event.Event.TheVariants.{Deliver}
use Rattle.fc_laws.specs.ExchangeLaws.{IsOpening}
use Rattle.fc_core.specs.History.{Entry, Seen, and_then, front_at}
use Rattle.fc_front.specs.Receiving.{Received, Immediate, add_in, addition_of, received_added, reply_sent, initial_vars_by}
use Rattle.fc_front.specs.Policies.{is_allowed}
use Rattle.coap_reply.specs.Responses.{Response, bare, settled_by}
use Rattle.fc_core.specs.Stages.{new_task}

-- classification of a new request by the server, after this time is passed to the server. The
-- request's endpoint is allowed to send the request.
abbrev pub asked_at : Seen → ℕ → Endpoint → Message → Asked → Received
asked_at s now to m r = received_added (add_in (front_at s now) to r) m r

-- the payload that the request adds to a transfer.
abbrev pub addition_at : Seen → ℕ → Endpoint → Asked → Addition
addition_at s now to r = addition_of (max s.time now) to r

-- the datagram is a request and no duplicate, and there is space for its exchange. The request
-- passes every check of its options, and its endpoint is allowed to send it.
pub record IsAskedAnew (s : Seen) (now : ℕ) (to : Endpoint) (bytes : List ℕ) (m : Message) (r : Asked) : Type 0 where
  pub opens : IsOpening s now to bytes
  pub read : reading_of bytes ≡ Ok m
  pub asks : verdict m ≡ IsAsked r
  pub allowed : is_allowed s.policy.managers to r.action ≡ true

-- the event delivers a new request that passes every check of its options and is allowed.
abbrev pub Asks : Seen → Event → Message → Asked → Type 0
Asks s (Deliver now to bytes) m r = IsAskedAnew s now to bytes.now m r
Asks s other m r = ⊥

-- the payload that the request of this event adds; only a delivery adds one.
abbrev pub addition_by : Seen → Event → Asked → List Addition
addition_by s (Deliver now to bytes) r = addition_at s now to r ∷ []
addition_by s other r = []

-- the event's request has a block that fits after the payloads before it. Together with them the
-- block's payload makes this body.
abbrev pub FitsBy : Seen → Event → Asked → Place → List ℕ → Type 0
FitsBy s (Deliver now to bytes) r b body = FitsBehind s.additions (addition_at s now to r) b body
FitsBy s other r b body = ⊥

-- a PUT of slot N with a block.
pub record PutsBlock (r : Asked) (n : ℕ) (b : Place) : Type 0 where
  pub action : r.action ≡ actions.Install n
  pub block : r.block1 ≡ Some b

-- one job arrives, which installs this body in slot N. This request's query determines the initial
-- variables.
pub record BringsInstall (e : Entry) (s : Seen) (r : Asked) (n : ℕ) (body : List ℕ) : Type 0 where
  pub job : Job
  pub tasks : (and_then e s).tasks ≡ s.tasks ++ (new_task job ∷ [])
  pub asks : job.ask ≡ Installs (record { items = body }) (initial_vars_by r.query)
  pub slot : job.origin.slot ≡ n

-- the 2.31 (Continue) response to the event's request, with the Block1 of the request.
abbrev pub continue_by : Seen → Event → Message → Place → Option Emission
continue_by s (Deliver now to bytes) m b = reply_sent (front_at s now) to m (settled_by (code 2 31) (Some b))
continue_by s other m b = None

-- the event delivers a request with a block, which is answered immediately, by this code alone.
abbrev pub RespondsNowBy : Seen → Event → Message → Asked → ℕ → Type 0
RespondsNowBy s (Deliver now to bytes) m r answer = asked_at s now to m r ≡ Immediate m r (bare answer)
RespondsNowBy s other m r answer = ⊥

-- immediate answers to a block: 2.31 (Continue) with its Block1, or the code of a refusal alone.
pub data IsAnswerAtOnce (b : Place) (response : Response) : Type 0 where
  Continue : (is : response ≡ settled_by 95 (Some b)) → IsAnswerAtOnce b response
  Unavailable : (is : response ≡ bare 163) → IsAnswerAtOnce b response
  Incomplete : (is : response ≡ bare 136) → IsAnswerAtOnce b response
  BadRequest : (is : response ≡ bare 128) → IsAnswerAtOnce b response
  TooLarge : (is : response ≡ bare 141) → IsAnswerAtOnce b response
