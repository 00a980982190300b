-- The handling of a datagram by a front. The classification of the datagram determines the exchange
-- that is opened, the job that is made, the message ID that is drawn, and the response.
use Rattle.std.specs.Prelude.{ℕ, ◌+◌, ◌<◌, ◌≤◌, ◌||◌, Bool, true, false, if◌then◌else◌, List, [], ◌∷◌, ◌++◌, length, map, codes, Option, Some, None, Result, Ok, Err}
use Rattle.std.specs.Str.{bytes_eq}
use Rattle.coap_msg.specs.declared.types.Bad.{Bad}
use Rattle.coap_msg.specs.declared.types.Bad.TheVariants as bad
use Rattle.coap_msg.specs.declared.types.Endpoint.{Endpoint}
use Rattle.coap_msg.specs.declared.types.Emission.{Emission}
use Rattle.coap_msg.specs.declared.types.MessageType.{MessageType}
use Rattle.coap_msg.specs.declared.types.MessageType.TheVariants.{Confirmable}
use Rattle.coap_msg.specs.Codes.{code}
use Rattle.coap_msg.specs.Wire.{Message}
use Rattle.coap_msg.specs.Reading.{reading_of}
use Rattle.coap_opts.specs.declared.request.Action.{Action}
use Rattle.coap_opts.specs.declared.request.Action.TheVariants as actions
use Rattle.coap_opts.specs.declared.request.Resource.{Resource}
use Rattle.coap_opts.specs.declared.request.Resource.TheVariants as resources
use Rattle.coap_opts.specs.declared.observe.TheConstants as observe
use Rattle.coap_opts.specs.Observe.{has_observe}
use Rattle.coap_opts.specs.Served.{resource_in}
use Rattle.coap_opts.specs.Verdict.{Asked, Verdict, IsAsked, IsRefused, IsSilent, IsReset, IsSignal, IsIgnored, verdict}
use Rattle.coap_dedup.specs.Exchanges.{Exchange}
use Rattle.coap_dedup.specs.Exchanges.{Look, IsNew, IsBusy, IsAgain, IsSilent as IsAnsweredNon, IsFull, IsOverShare, look_at}
use Rattle.coap_dedup.specs.Calls.{answered}
use Rattle.coap_opts.specs.Values.{Place}
use Rattle.coap_block.specs.declared.transfer.Transfer.{Transfer}
use Rattle.coap_block.specs.Uploads.{Add, Continues, IsWhole, IsIncomplete, IsBadLength, IsTooLarge, IsFull, add_of}
use Rattle.coap_block.specs.Transfers.{Addition, after_addition}
use Rattle.fc_help.specs.Request.{Request}
use Rattle.fc_help.specs.declared.request.Method.{Method as Verb}
use Rattle.fc_help.specs.declared.request.Method.TheVariants.{Get, Post}
use Rattle.fc_ticket.specs.declared.job.Opening.{Opening}
use Rattle.fc_ticket.specs.declared.job.Ask.{Ask}
use Rattle.fc_ticket.specs.declared.job.Ask.TheVariants.{Run, Install, Remove, Describe, Discover}
use Rattle.fc_ticket.specs.declared.job.Job.{Job}
use Rattle.fc_ticket.specs.declared.job.InitialVars.{InitialVars}
use Rattle.fc_ticket.specs.declared.job.InitialVars.TheVariants.{Zeros, Kept}
use Rattle.fc_front.specs.declared.by_value.Delivered.{Delivered}
use Rattle.fc_front.specs.declared.by_value.Delivered.TheVariants.{Nothing, Reply, Job as Brings, Signal}
use Rattle.fc_front.specs.declared.front.Handled.{Handled}
use Rattle.fc_front.specs.declared.front.Handled.TheVariants as hearing
use Rattle.coap_reply.specs.Responses.{Response, bare, reply_kind, sent_in, settled_by, reset_of}
use Rattle.fc_front.specs.Ids.{Ids, free_id, reply_id, drawn_for}
use Rattle.fc_front.specs.Exchanges.{FrontState}
use Rattle.fc_front.specs.Policies.{is_allowed}

-- ---- classification

pub data Received : Type 0 where
  Ignored : Received
  -- rejected by a Reset message with this message ID (RFC 7252, sections 4.2 and 4.3).
  Rejected : (id : ℕ) → Received
  -- an acknowledgement or a reset of the message that was sent with this message ID.
  Signals : (id : ℕ) (reset : Bool) → Received
  -- a request that gets no response. It duplicates a request in progress or an answered
  -- non-confirmable request, or it is non-confirmable and above its address's share.
  Unanswered : Received
  -- a duplicate of a confirmable request that was answered by these bytes.
  Again : (bytes : List ℕ) → Received
  -- a new request without space for its exchange, which is answered 5.03.
  Full : (m : Message) → Received
  -- a new request that gets no response, or that is refused by a code.
  Silenced : (m : Message) → Received
  Refused : (m : Message) (answer : ℕ) → Received
  -- a block that is answered immediately: it is refused, or isn't the last one (RFC 7959, section
  -- 2.9).
  Immediate : (m : Message) (asked : Asked) (response : Response) → Received
  -- a new request that is served, with its complete body (RFC 7959, section 2.5).
  Opened : (m : Message) (asked : Asked) (body : List ℕ) → Received

-- the slot of a resource. The list of slots belongs to no slot, so it has slot 0 here.
abbrev pub slot_of_resource : Resource → ℕ
slot_of_resource (resources.Run n) = n
slot_of_resource (resources.Program n) = n
slot_of_resource resources.Core = 0

abbrev pub slot_asked : Action → ℕ
slot_asked action = slot_of_resource (resource_in action)

-- the classification of a request by the result of adding its payload. The request is served if its
-- body is complete. Otherwise it is answered 2.31 (Continue) with its Block1, 4.08 (Request Entity
-- Incomplete), 4.00 (Bad Request), 4.13 (Request Entity Too Large) or 5.03 (Service Unavailable).
abbrev pub received_added : Add → Message → Asked → Received
received_added (IsWhole body) m r = Opened m r body
received_added Continues m r = Immediate m r (settled_by (code 2 31) r.block1)
received_added IsIncomplete m r = Immediate m r (bare (code 4 8))
received_added IsBadLength m r = Immediate m r (bare (code 4 0))
received_added IsTooLarge m r = Immediate m r (bare (code 4 13))
received_added IsFull m r = Immediate m r (bare (code 5 3))

-- the result of adding the payload of a request, which is the complete body if there is no Block1.
abbrev pub add_in : FrontState → Endpoint → Asked → Add
add_in f to r = add_of f.transfers f.now to (slot_asked r.action) r.block1 r.payload

-- the classification of a new request. A request that its endpoint isn't allowed to send is refused
-- by 4.03 (Forbidden), and the payload is added to no transfer.
abbrev pub received_if : Bool → FrontState → Endpoint → Message → Asked → Received
received_if true f to m r = received_added (add_in f to r) m r
received_if false f to m r = Refused m (code 4 3)

abbrev pub request_received : FrontState → Endpoint → Message → Asked → Received
request_received f to m r = received_if (is_allowed f.managers to r.action) f to m r

abbrev pub is_confirmable : MessageType → Bool
is_confirmable Confirmable = true
is_confirmable other = false

-- the classification of a new request above its address's share. A non-confirmable one is ignored,
-- since its response would need a message ID of the server (RFC 7252, section 4.3).
abbrev pub over_share : Bool → Message → Received
over_share true m = Full m
over_share false m = Unanswered

-- the classification of a request by the look-up of its exchange. The last argument is the
-- classification of a new request.
abbrev pub looked : Look → Message → Received → Received
looked IsNew m new = new
looked IsBusy m new = Unanswered
looked IsAnsweredNon m new = Unanswered
looked (IsAgain bytes) m new = Again bytes
looked IsFull m new = Full m
looked IsOverShare m new = over_share (is_confirmable m.kind) m

abbrev pub look_in : FrontState → Endpoint → Message → Look
look_in f to m = look_at (record { limits = f.limits; now = f.now; opened = f.opened; held = f.held }) to m.id

abbrev pub received_as : FrontState → Endpoint → Message → Verdict → Received
received_as f to m (IsAsked asked) = looked (look_in f to m) m (request_received f to m asked)
received_as f to m (IsRefused answer) = looked (look_in f to m) m (Refused m answer)
received_as f to m IsSilent = looked (look_in f to m) m (Silenced m)
received_as f to m IsReset = Rejected m.id
received_as f to m (IsSignal reset) = Signals m.id reset
received_as f to m IsIgnored = Ignored

abbrev pub received_read : FrontState → Endpoint → Result Message Bad → Received
received_read f to (Ok m) = received_as f to m (verdict m)
received_read f to (Err bad.Ignore) = Ignored
received_read f to (Err (bad.Reset id)) = Rejected id

-- the classification of a datagram from an endpoint, by a front that has advanced to the time.
unfoldable pub received : FrontState → Endpoint → List ℕ → Received
received f to bytes = received_read f to (reading_of bytes)

-- ---- the job of a request

-- the request that slot n's program is to answer.
abbrev pub request_asked : Verb → ℕ → Asked → Request
request_asked method n r = record { method = method; slot = n; content_format = r.content_format; query = r.query; payload = r.payload }

-- an install keeps the variables if the whole query is `keep`; any other query has no effect.
abbrev pub initial_vars_by : List ℕ → InitialVars
initial_vars_by query = if bytes_eq query (codes "keep") then Kept else Zeros

-- the action of a request. A GET or POST of /r/N runs slot N's program. A PUT of /p/N installs its
-- body, a DELETE removes slot N's program, and a GET reads the program's receipt. A GET of
-- /.well-known/core lists the slots that have a program.
abbrev pub ask_by : Action → Asked → List ℕ → Ask
ask_by (actions.Get n) r body = Run (request_asked Get n r)
ask_by (actions.Post n) r body = Run (request_asked Post n r)
ask_by (actions.Install n) r body = Install (record { items = body }) (initial_vars_by r.query)
ask_by (actions.Remove n) r body = Remove
ask_by (actions.Describe n) r body = Describe
ask_by actions.Discover r body = Discover

-- the block that a request names: the Block1 of a PUT, or the Block2 of a GET.
abbrev pub named_block : Option Place → Option Place → Option Place
named_block (Some sent) asked = Some sent
named_block None asked = asked

-- whether a request registers or cancels an observation (RFC 7641, section 2).
abbrev pub observes : Option ℕ → Bool
observes option = has_observe observe.REGISTER option || has_observe observe.CANCEL option

-- the ETags of a job. A request that registers or cancels an observation has none, since it is
-- answered by a run, even if the client has the response.
abbrev pub etags_by : Bool → List ℕ → List ℕ
etags_by true etags = []
etags_by false etags = etags

abbrev pub job_of : Opening → Endpoint → Message → Asked → List ℕ → Job
job_of opening to m r body = record {
  origin = record { opening = opening; endpoint = to; id = m.id; slot = slot_asked r.action };
  turn = None;
  confirmable = is_confirmable m.kind;
  token = record { items = m.token };
  etags = record { items = etags_by (observes r.observe) r.etags };
  block = named_block r.block1 r.block2;
  observe = r.observe;
  ask = ask_by r.action r body;
}

-- the request has at most 64 bytes of query and 1,024 of payload.
abbrev pub RequestWithin : Request → Type 0
RequestWithin request = (length request.query ≤ 64) × (length request.payload ≤ 1024)

-- the request of a job's run is within these limits.
abbrev pub AskWithin : Ask → Type 0
AskWithin (Run request) = RequestWithin request
AskWithin other = Unit {0}

abbrev pub JobWithin : Job → Type 0
JobWithin job = (job.origin.slot < 64) × AskWithin job.ask

-- ---- the response

-- the response to a message, with this message ID; `None` without one.
abbrev pub reply_sent_by : Option ℕ → Endpoint → Message → Response → Option Emission
reply_sent_by None to m response = None
reply_sent_by (Some id) to m response = Some (sent_in (record { to = to; kind = reply_kind (is_confirmable m.kind); id = id; token = m.token }) response)

abbrev pub id_in : FrontState → Bool → ℕ → Option ℕ
id_in f confirmable id = reply_id confirmable id (free_id f.ids f.now)

abbrev pub reply_sent : FrontState → Endpoint → Message → Response → Option Emission
reply_sent f to m response = reply_sent_by (id_in f (is_confirmable m.kind) m.id) to m response

abbrev pub sent : Received → FrontState → Endpoint → Option Emission
sent (Rejected id) f to = Some (reset_of to id)
sent (Again bytes) f to = Some (record { to = to; bytes = record { items = bytes } })
sent (Full m) f to = reply_sent f to m (bare (code 5 3))
sent (Refused m answer) f to = reply_sent f to m (bare answer)
sent (Immediate m asked response) f to = reply_sent f to m response
sent other f to = None

-- ---- the exchange, message ID and job

abbrev pub next_opening : FrontState → Opening
next_opening f = record { number = f.opened; at = f.now }

abbrev pub exchange_of : Opening → Endpoint → Message → Exchange
exchange_of o to m = record { endpoint = to; id = m.id; confirmable = is_confirmable m.kind; number = o.number; at = o.at; answer = None }

-- the front after it opened an exchange for a request.
abbrev pub opening_for : FrontState → Endpoint → Message → FrontState
opening_for f to m = record f { opened = f.opened + 1; held = f.held ++ (exchange_of (next_opening f) to m ∷ []) }

-- the exchange that is opened for a classified datagram, if any.
abbrev pub opened_by : Received → Opening → Endpoint → List Exchange
opened_by (Opened m asked body) o to = exchange_of o to m ∷ []
opened_by (Immediate m asked response) o to = exchange_of o to m ∷ []
opened_by (Silenced m) o to = exchange_of o to m ∷ []
opened_by (Refused m answer) o to = exchange_of o to m ∷ []
opened_by other o to = []

-- the emission that is stored as the exchange's answer, if any.
abbrev pub kept_of : Received → Option Emission → Option Emission
kept_of (Refused m answer) emitted = emitted
kept_of (Immediate m asked response) emitted = emitted
kept_of other emitted = None

-- the message IDs after a classified datagram. An immediate response draws one if the request isn't
-- confirmable.
abbrev pub drawn_by : Received → Ids → ℕ → Ids
drawn_by (Full m) ids at = drawn_for (is_confirmable m.kind) ids at
drawn_by (Refused m answer) ids at = drawn_for (is_confirmable m.kind) ids at
drawn_by (Immediate m asked response) ids at = drawn_for (is_confirmable m.kind) ids at
drawn_by other ids at = ids

abbrev pub brought : Received → Opening → Endpoint → List Job
brought (Opened m asked body) o to = job_of o to m asked body ∷ []
brought other o to = []

-- the payload of a request, with the request's block if there is one.
abbrev pub addition_of : ℕ → Endpoint → Asked → Addition
addition_of at to r = record { at = at; endpoint = to; slot = slot_asked r.action; block = r.block1; payload = r.payload }

abbrev pub added_by : Received → ℕ → Endpoint → List Addition
added_by (Opened m asked body) at to = addition_of at to asked ∷ []
added_by (Immediate m asked response) at to = addition_of at to asked ∷ []
added_by other at to = []

-- the transfers after these payloads were added, the last in the list first.
abbrev pub after_added : List Addition → List Transfer → List Transfer
after_added [] held = held
after_added (a ∷ more) held = after_addition a (after_added more held)

-- ---- a delivery

abbrev pub reply_or_nothing : Option Emission → Delivered
reply_or_nothing None = Nothing
reply_or_nothing (Some emission) = Reply emission

-- the result of a delivery whose job or response was written.
abbrev pub handled : Handled → Job → Emission → Delivered
handled hearing.Nothing job emission = Nothing
handled hearing.Reply job emission = Reply emission
handled hearing.Job job emission = Brings job
handled (hearing.Signal id reset) job emission = Signal id reset

abbrev pub handled_if : Bool → Handled
handled_if true = hearing.Reply
handled_if false = hearing.Nothing

-- the emission that was written, if there is one to send.
abbrev pub emission_if : Bool → Emission → Option Emission
emission_if true emission = Some emission
emission_if false emission = None

-- the result of a delivery: a job, a signal for the observers, or the response to send immediately.
abbrev pub handed_on : Received → FrontState → Endpoint → Delivered
handed_on (Opened m asked body) f to = Brings (job_of (next_opening f) to m asked body)
handed_on (Signals id reset) f to = Signal id reset
handed_on other f to = reply_or_nothing (sent other f to)

-- the result of a delivery to a front that has advanced to the time.
abbrev pub delivered : FrontState → Endpoint → List ℕ → Delivered
delivered f to bytes = handed_on (received f to bytes) f to

-- the front after it stored this emission as the answer of the exchange with this number.
abbrev pub keeping : ℕ → Option Emission → FrontState → FrontState
keeping number None f = f
keeping number (Some emission) f = record f { held = map (answered f.now number emission.bytes) f.held }

-- the front after it opened an exchange for a request and answered the request immediately.
abbrev pub immediate_front : FrontState → Endpoint → Message → Response → FrontState
immediate_front f to m response = keeping f.opened (reply_sent f to m response) (record (opening_for f to m) { ids = drawn_for (is_confirmable m.kind) f.ids f.now })

-- the state of a front after a classified datagram.
abbrev pub after_received : Received → FrontState → Endpoint → FrontState
after_received x f to =
    let new = opened_by x (next_opening f) to in
    keeping f.opened (kept_of x (sent x f to)) (record f {
      opened = f.opened + length new;
      held = f.held ++ new;
      transfers = after_added (added_by x f.now to) f.transfers;
      ids = drawn_by x f.ids f.now;
    })

abbrev pub after_delivered : FrontState → Endpoint → List ℕ → FrontState
after_delivered f to bytes = after_received (received f to bytes) f to
