-- Definitions for the laws of jobs and their messages: the request of a delivery's job, by the
-- code, path and options of the message.
use Rattle.std.specs.Prelude.{◌≡◌, ◌≢◌, ℕ, List, [], ◌∷◌, ◌++◌, Some, Ok, codes}
use Rattle.std.specs.Borrow.{Bor}
use Rattle.std.specs.Fmt.{decimal}
use Rattle.coap_msg.specs.declared.types.Endpoint.{Endpoint}
use Rattle.coap_msg.specs.Reading.{reading_of}
use Rattle.coap_msg.specs.Wire.{Message}
use Rattle.coap_opts.specs.declared.number.TheConstants as option
use Rattle.coap_opts.specs.Verdict.{number_in, query, values}
use Rattle.fc_help.specs.Request.{Request}
use Rattle.fc_help.specs.declared.request.Method.{Method}
use Rattle.fc_ticket.specs.declared.job.Job.{Job}
use Rattle.fc_core.specs.declared.event.Event.TheVariants.{Deliver}
use Rattle.fc_core.specs.History.{Entry, Seen, and_then}
use Rattle.fc_core.specs.Stages.{new_task}

-- the event delivers this message from this endpoint, and makes this job.
pub record BringsJob (r : Entry) (s : Seen) (from : Endpoint) (m : Message) (j : Job) : Type 0 where
  pub now : ℕ
  pub bytes : Bor (List ℕ)
  pub delivers : r.event ≡ Deliver now from bytes
  pub read : reading_of bytes.now ≡ Ok m
  pub comes : (and_then r s).tasks ≡ s.tasks ++ (new_task j ∷ [])

-- ---- by code and path

-- `/r/N`, `/p/N` and `/.well-known/core`, by the segments of Uri-Path (RFC 7252, section 6.4).
abbrev pub run_path : ℕ → List (List ℕ)
run_path n = codes "r" ∷ decimal n ∷ []

abbrev pub program_path : ℕ → List (List ℕ)
program_path n = codes "p" ∷ decimal n ∷ []

abbrev pub core_path : List (List ℕ)
core_path = codes ".well-known" ∷ codes "core" ∷ []

-- a message with this code and this path. The codes are 1 GET, 2 POST, 3 PUT, 4 DELETE (RFC 7252,
-- section 12.1.1).
pub record Requests (m : Message) (code : ℕ) (path : List (List ℕ)) : Type 0 where
  pub code_is : m.code ≡ code
  pub path_is : values option.URI_PATH m ≡ path

-- the request to slot N's program with this method, and with the message's Content-Format, query
-- and payload.
abbrev pub request_in : Method → ℕ → Message → Request
request_in method n m = record { method = method; slot = n; content_format = number_in option.CONTENT_FORMAT m; query = query m; payload = m.payload }

-- ---- by options

-- a message that neither registers its client as an observer, by Observe 0, nor cancels, by Observe
-- 1 (RFC 7641, section 2).
pub record IsPlain (m : Message) : Type 0 where
  pub no_registration : number_in option.OBSERVE m ≢ Some 0
  pub no_cancellation : number_in option.OBSERVE m ≢ Some 1
