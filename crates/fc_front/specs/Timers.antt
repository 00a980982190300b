-- The job of a timer: a POST of the timer's slot. The server makes it by itself, and no exchange is
-- opened for it.
use Rattle.std.specs.Prelude.{ℕ, ◌%◌, false, [], ◌∷◌, None}
use Rattle.coap_msg.specs.declared.types.Endpoint.{Endpoint}
use Rattle.fc_help.specs.Request.{Request}
use Rattle.fc_help.specs.declared.request.Method.TheVariants.{Post}
use Rattle.fc_ticket.specs.declared.job.Ask.TheVariants.{Run}
use Rattle.fc_ticket.specs.declared.job.Job.{Job}
use Rattle.fc_ticket.specs.declared.job.Opening.{Opening}

-- the opening of a job without an exchange: no exchange has this number.
abbrev pub no_opening : Opening
no_opening = record { number = 18446744073709551615; at = 0 }

-- the endpoint 0.0.0.0:0, which no peer has (RFC 1122, section 3.2.1.3).
abbrev pub unspecified : Endpoint
unspecified = record { ip = 0 ∷ 0 ∷ 0 ∷ 0 ∷ []; port = 0 }

-- a POST of slot n's resource, without a Content-Format, a query and a payload.
abbrev pub timer_request : ℕ → Request
timer_request n = record { method = Post; slot = n; content_format = None; query = []; payload = [] }

-- the job of that POST, which isn't confirmable and has neither a token nor options. The slot is n
-- modulo 64.
abbrev pub timer_job : ℕ → Job
timer_job n = record {
  origin = record { opening = no_opening; endpoint = unspecified; id = 0; slot = n % 64 };
  turn = None;
  confirmable = false;
  token = record { items = [] };
  etags = record { items = [] };
  block = None;
  observe = None;
  ask = Run (timer_request (n % 64));
}
