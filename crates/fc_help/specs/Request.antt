-- The request that a program handles.
use Rattle.std.specs.Prelude.{ℕ, List, [], Option, None}
use Rattle.fc_help.specs.declared.request.Method.{Method}
use Rattle.fc_help.specs.declared.request.Method.TheVariants.{Get}

-- a request: its method, its slot, and the payload's Content-Format if the request states one; the
-- values of the Uri-Query options joined by `&`, and the payload (RFC 7252, section 5.10).
pub record Request : Type 0 where
  pub method : Method
  pub slot : ℕ
  pub content_format : Option ℕ
  pub query : List ℕ
  pub payload : List ℕ

-- an empty GET of slot 0.
abbrev pub no_request : Request
no_request = record { method = Get; slot = 0; content_format = None; query = []; payload = [] }
