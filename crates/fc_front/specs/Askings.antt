-- The handling of a new request, by its verdict.
use Rattle.std.specs.Prelude.{◌≤◌, length, Bool, false}
use Rattle.coap_msg.specs.Wire.{Message}
use Rattle.coap_msg.specs.declared.code.TheConstants.Code as registered
use Rattle.coap_opts.specs.declared.request.Asking.{Asking}
use Rattle.coap_opts.specs.declared.request.Asking.TheVariants.{Serve, Refuse, Silent}
use Rattle.coap_opts.specs.declared.request.Request.{Request}
use Rattle.coap_opts.specs.Fields.{IsResource}
use Rattle.coap_opts.specs.Served.{resource_in}
use Rattle.coap_opts.specs.Verdict.{Asked}
use Rattle.coap_opts.specs.Verdict.{asked_by}
use Rattle.fc_front.specs.Exchanges.{FrontState}
use Rattle.fc_front.specs.Receiving.{Received, Refused, Silenced, look_in, looked, request_received}
use Rattle.coap_msg.specs.declared.types.Endpoint.{Endpoint}

abbrev pub new_request : FrontState → Endpoint → Message → Asking (Unit {0}) → Request → Received
new_request f to m (Serve done) request = request_received f to m (asked_by request)
new_request f to m (Refuse answer) request = Refused m answer.byte
new_request f to m Silent request = Silenced m

-- classification of a request by a front that has advanced to the time.
abbrev pub asked_in : FrontState → Endpoint → Message → Asking (Unit {0}) → Request → Received
asked_in f to m asking request = looked (look_in f to m) m (new_request f to m asking request)

-- a request that would be served is refused by 4.03 (Forbidden) instead if its endpoint isn't
-- allowed to send it.
abbrev pub authorized : Bool → Asking (Unit {0}) → Asking (Unit {0})
authorized false (Serve done) = Refuse registered.FORBIDDEN
authorized allowed asking = asking

-- a request that is served is for an existing resource, and is within the limits of query and
-- payload.
pub record IsServable (asked : Asked) : Type 0 where
  pub resource : IsResource (resource_in asked.action)
  pub query : length asked.query ≤ 64
  pub payload : length asked.payload ≤ 1024

-- a request that is served is servable, and a refusal has the code of a response.
abbrev pub IsAsking : Asking (Unit {0}) → Request → Type 0
IsAsking (Serve done) request = IsServable (asked_by request)
IsAsking (Refuse answer) request = 64 ≤ answer.byte
IsAsking Silent request = Unit {0}
