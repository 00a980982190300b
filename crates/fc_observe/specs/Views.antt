-- The observation of an observer or of an entry.
use Rattle.std.specs.Prelude.{ℕ, Option}
use Rattle.arrayvec.specs.ArrayVec.{ArrayVec}
use Rattle.coap_msg.specs.declared.types.Endpoint.{Endpoint}
use Rattle.fc_help.specs.Request.{Request}
use Rattle.fc_observe.specs.declared.entry.Entry.{Entry}
use Rattle.fc_observe.specs.declared.entry.Observer.{Observer}

-- an observation: an endpoint and a token, the GET that is executed for each notification, and the
-- size exponent of the GET's blocks.
pub record Interest : Type 0 where
  pub endpoint : Endpoint
  pub token : ArrayVec ℕ
  pub request : Request
  pub szx : Option ℕ

-- the observation of an observer.
abbrev pub interest : Observer → Interest
interest o = record { endpoint = o.endpoint; token = o.token.now; request = o.request.now; szx = o.szx }

-- the observation of an entry.
abbrev pub interest_of : Entry → Interest
interest_of o = record { endpoint = o.endpoint; token = o.token; request = o.request; szx = o.szx }
