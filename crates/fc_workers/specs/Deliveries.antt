-- The datagrams that a server delivered to its front, by the filed calls.
use Rattle.std.specs.Prelude.{ℕ, List, [], ◌∷◌, flat_map}
use Rattle.coap_msg.specs.declared.types.Endpoint.{Endpoint}
use Rattle.fc_calls.specs.Logged.{HandlesDatagram}
use Rattle.fc_linear.specs.Operations.{Logged, Operation}
use Rattle.fc_filed.specs.declared.entry.FiledEntry.{FiledEntry}

-- a datagram with these bytes, from this endpoint, was delivered at this time.
pub record Delivery : Type 0 where
  pub now : ℕ
  pub from : Endpoint
  pub bytes : List ℕ

-- the delivery of an operation, if it handles a datagram.
abbrev pub delivery_by : Operation → List Delivery
delivery_by (Logged (HandlesDatagram now from bytes brings)) =
    record { now = now; from = from; bytes = bytes } ∷ []
delivery_by other = []

-- the deliveries of these entries, in their order.
abbrev pub deliveries_in : List FiledEntry → List Delivery
deliveries_in entries = flat_map (λ e. delivery_by e.operation) entries
