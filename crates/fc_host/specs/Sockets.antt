-- The receives of a source, and the datagrams passed to a sink.
use Rattle.std.specs.Prelude.{◌≡◌, ℕ, Bool, List, [], ◌∷◌, ◌++◌, take, Option, Some, None, IfSome}
use Rattle.coap_msg.specs.declared.types.Emission.{Emission}
use Rattle.coap_msg.specs.declared.types.Endpoint.{Endpoint}
use Rattle.fc_backend.specs.Called.{WireCall, SendsReply, EndsJob}
use Rattle.fc_backend.specs.declared.call_log.CallLog.{CallLog}

-- a datagram that was received: its sender, and its bytes.
pub record Incoming : Type 0 where
  pub from : Endpoint
  pub bytes : List ℕ

-- the datagram in `buffer`, by the result of a receive: the number of bytes at the start of the
-- buffer, and the sender. `None` if no datagram was received.
abbrev pub incoming_in : List ℕ → Option (ℕ × Endpoint) → Option Incoming
incoming_in buffer None = None
incoming_in buffer (Some r) = Some (record { from = r.1; bytes = take r.0 buffer })

-- a receive: its timeout in milliseconds, if it has one, and the datagram received, if there was
-- one.
pub record Receive : Type 0 where
  pub wait : Option ℕ
  pub came : Option Incoming

-- if the receives `before` are known, `after` are the receives `before`, followed by `more`.
abbrev pub Comes : Option (List Receive) → Option (List Receive) → List Receive → Type 0
Comes before after more = IfSome before (λ known. after ≡ Some (known ++ more))

-- a reply that the transmitter sends is passed to a sink once. If a job ends, nothing is passed to
-- the sink.
abbrev pub IsHanded : (Emission → Bool → CallLog → CallLog → Type 0) → WireCall → CallLog → CallLog → Type 0
IsHanded Went (SendsReply number reply out) before after = Went reply out before after
IsHanded Went (EndsJob number) before after = after ≡ before
