-- The effects and results of the calls of a server that handles datagrams.
use Rattle.std.specs.Prelude.{ℕ, List, Bool, true, false}
use Rattle.std.specs.Borrow.{Bor}
use Rattle.coap_msg.specs.declared.types.Emission.{Emission}
use Rattle.coap_msg.specs.declared.types.Endpoint.{Endpoint}
use Rattle.fc_front.specs.declared.front.Handled.{Handled}
use Rattle.fc_front.specs.declared.front.Handled.TheVariants.{Reply}
use Rattle.fc_observe.specs.declared.observers.Ticked.{Ticked}
use Rattle.fc_server.specs.Notified.{Notified}
use Rattle.fc_server.specs.declared.engine.FireOutcome.{FireOutcome}
use Rattle.fc_server.specs.declared.gauges.Gauges.{Gauges}

-- whether the datagram that was written is to be sent.
abbrev pub is_reply : Handled → Bool
is_reply Reply = true
is_reply other = false

-- the time at which a timer of a server without timers is due: it isn't one.
abbrev pub never : ℕ
never = 18446744073709551615

-- the effects and results of the calls of an ingress.
pub record IngressCalls (S : Type 0) : Type 1 where
  -- a datagram with these bytes was received from an endpoint at this time. The last arguments are
  -- the result, and the response that was written.
  pub handles : ℕ → Endpoint → Bor (List ℕ) → S → S → Handled → Emission → Type 0
  -- time passed until this time.
  pub passes : ℕ → S → S → Type 0
  -- the timer of a slot fired at this time, with this result.
  pub fires : ℕ → ℕ → S → S → FireOutcome → Type 0
  -- the first timer that the server fires itself is due at this time.
  pub is_first_due : S → ℕ → Type 0
  -- a shard was advanced to this time, with this result.
  pub resends : ℕ → ℕ → S → S → Ticked → Type 0
  -- a shard that was idle at this time was advanced to it, or was skipped.
  pub passes_over : ℕ → ℕ → S → S → Type 0
  -- a shard was asked at this time for the first observer with a pending notification, with this
  -- result.
  pub notifies : ℕ → ℕ → S → S → Notified → Type 0
  -- a shard is idle until this time: no notification has timed out, and no observer has a pending
  -- one.
  pub stays_idle : ℕ → S → ℕ → Type 0
  -- the server has these gauges at this time. They are those of its front, the number of each slot's
  -- observers, and the number of jobs that it sent to workers.
  pub tells_gauges : ℕ → S → Gauges → Type 0
