-- The result of a request for a shard's next lease.
use Rattle.std.specs.Prelude.{Bool, true, false, Option, Some, None}
use Rattle.coap_msg.specs.declared.types.Emission.{Emission}
use Rattle.fc_server.specs.declared.engine.NotifyOutcome.{NotifyOutcome}
use Rattle.fc_server.specs.declared.engine.NotifyOutcome.TheVariants as outcomes

-- a lease was granted, and this datagram is sent, or nothing is. Or no message ID was available for
-- the notification of a lease, or no observer has a pending notification.
pub data Notified : Type 0 where
  Sent : (emission : Emission) → Notified
  Unsent : Notified
  Starved : Notified
  Nobody : Notified

-- the result with this outcome and the datagram that was written.
abbrev pub notified_as : NotifyOutcome → Emission → Notified
notified_as outcomes.Sent emission = Sent emission
notified_as outcomes.Unsent emission = Unsent
notified_as outcomes.Starved emission = Starved
notified_as outcomes.Nobody emission = Nobody

-- whether a lease was granted.
abbrev pub is_given : Notified → Bool
is_given Nobody = false
is_given other = true

-- the datagram that is sent for the lease, if any.
abbrev pub notification_in : Notified → Option Emission
notification_in (Sent emission) = Some emission
notification_in other = None
