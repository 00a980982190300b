-- The state of a front.
use Rattle.std.specs.Prelude.{ℕ, ◌+◌, ◌&&◌, Bool, nat_lt, List, [], filter, max}
use Rattle.coap_dedup.specs.Exchanges.{Exchange}
use Rattle.coap_dedup.specs.declared.exchange.Limits.{Limits}
use Rattle.coap_msg.specs.Windows.{window}
use Rattle.coap_dedup.specs.Exchanges.{is_live as is_held}
use Rattle.coap_block.specs.declared.transfer.Transfer.{Transfer}
use Rattle.fc_ticket.specs.declared.job.Opening.{Opening}
use Rattle.fc_front.specs.Ids.{Ids, first_ids}
use Rattle.fc_front.specs.declared.policy.Network.{Network}
use Rattle.fc_front.specs.declared.policy.Policy.{Policy}

-- whether this is the opening of an exchange: its number is less than 2^64 - 1.
abbrev pub has_exchange : Opening → Bool
has_exchange opening = nat_lt opening.number 18446744073709551615

-- whether this is the opening of an exchange, less than EXCHANGE_LIFETIME before this time.
abbrev pub opening_is_live : ℕ → Opening → Bool
opening_is_live now opening = has_exchange opening && nat_lt now (opening.at + window)

-- the state of a front: the managers' networks, the limits of the exchanges, and the front's time.
-- Then the number of opened exchanges, the live exchanges, the transfers, and the message IDs that
-- the server draws.
pub record FrontState : Type 0 where
  pub managers : List Network
  pub limits : Limits
  pub now : ℕ
  pub opened : ℕ
  pub held : List Exchange
  pub transfers : List Transfer
  pub ids : Ids

-- a front without exchanges and transfers, which will draw this message ID first.
abbrev pub first_front : Policy → ℕ → FrontState
first_front policy id = record { managers = policy.managers; limits = policy.limits; now = 0; opened = 0; held = []; transfers = []; ids = first_ids id }

-- a front whose clock was advanced to a time, never backwards.
abbrev pub handed : FrontState → ℕ → FrontState
handed f now = record f { now = max f.now now }

-- a front without the exchanges whose lifetime has passed.
abbrev pub front_expired : FrontState → FrontState
front_expired f = record f { held = filter (is_held f.now) f.held }

-- a front that advanced to a time.
abbrev pub advanced : FrontState → ℕ → FrontState
advanced f now = front_expired (handed f now)
