-- The next action of a lease.
use Rattle.std.specs.Prelude.{ℕ, Option}
use Rattle.fc_ticket.specs.Tickets.{Ticket}

pub data TurnStage : Type 0 where
  -- take a snapshot.
  ToTake : TurnStage
  -- draw a message ID for the notification of this ticket, or of an empty slot if there is no
  -- ticket.
  ToDraw : (found : Option Ticket) → TurnStage
  -- send the notification of this ticket, or of an empty slot, with this message ID.
  ToNote : (found : Option Ticket) (id : ℕ) → TurnStage
