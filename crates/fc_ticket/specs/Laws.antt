-- Definitions for the law that a ticket has the data of its job.
use Rattle.std.specs.Prelude.{◌≡◌}
use Rattle.fc_help.specs.Request.{Request}
use Rattle.fc_ticket.specs.declared.job.Ask.TheVariants.{Run}
use Rattle.fc_ticket.specs.declared.job.Job.{Job}
use Rattle.fc_ticket.specs.Tickets.{Ticket}

-- a ticket has the data of its job.
pub record IsTicketOfJob (j : Job) (t : Ticket) : Type 0 where
  pub origin : t.origin ≡ j.origin
  pub turn : t.turn ≡ j.turn
  pub token : t.token ≡ j.token
  pub block : t.block ≡ j.block
  pub observe : t.observe ≡ j.observe
  pub request : (request : Request) → j.ask ≡ Run request → t.request ≡ request
