-- The run of a ticket.
use Rattle.std.proofs.Common.{◌≡◌, ℕ}
use Rattle.fc_machine.specs.Ran.{Ran}
use Rattle.fc_ticket.specs.Runs.{IsRunOf, run_of}
use Rattle.fc_ticket.specs.Tickets.{Ticket}

-- an outcome of the ticket's program, request, variables and readings is that of the ticket's run.
pub own_run : (ran : Ran) (t : Ticket) (serial : ℕ) → IsRunOf ran t serial → ran ≡ run_of t
own_run ran t serial own = λ i. record { program = own.program i; input = record { request = own.request i; readings = own.readings i; vars = own.vars i } }
