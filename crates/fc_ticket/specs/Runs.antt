-- The ticket of a job's snapshot, the run of a ticket, and the run's meaning.
use Rattle.std.specs.Prelude.{◌≡◌, ℕ, ◌≤◌, List}
use Rattle.fc_help.specs.Request.{Request, no_request}
use Rattle.fc_kinds.specs.Meaning.{Program, Input, input_with, Meaning}
use Rattle.fc_machine.specs.Ran.{Ran, meaning_of}
use Rattle.fc_ticket.specs.declared.job.Ask.{Ask}
use Rattle.fc_ticket.specs.declared.job.Ask.TheVariants.{Run, Install}
use Rattle.fc_ticket.specs.declared.job.Job.{Job}
use Rattle.fc_ticket.specs.declared.job.InitialVars.{InitialVars}
use Rattle.fc_ticket.specs.declared.job.InitialVars.TheVariants.{Zeros}
use Rattle.fc_ticket.specs.declared.receipt.Receipt.{Receipt}
use Rattle.fc_ticket.specs.Tickets.{Present, Ticket}

-- the request that a job asks a program to answer; an empty one if the job runs no program.
abbrev pub request_of : Ask → Request
request_of (Run request) = request
request_of other = no_request

-- the ticket of a slot's contents at this serial, with the readings passed to the snapshot.
abbrev pub ticket_of : Job → List ℕ → ℕ → Present → Ticket
ticket_of job readings serial found = record { origin = job.origin; turn = job.turn; token = job.token; request = request_of job.ask; block = job.block; observe = job.observe; serial = serial; found = found; readings = readings }

-- the variables that an install is to leave; `Zeros` if the action is another one.
abbrev pub initial_vars_of : Ask → InitialVars
initial_vars_of (Install image initial) = initial
initial_vars_of other = Zeros

-- the receipt of a program whose install has this serial.
abbrev pub receipt_of : Program → ℕ → Receipt
receipt_of p version = record { version = version; cost = p.cost; budget = p.budget; vars = p.vars_size }

-- the input of a ticket's run: the ticket's request, and the variables and readings of the
-- snapshot.
abbrev pub input_of : Ticket → Input
input_of t = input_with t.request t.found.vars t.readings

-- the run of a ticket.
abbrev pub run_of : Ticket → Ran
run_of t = record { program = t.found.program; input = input_of t }

-- the meaning of the ticket's program for the ticket's request, and for the variables and readings
-- of the snapshot.
abbrev pub meaning_at : Ticket → Meaning
meaning_at t = meaning_of (run_of t)

-- the outcome is that of a run of the ticket's program, with the ticket's request, variables and
-- readings. The ticket's serial isn't above this serial, the slot's.
pub record IsRunOf (ran : Ran) (t : Ticket) (serial : ℕ) : Type 0 where
  pub program : ran.program ≡ t.found.program
  pub request : ran.input.request ≡ t.request
  pub vars : ran.input.vars ≡ t.found.vars
  pub readings : ran.input.readings ≡ t.readings
  pub found : t.serial ≤ serial
