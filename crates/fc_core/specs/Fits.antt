-- The invariants of each job and its slot, for every history.
use Rattle.std.specs.Prelude.{◌≡◌, ℕ, ◌<◌, ◌≤◌, length, Option, Some, None}
use Rattle.fc_image.specs.Paths.{IsLongest}
use Rattle.fc_kinds.specs.Meaning.{Program}
use Rattle.fc_kinds.specs.Runnable.{IsRunnable}
use Rattle.fc_observe.specs.declared.entry.Turn.{Turn}
use Rattle.fc_ticket.specs.declared.job.Job.{Job}
use Rattle.fc_registry.specs.Slots.{Slot}
use Rattle.fc_ticket.specs.Tickets.{Present, Ticket}
use Rattle.fc_registry.specs.Calls.{HasGiven}
use Rattle.fc_ticket.specs.Runs.{request_of}
use Rattle.fc_core.specs.Stage.{Stage}
use Rattle.fc_core.specs.TurnStage.{TurnStage}
use Rattle.fc_core.specs.TurnStage as turns
use Rattle.fc_core.specs.Stage.{ToMatch, ToTake, ToCommit, ToList, ToRaise, ToAnswer, ToTell}
use Rattle.fc_front.specs.Contents.{IsOf}
use Rattle.fc_core.specs.Stages.{snapshots}

-- the ticket was given to this job by this slot.
pub record IsTicketOf (job : Job) (slot : Slot) (t : Ticket) : Type 0 where
  pub origin : t.origin ≡ job.origin
  pub turn : t.turn ≡ job.turn
  pub request : t.request ≡ request_of job.ask
  pub given : HasGiven slot t

-- if the job lists head words, at least one is left to read.
abbrev pub HasNext : Stage → Type 0
HasNext (ToList seen) = length seen.items < 64
HasNext other = Unit {0}

-- if the job lists head words, it has read all of them.
abbrev pub HasListed : Stage → Type 0
HasListed (ToList seen) = length seen.items ≡ 64
HasListed other = Unit {0}

-- the ticket of a lease belongs to the lease's job.
abbrev pub FitsTurn : Job → Slot → TurnStage → Type 0
FitsTurn job slot (turns.ToDraw (Some t)) = IsTicketOf job slot t
FitsTurn job slot (turns.ToNote (Some t) id) = IsTicketOf job slot t
FitsTurn job slot other = Unit {0}

-- the ticket of a notification belongs to this lease, and isn't newer than the slot, which has this
-- serial.
abbrev pub TellsOwn : Turn → ℕ → Option Ticket → Type 0
TellsOwn turn serial None = Unit {0}
TellsOwn turn serial (Some t) = (t.origin.slot ≡ turn.slot) × (t.turn ≡ Some turn.number) × (t.serial ≤ serial)

-- invariants of a job at this stage. A request's job that needs a snapshot has had fewer than
-- eight; tickets and answers belong to the job; a lease has the job's slot and number.
abbrev pub FitsStage : Job → Slot → Stage → Type 0
FitsStage job slot ToMatch = job.turn ≡ None
FitsStage job slot (ToTake count) = (count < snapshots) × (job.turn ≡ None)
FitsStage job slot (ToCommit count t) = (count ≤ snapshots) × IsTicketOf job slot t × (job.turn ≡ None)
FitsStage job slot (ToList seen) = HasNext (ToList seen)
FitsStage job slot (ToRaise word content) = IsOf job content
FitsStage job slot (ToAnswer content) = IsOf job content
FitsStage job slot (ToTell turn needs) = (turn.slot ≡ job.origin.slot) × (job.turn ≡ Some turn.number) × FitsTurn job slot needs
FitsStage job slot other = Unit {0}

-- each run of the program has a meaning, and the program's cost is that of its longest path.
pub record IsSafe (p : Program) : Type 0 where
  pub runs : IsRunnable p
  pub longest : IsLongest p.version p.code p.cost

-- the program in the slot is safe, and there are as many variables as the program has.
pub record FitsPresent (p : Present) : Type 0 where
  pub safe : IsSafe p.program
  pub vars : length p.vars ≡ p.program.vars_size

abbrev pub FitsSlot : Option Present → Type 0
FitsSlot None = Unit {0}
FitsSlot (Some p) = FitsPresent p
