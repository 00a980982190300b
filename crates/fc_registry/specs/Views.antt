-- The views of the fields of a shard.
use Rattle.std.specs.Prelude.{Option, Some, None}
use Rattle.fc_registry.specs.declared.body.Body.{Body}
use Rattle.fc_registry.specs.declared.slot.SlotState.{SlotState}
use Rattle.fc_registry.specs.Slots.{Slot}
use Rattle.fc_ticket.specs.Tickets.{Present}
use Rattle.fc_ticket.specs.Taken as spec
use Rattle.fc_ticket.specs.Taken.{SlotSnapshot, IsSized, ticket_with}
use Rattle.fc_registry.specs.declared.shard.Taken.{Taken}
use Rattle.fc_registry.specs.declared.shard.Taken.TheVariants.{Given, Missing, Stale, Refused}

-- the view of a slot's program.
abbrev pub present_of : Option Body → Option Present
present_of None = None
present_of (Some b) = Some (record { program = b.program.value; version = b.version; vars = b.vars })

-- the view of a slot.
abbrev pub as_seen : SlotState → Slot
as_seen s = record { serial = s.serial; notify_serial = s.notify_serial; present = present_of s.body; ring = s.ring }

-- the result of a snapshot, with the data that the snapshot wrote.
abbrev pub taken_with : Taken → SlotSnapshot → spec.Taken
taken_with (Given program) f = spec.Given (ticket_with program.value f)
taken_with Missing f = spec.Missing
taken_with Stale f = spec.Stale
taken_with Refused f = spec.Refused

-- if the snapshot gave a program, the program has as many variables as were written.
abbrev pub HasSize : Taken → SlotSnapshot → Type 0
HasSize (Given program) f = IsSized program.value f
HasSize other f = Unit {0}
