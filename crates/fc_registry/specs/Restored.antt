-- The slots that a start restores from their stored states.
use Rattle.std.specs.Prelude.{ℕ, [], Option, Some, None, max}
use Rattle.fc_store.specs.Stored.{StoredProgram, StoredSlot, StoredSlots}
use Rattle.fc_verify.specs.Accepted.{Accepts, Judgement}
use Rattle.fc_verify.specs.Judged.{judged}
use Rattle.fc_ticket.specs.Tickets.{Present}
use Rattle.fc_registry.specs.Slots.{Slot}

-- the stored program if this judgement of its image accepts the image.
abbrev pub present_if : Judgement → StoredProgram → Option Present
present_if (Accepts p) k = Some (record { program = p; version = k.version; vars = k.vars })
present_if judgement k = None

-- the program of a stored slot: the one that its image is accepted as, with the stored version and
-- variables.
abbrev pub restored_present : Option StoredProgram → Option Present
restored_present None = None
restored_present (Some k) = present_if (judged k.image) k

-- the slot in its stored state. Its notify serial is its serial, and its ring is empty. The slot is
-- empty if the image isn't accepted; no server begins with such an image.
abbrev pub restored_slot : StoredSlot → Slot
restored_slot k = record { serial = k.serial; notify_serial = k.serial; present = restored_present k.program; ring = [] }

-- each slot is stored as empty, at this serial.
abbrev pub empty_at : ℕ → StoredSlots
empty_at serial n = record { serial = serial; program = None }

-- the stored state at a serial that is at least this one.
abbrev pub at_least : ℕ → StoredSlot → StoredSlot
at_least least k = record k { serial = max least k.serial }
