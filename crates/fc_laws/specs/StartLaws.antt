-- Definitions for the laws of starts.
use Rattle.std.specs.Prelude.{ℕ, Option}
use Rattle.fc_registry.specs.Restored.{restored_slot}
use Rattle.fc_registry.specs.Slots.{Slot}
use Rattle.fc_store.specs.Stored.{StoredProgram}

-- the slot that is restored at this serial, with this stored program if there is one.
abbrev pub restored_at : ℕ → Option StoredProgram → Slot
restored_at serial program = restored_slot (record { serial = serial; program = program })
