-- The effect of an update on the stored slots.
use Rattle.std.specs.Prelude.{◌≡◌, ℕ, ◌<◌, ◌==◌, if◌then◌else◌, Bool, List, Option, Some, None}
use Rattle.fc_store.specs.Stored.{StoredProgram, StoredSlot, StoredSlots}
use Rattle.fc_store.specs.declared.store.ProgramUpdate.{ProgramUpdate}
use Rattle.fc_store.specs.declared.store.ProgramUpdate.TheVariants.{Install, Commit, Remove}
use Rattle.fc_store.specs.declared.store.SlotUpdate.{SlotUpdate}

-- a stored program with other variables; `None` if there is no program.
abbrev pub with_stored_vars : List ℕ → Option StoredProgram → Option StoredProgram
with_stored_vars vars None = None
with_stored_vars vars (Some p) = Some (record p { vars = vars })

-- the program after an update at this serial.
abbrev pub program_after : ℕ → ProgramUpdate → Option StoredProgram → Option StoredProgram
program_after serial (Install image vars) before = Some (record { version = serial; image = image.now; vars = vars.now })
program_after serial (Commit vars) before = with_stored_vars vars.now before
program_after serial Remove before = None

-- the slot after an update.
abbrev pub slot_after : SlotUpdate → StoredSlot → StoredSlot
slot_after u before = record { serial = u.serial; program = program_after u.serial u.program before.program }

-- all slots after an update of one slot.
abbrev pub slots_after : SlotUpdate → StoredSlots → StoredSlots
slots_after u before n = if n == u.slot then slot_after u (before n) else before n

-- the states `a` and `b` are equal in each of the 64 slots.
abbrev pub AreSameSlots : StoredSlots → StoredSlots → Type 0
AreSameSlots a b = (n : ℕ) → n < 64 → a n ≡ b n

-- the update is stored if the result is true; otherwise nothing changes.
abbrev pub IsStoredIf : Bool → SlotUpdate → StoredSlots → StoredSlots → Type 0
IsStoredIf result u old new = AreSameSlots new (if result then slots_after u old else old)
