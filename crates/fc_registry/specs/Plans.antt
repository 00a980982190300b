-- The updates that are saved before a slot changes, and the stored state of a slot.
use Rattle.std.specs.Prelude.{◌≡◌, ℕ, ◌+◌, List, [], ◌∷◌, Option, Some, None}
use Rattle.fc_verify.specs.Accepted.{Accepts}
use Rattle.fc_verify.specs.Judged.{judged}
use Rattle.fc_registry.specs.Changes.{Change, Installed, Committed, Removed, installed}
use Rattle.fc_ticket.specs.Tickets.{Present}
use Rattle.fc_registry.specs.Slots.{Slot}
use Rattle.fc_store.specs.Stored.{StoredProgram, StoredSlot}
use Rattle.fc_store.specs.declared.store.ProgramUpdate.{ProgramUpdate}
use Rattle.fc_store.specs.declared.store.ProgramUpdate.TheVariants as saves
use Rattle.fc_store.specs.declared.store.SlotUpdate.{SlotUpdate}

-- the update has the variables of the slot after the change.
abbrev pub IsUpdateOf : Slot → Change → ProgramUpdate → Type 0
IsUpdateOf slot (Installed p initial) (saves.Install image vars) = vars.now ≡ (installed slot p initial).vars
IsUpdateOf slot (Committed c) (saves.Commit vars) = vars.now ≡ c.after
IsUpdateOf slot Removed saves.Remove = Unit {0}
IsUpdateOf slot change update = ⊥

-- the update is that of this change of slot n, at the slot's next serial.
abbrev pub IsPlanned : Slot → ℕ → Change → SlotUpdate → Type 0
IsPlanned slot n c u = (u.slot ≡ n) × (u.serial ≡ slot.serial + 1) × IsUpdateOf slot c u.program

-- the update is that of the change of a call in slot n; there is none if the call changes nothing.
abbrev pub IsPlan : Slot → ℕ → List Change → Option SlotUpdate → Type 0
IsPlan slot n [] None = Unit {0}
IsPlan slot n [] (Some u) = ⊥
IsPlan slot n (c ∷ cs) None = ⊥
IsPlan slot n (c ∷ cs) (Some u) = IsPlanned slot n c u × (cs ≡ [])

-- the update is that of an install, and has this image.
abbrev pub HasImage : List ℕ → ProgramUpdate → Type 0
HasImage image (saves.Install own vars) = own.now ≡ image
HasImage image update = ⊥

-- if the change is an install, the image of its update is one of its program.
abbrev pub SavesImage : Change → ProgramUpdate → Type 0
SavesImage (Installed p initial) (saves.Install image vars) = judged image.now ≡ Accepts p
SavesImage change update = Unit {0}

-- the stored program is that of the slot: an image of the program, the program's version, and its
-- variables.
abbrev pub IsStoredProgram : Option Present → Option StoredProgram → Type 0
IsStoredProgram None None = Unit {0}
IsStoredProgram (Some p) (Some k) = (judged k.image ≡ Accepts p.program) × (k.version ≡ p.version) × (k.vars ≡ p.vars)
IsStoredProgram p k = ⊥

-- the stored state is that of the slot: its serial and its program.
abbrev pub IsStoredOf : Slot → StoredSlot → Type 0
IsStoredOf slot k = (k.serial ≡ slot.serial) × IsStoredProgram slot.present k.program
