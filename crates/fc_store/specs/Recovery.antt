-- The slots that a start finds after many saves.
use Rattle.std.specs.Prelude.{◌≡◌, ◌⊎◌, ℕ, if◌then◌else◌, Bool, true, false, List, [], ◌∷◌}
use Rattle.fc_store.specs.declared.store.ProgramUpdate.{ProgramUpdate}
use Rattle.fc_store.specs.declared.store.SlotUpdate.{SlotUpdate}
use Rattle.fc_store.specs.declared.store.Store.{Ghosts}
use Rattle.fc_store.specs.Stored.{StoredSlots}
use Rattle.fc_store.specs.Updates.{AreSameSlots, slots_after}
use Rattle.fc_store.specs.Saves.{SavesUpdate}

-- a save: its update, and whether the update was stored or refused.
pub record Save : Type 0 where
  pub update : SlotUpdate
  pub is_stored : Bool

-- an update of slot n at this serial, which was stored.
abbrev pub stores : ℕ → ℕ → ProgramUpdate → Save
stores n serial program = record {
  update = record { slot = n; serial = serial; program = program };
  is_stored = true;
}

-- an update of slot n at this serial, which was refused.
abbrev pub refuses : ℕ → ℕ → ProgramUpdate → Save
refuses n serial program = record {
  update = record { slot = n; serial = serial; program = program };
  is_stored = false;
}

-- ---- lists of saves, the newest first

-- the saves lead a store from the state `first` to the state `last`.
abbrev pub SavesAll : {S : Type 0} → Ghosts S → List Save → S → S → Type 0
SavesAll g [] first last = last ≡ first
SavesAll {S} g (s ∷ earlier) first last =
    (old : S) × SavesAll g earlier first old × SavesUpdate g s.update s.is_stored old last

-- the slots with each update that was stored, the oldest first.
abbrev pub stored_after : List Save → StoredSlots → StoredSlots
stored_after [] slots = slots
stored_after (s ∷ earlier) slots =
    if s.is_stored then slots_after s.update (stored_after earlier slots)
    else stored_after earlier slots

-- `found` has each update that was stored, and then one that was refused. No update was stored
-- after the refused one.
abbrev pub HasRefusedUpdate : List Save → StoredSlots → StoredSlots → Type 0
HasRefusedUpdate [] slots found = ⊥
HasRefusedUpdate (s ∷ earlier) slots found =
    (s.is_stored ≡ false)
    × (AreSameSlots found (slots_after s.update (stored_after earlier slots))
    ⊎ HasRefusedUpdate earlier slots found)

-- a start may find these slots: those with each update that was stored, maybe with a refused one.
abbrev pub MayBeFound : List Save → StoredSlots → StoredSlots → Type 0
MayBeFound saves slots found =
    AreSameSlots found (stored_after saves slots) ⊎ HasRefusedUpdate saves slots found
