-- Saves of changes: the shard and the store before and after an entry with a save.
use Rattle.std.specs.Prelude.{◌≡◌, ◌⊎◌, ℕ, ◌+◌, ◌<◌, ◌≤◌, Bool, true, false, List, [], ◌∷◌, Option, Some, None}
use Rattle.fc_store.specs.declared.store.ProgramUpdate.{ProgramUpdate}
use Rattle.fc_store.specs.declared.store.ProgramUpdate.TheVariants as saves
use Rattle.fc_store.specs.declared.store.SlotUpdate.{SlotUpdate}
use Rattle.fc_store.specs.declared.store.Store.{Ghosts}
use Rattle.fc_store.specs.Stored.{StoredSlots}
use Rattle.fc_verify.specs.Accepted.{Accepts}
use Rattle.fc_verify.specs.Judged.{judged}
use Rattle.fc_registry.specs.Changes.{Change, Installed, Committed, Removed, installed}
use Rattle.fc_registry.specs.Plans.{IsPlanned, SavesImage}
use Rattle.fc_registry.specs.Slots.{IsOwned, Shard, Slot, slot_in}
use Rattle.fc_core.specs.Stages.{image_of}
use Rattle.fc_store.specs.Recovery.{Save}
use Rattle.fc_store.specs.Saves.{SavesUpdate}
use Rattle.fc_calls.specs.Kept.{slots_with}
use Rattle.fc_calls.specs.Logged.{InstallsProgram}
use Rattle.fc_linear.specs.Operations.{FailsToSave, Logged, Operation, ShardDoes, borrowed}
use Rattle.fc_filed.specs.declared.entry.FiledEntry.{FiledEntry}
use Rattle.fc_filed.specs.Entries.{EntriesLead}

-- ---- updates

-- the update of a change of this slot. The update of an install has this image.
abbrev pub program_update : Slot → Change → List ℕ → ProgramUpdate
program_update slot (Installed program initial) image = saves.Install (borrowed image) (borrowed (installed slot program initial).vars)
program_update slot (Committed commit) image = saves.Commit (borrowed commit.after)
program_update slot Removed image = saves.Remove

-- the update of a change of slot n, at the slot's next serial. The update of an install has this
-- image.
abbrev pub update_of : Slot → ℕ → Change → List ℕ → SlotUpdate
update_of slot n change image = record { slot = n; serial = slot.serial + 1; program = program_update slot change image }

abbrev pub stored_save : SlotUpdate → Save
stored_save update = record { update = update; is_stored = true }

abbrev pub refused_save : SlotUpdate → Save
refused_save update = record { update = update; is_stored = false }

-- the update is that of this change of a slot of the shard.
pub record IsUpdateIn (shard : Shard) (change : Change) (update : SlotUpdate) : Type 0 where
  pub owned : IsOwned shard update.slot
  pub planned : IsPlanned (slot_in shard update.slot) update.slot change update

-- ---- a shard

-- if the operation is an install, its program is that of its job's image.
abbrev pub InstallsImageOfJob : Operation → Type 0
InstallsImageOfJob (Logged (InstallsProgram job program made)) = judged (image_of job.ask) ≡ Accepts program
InstallsImageOfJob other = Unit {0}

-- the update of a change was stored, and the operation makes just this change. If an install's
-- program is that of its job's image, the update has an image of the program.
pub record MakesSaved (operation : Operation) (update : SlotUpdate) (before after : Shard) : Type 0 where
  pub change : Change
  pub of : IsUpdateIn before change update
  pub image : InstallsImageOfJob operation → SavesImage change update.program
  pub made : after.slots ≡ slots_with before update.slot (change ∷ [])

-- the update of a change was refused, and the change isn't made.
pub record LeavesUnmade (operation : Operation) (update : SlotUpdate) (before after : Shard) : Type 0 where
  pub change : Change
  pub of : IsUpdateIn before change update
  pub refusal : operation ≡ FailsToSave update
  pub unmade : after.slots ≡ before.slots

abbrev pub MakesIfStored : Bool → Operation → SlotUpdate → Shard → Shard → Type 0
MakesIfStored true operation update before after = MakesSaved operation update before after
MakesIfStored false operation update before after = LeavesUnmade operation update before after

-- an entry without a save changes no slot. An entry with a stored update makes the update's change,
-- and one with a refused update doesn't.
abbrev pub ChangesAsSaved : Operation → Option Save → Shard → Shard → Type 0
ChangesAsSaved operation None before after = after.slots ≡ before.slots
ChangesAsSaved operation (Some save) before after = MakesIfStored save.is_stored operation save.update before after

-- the entry's operation has its effect on the shard. If the server's store is persistent, each
-- change of a slot is saved. Otherwise nothing is saved. The entry of a refused update has the
-- refused save.
pub record ShardSteps (persistent : Bool) (e : FiledEntry) (before after : Shard) : Type 0 where
  pub does : ShardDoes e.operation before after
  pub saved : persistent ≡ true → ChangesAsSaved e.operation e.save before after
  pub unsaved : persistent ≡ false → e.save ≡ None
  pub refused : (update : SlotUpdate) → e.operation ≡ FailsToSave update → e.save ≡ Some (refused_save update)

-- ---- a store

-- the programs are the stored ones, each at its stored serial or a higher one.
abbrev pub AreRaised : StoredSlots → StoredSlots → Type 0
AreRaised stored found = (n : ℕ) → n < 64 → ((found n).program ≡ (stored n).program) × ((stored n).serial ≤ (found n).serial)

-- if the machine stops now, a start finds the stored programs. A serial may be higher than the
-- stored one: the save of the start's serial may have been refused, and be found.
abbrev pub FindsRaised : {S : Type 0} → Ghosts S → S → Type 0
FindsRaised g store = (found : StoredSlots) → g.may_recover store found → AreRaised (g.stored store) found

-- the store is opened: it is ready. If its medium has returned the data that was written to it, a
-- start would find the stored programs.
pub record IsOpened {S : Type 0} (g : Ghosts S) (store : S) : Type 0 where
  pub ready : g.is_ready store
  pub settled : g.is_clean store → FindsRaised g store

-- the save leads the store from one state to the other.
abbrev pub SavesAs : {S : Type 0} → Ghosts S → Option Save → S → S → Type 0
SavesAs g None old new = ⊥
SavesAs g (Some save) old new = SavesUpdate g save.update save.is_stored old new

abbrev pub StoreSteps : {S : Type 0} → Ghosts S → FiledEntry → S → S → Type 0
StoreSteps g e old new = SavesAs g e.save old new

-- the saves of the entries, in order, lead an opened store with these slots to this one.
pub record IsStoreAfter {S : Type 0} (g : Ghosts S) (stored : StoredSlots) (calls : List FiledEntry) (store : S) : Type 0 where
  pub first : S
  pub opened : IsOpened g first
  pub begins : g.stored first ≡ stored
  pub led : EntriesLead (StoreSteps g) calls first store
  pub ready : g.is_ready store

-- a store, and the entries with its saves.
pub record StoreCalls (S : Type 0) : Type 0 where
  pub store : S
  pub calls : List FiledEntry

-- a call makes at most one change of slot n, and its update is stored, as this save. Without a
-- change nothing is saved.
abbrev pub IsSavedAs : {S : Type 0} → Ghosts S → Slot → ℕ → Change → (Verified : Type 0) → SlotUpdate → List Change → Option Save → S → S → Type 0
IsSavedAs g slot n change Verified update made save old new =
    ((made ≡ []) × (save ≡ None) × (new ≡ old))
    ⊎ ((made ≡ change ∷ []) × (save ≡ Some (stored_save update)) × IsPlanned slot n change update × (Verified → SavesImage change update.program) × SavesUpdate g update true old new)
