-- The store of a server with locks, and the changes that it saves. The store has a lock of its own,
-- so a save's own contract doesn't state the store's state before it. The store is ready then. The
-- one order of the server has all its states (`HaveSavedOrder`).
use Rattle.std.specs.Prelude.{◌≡◌, ℕ, Bool, true, false, List, [], ◌∷◌}
use Rattle.fc_store.specs.declared.store.SlotUpdate.{SlotUpdate}
use Rattle.fc_store.specs.declared.store.Store.{Ghosts}
use Rattle.fc_registry.specs.Changes.{Change}
use Rattle.fc_registry.specs.Plans.{IsPlanned, SavesImage}
use Rattle.fc_registry.specs.Slots.{Shard, Slot, slot_in}
use Rattle.fc_store.specs.Saves.{SavesUpdate}

-- in some state in which it is ready, a store saves the update with this result.
pub record SavesWhileReady {S : Type 0} (g : Ghosts S) (u : SlotUpdate) (made : Bool) : Type 0 where
  pub old : S
  pub new : S
  pub ready : g.is_ready old
  pub saves : SavesUpdate g u made old new

-- a store saves the update of this change of slot n with this result. The update of an install has
-- an image of the program, if the program is verified.
pub record SavesChange {S : Type 0} (g : Ghosts S) (Verified : Type 0) (slot : Slot) (n : ℕ)
    (change : Change) (made : Bool) : Type 0 where
  pub update : SlotUpdate
  pub planned : IsPlanned slot n change update
  pub image : Verified → SavesImage change update.program
  pub saves : SavesWhileReady g update made

-- the changes of slot n are made, by whether the server's store is persistent. A persistent store
-- has saved the one change, or has refused to if `made` is false. Otherwise no save is required.
abbrev pub HasSavedBy : (persistent : Bool) → {S : Type 0} → Ghosts S → (Verified : Type 0) → Slot →
    ℕ → Change → List Change → Bool → Type 0
HasSavedBy true g Verified slot n change more made =
    (more ≡ []) × SavesChange g Verified slot n change made
HasSavedBy false g Verified slot n change more made = made ≡ true

-- the changes of slot n, one at most, are made once a store of this kind has saved them. If `made`
-- is false, the store refused to save them. If the store isn't persistent, no save is required, and
-- `made` is true.
abbrev pub HasSaved : {S : Type 0} → Ghosts S → (Verified : Type 0) → Slot → ℕ → List Change →
    Bool → Type 0
HasSaved g Verified slot n [] made = made ≡ true
HasSaved g Verified slot n (change ∷ more) made =
    HasSavedBy g.persistent g Verified slot n change more made

-- how a server saves changes of slot n, as `HasSaved`.
abbrev pub Saving : Type 1
Saving = (Verified : Type 0) → Slot → ℕ → List Change → Bool → Type 0

-- the effect of a call that makes these changes of slot n. The changes are saved.
abbrev pub WithSave : Saving → Type 0 → ℕ → List Change → (Shard → Shard → Type 0) → Shard →
    Shard → Type 0
WithSave Saves Verified n changes Does before after =
    Does before after × Saves Verified (slot_in before n) n changes true

-- the change of slot n can't be saved, and the shard is unchanged. Nothing is said of the image of
-- an install that isn't saved.
abbrev pub LeavesUnsaved : Saving → ℕ → Change → Shard → Shard → Type 0
LeavesUnsaved Saves n change before after =
    (after ≡ before) × Saves ⊥ (slot_in before n) n (change ∷ []) false
