-- A save of an update: the store before and after.
use Rattle.std.specs.Prelude.{◌≡◌, ◌⊎◌, Bool, true, false}
use Rattle.fc_store.specs.declared.store.SlotUpdate.{SlotUpdate}
use Rattle.fc_store.specs.declared.store.Store.{Ghosts}
use Rattle.fc_store.specs.Stored.{StoredSlots}
use Rattle.fc_store.specs.Updates.{AreSameSlots, IsStoredIf, slots_after}

-- a store saved the update with this result: the guarantees of `Store::save`.
pub record SavesUpdate {S : Type 0} (g : Ghosts S) (u : SlotUpdate) (result : Bool) (old new : S) :
    Type 0 where
  pub stored : IsStoredIf result u (g.stored old) (g.stored new)
  pub clean : g.is_clean new → g.is_clean old
  pub ready : g.is_ready old → g.is_ready new
  pub durable : g.is_ready old → g.is_clean new → result ≡ true → (found : StoredSlots) →
      g.may_recover new found → AreSameSlots found (g.stored new)
  pub crash : g.is_ready old → g.is_clean new → (found : StoredSlots) → g.may_recover new found →
      g.may_recover old found
      ⊎ AreSameSlots found (slots_after u (g.stored old))

-- the store saves the update if it is persistent. Otherwise the change is made without a save, and
-- the store is unchanged.
abbrev pub SavesBy : {S : Type 0} → Ghosts S → Bool → SlotUpdate → Bool → S → S → Type 0
SavesBy g true u made old new = SavesUpdate g u made old new
SavesBy g false u made old new = (made ≡ true) × (new ≡ old)

-- if the machine stops now, a start finds just the stored slots.
abbrev pub FindsStored : {S : Type 0} → Ghosts S → S → Type 0
FindsStored g store = (found : StoredSlots) → g.may_recover store found →
    AreSameSlots found (g.stored store)
