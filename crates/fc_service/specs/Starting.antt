-- The slots that a server starts with, and the save of the serial at which they start.
use Rattle.std.specs.Prelude.{◌≡◌, ◌⊎◌, ◌<◌, ◌≤◌, ℕ, Bool, false, List, [], ◌∷◌, Option, length}
use Rattle.fc_store.specs.Stored.{StoredProgram, StoredSlot, StoredSlots, stored_in}
use Rattle.fc_store.specs.Updates.{AreSameSlots, program_after}
use Rattle.fc_store.specs.declared.store.ProgramUpdate.{ProgramUpdate}
use Rattle.fc_store.specs.declared.store.Store.{Ghosts}
use Rattle.fc_registry.specs.Starts.{CanRestore}
use Rattle.fc_front.specs.declared.policy.Policy.{Policy}
use Rattle.fc_store.specs.Recovery.{Save, stored_after}
use Rattle.fc_store.specs.Saves.{SavesBy}
use Rattle.fc_server.specs.States.{ServerState, server_over}
use Rattle.fc_service.specs.Serials.{raised_slots}

-- the first state of a server, and the store that saves the changes of its slots.
pub record StartingSlots (S : Type 0) : Type 0 where
  pub first : ServerState
  pub store : S

-- the slots of this first state are restored from the stored ones, at some serial that isn't below
-- a stored one. Each of them can be restored. The server draws some message ID first, and has some
-- policy.
pub record IsRestoredFrom (stored : StoredSlots) (first : ServerState) : Type 0 where
  pub slots : List StoredSlot
  pub count : length slots ≡ 64
  pub same : AreSameSlots (stored_in slots) stored
  pub serial : ℕ
  pub reached : (n : ℕ) → n < 64 → (stored n).serial ≤ serial
  pub can : (n : ℕ) → n < 64 → CanRestore (raised_slots serial slots n)
  pub id : ℕ
  pub policy : Policy
  pub first_is : first ≡ server_over (raised_slots serial slots) id policy

-- the store before and after a save of this serial with slot 0, which keeps this program. If the
-- store refuses the save, the result is false. A store that isn't persistent saves nothing.
pub record SavesSerial {S : Type 0} (g : Ghosts S) (serial : ℕ) (program : Option StoredProgram)
    (result : Bool) (old new : S) : Type 0 where
  pub update : ProgramUpdate
  pub keeps : program_after serial update program ≡ program
  pub saves : SavesBy g g.persistent (record { slot = 0; serial = serial; program = update }) result old new

-- no save, of these slots and in this order, lowers the serial of its slot. The newest is first.
abbrev pub AreRising : List Save → StoredSlots → Type 0
AreRising [] slots = Unit {0}
AreRising (s ∷ earlier) slots =
    AreRising earlier slots
    × ((stored_after earlier slots s.update.slot).serial ≤ s.update.serial)

-- one of these updates was refused, and is of slot n.
abbrev pub RefusesSlot : List Save → ℕ → Type 0
RefusesSlot [] n = ⊥
RefusesSlot (s ∷ earlier) n =
    ((s.is_stored ≡ false) × (s.update.slot ≡ n)) ⊎ RefusesSlot earlier n
