-- The store in the one history of a server: the slots that a start finds at each place of it.
use Rattle.std.specs.Prelude.{◌≡◌, ◌⊎◌, ℕ, ◌<◌, List, [], ◌∷◌, Option, Some, None}
use Rattle.fc_store.specs.declared.store.Store.{Ghosts}
use Rattle.fc_store.specs.Stored.{StoredSlot, StoredSlots}
use Rattle.fc_registry.specs.Plans.{IsStoredOf, IsStoredProgram}
use Rattle.fc_registry.specs.Shards.{shard_at, slot_in_shards}
use Rattle.fc_registry.specs.Slots.{Shard, Slot}
use Rattle.fc_core.specs.History.{History, seen, slot_at}
use Rattle.fc_server.specs.States.{ServerState}
use Rattle.fc_store.specs.Recovery.{MayBeFound, Save, stored_after}
use Rattle.fc_filed.specs.declared.entry.FiledEntry.{FiledEntry}
use Rattle.fc_filed.specs.Entries.{EntriesLead, shard_entries, store_entries}
use Rattle.fc_filed.specs.Saves.{AreRaised, IsOpened, ShardSteps, StoreSteps}

-- ---- the saves of a history

-- the saves with this one, if there is one. The newest is first.
abbrev pub with_save : Option Save → List Save → List Save
with_save None saves = saves
with_save (Some save) saves = save ∷ saves

-- these saves, and then those of the entries.
abbrev pub saves_onto : List Save → List FiledEntry → List Save
saves_onto saves [] = saves
saves_onto saves (e ∷ es) = saves_onto (with_save e.save saves) es

-- the saves of the entries, the newest first.
abbrev pub saves_of : List FiledEntry → List Save
saves_of calls = saves_onto [] calls

-- the saves of the entries lead an opened store, which has these slots first, to another state of
-- the store. The entries of each shard lead it from the server's first shard of its index to the
-- closed one. With a persistent store, each change of a slot is saved.
pub record HaveSavedOrder {S : Type 0} (g : Ghosts S) (first : ServerState) (stored : StoredSlots) (closed : List Shard) (calls : List FiledEntry) : Type 0 where
  pub before : S
  pub opened : IsOpened g before
  pub begins : g.stored before ≡ stored
  pub after : S
  pub store_led : EntriesLead (StoreSteps g) (store_entries calls) before after
  pub shards_led : (i : ℕ) → i < 8 → EntriesLead (ShardSteps g.persistent) (shard_entries i calls) (shard_at first.shards i) (shard_at closed i)

-- ---- the slots that a start finds

-- the program of each slot of the first server is the stored one. The serials may differ.
abbrev pub AreStoredAtFirst : ServerState → StoredSlots → Type 0
AreStoredAtFirst first stored = (n : ℕ) → n < 64 → IsStoredProgram (slot_in_shards first.shards n).present (stored n).program

-- the stored slot has the serial and the program of the slot, or neither the slot nor the stored
-- slot has changed since the start.
abbrev pub IsStoredOrInitial : Slot → StoredSlot → Slot → StoredSlot → Type 0
IsStoredOrInitial first_slot first_stored slot stored = IsStoredOf slot stored ⊎ ((slot ≡ first_slot) × (stored ≡ first_stored))

-- the saves of the earlier entries lead the opened store to this state, and those of the later ones
-- lead the store on to the closed one. The slots that are stored then are the history's. The machine
-- stops at this place, and the medium has returned the data that was written to it. Then a start
-- finds the stored slots, maybe with one update. This update was refused, and none was stored since.
-- A slot without a stored update may be found at a higher serial than its first stored one (`begun`).
pub record FindsHistory {S : Type 0} (g : Ghosts S) (first : ServerState) (stored : StoredSlots) (opened closed : S) (calls later : List FiledEntry) (h : History) : Type 0 where
  pub store : S
  pub led : EntriesLead (StoreSteps g) (store_entries calls) opened store
  pub rest : EntriesLead (StoreSteps g) (store_entries later) store closed
  pub ready : g.is_ready store
  pub slots : (n : ℕ) → n < 64 → IsStoredOrInitial (slot_in_shards first.shards n) (stored n) (slot_at (seen h) n) (stored_after (saves_of calls) stored n)
  pub found : g.is_clean store → (found : StoredSlots) → g.may_recover store found → (begun : StoredSlots) × AreRaised stored begun × MayBeFound (saves_of calls) begun found
