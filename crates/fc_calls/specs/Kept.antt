-- Properties of a shard that every call keeps, and by how much each call increases the serials of
-- its slots.
use Rattle.std.specs.Prelude.{◌≡◌, ℕ, if◌then◌else◌, List, length, map, sum_by}
use Rattle.fc_registry.specs.declared.commit.Committed.{Committed}
use Rattle.fc_registry.specs.declared.commit.Committed.TheVariants.{Done}
use Rattle.fc_registry.specs.declared.shard.Made.{Made}
use Rattle.fc_registry.specs.declared.shard.Made.TheVariants.{Raised, AtEnd}
use Rattle.fc_registry.specs.declared.shard.Removal.{Removal}
use Rattle.fc_registry.specs.declared.shard.Removal.TheVariants.{Removed}
use Rattle.fc_registry.specs.Changes.{Change, after_changes}
use Rattle.fc_registry.specs.Slots.{Shard, Slot, slot_in, with_slot}
use Rattle.fc_store.specs.declared.store.ProgramUpdate.{ProgramUpdate}
use Rattle.fc_store.specs.declared.store.ProgramUpdate.TheVariants.{Install, Commit, Remove}

abbrev pub HasEightSlots : Shard → Type 0
HasEightSlots shard = length shard.slots ≡ 8

-- for each slot of a shard, the time in ms after which a notification is confirmable again (RFC
-- 7641, section 4.5).
abbrev pub confirm_times : Shard → List ℕ
confirm_times shard = map (λ watch. watch.confirm_after) shard.watches

-- ---- serials

abbrev pub serial_of : Slot → ℕ
serial_of slot = slot.serial

-- the sum of the serials of a shard's slots.
abbrev pub serials : Shard → ℕ
serials shard = sum_by serial_of shard.slots

-- the number of changes that a commit's result reports.
abbrev pub commit_changes : Committed → ℕ
commit_changes (Done m) = if m.changed then 1 else 0
commit_changes other = 0

-- the number of changes that an install's result reports.
abbrev pub install_changes : Made → ℕ
install_changes (Raised serial created) = 1
install_changes AtEnd = 0

-- the number of changes that a removal's result reports.
abbrev pub removal_changes : Removal → ℕ
removal_changes (Removed serial) = 1
removal_changes other = 0

-- ---- slots

-- the slots of a shard after these changes of slot n, the newest first.
abbrev pub slots_with : Shard → ℕ → List Change → List Slot
slots_with shard n changes = (with_slot shard n (after_changes (slot_in shard n) changes)).slots

-- the update has this image if it is that of an install.
abbrev pub HasOwnImage : List ℕ → ProgramUpdate → Type 0
HasOwnImage image (Install own vars) = own.now ≡ image
HasOwnImage image (Commit vars) = Unit {0}
HasOwnImage image Remove = Unit {0}
