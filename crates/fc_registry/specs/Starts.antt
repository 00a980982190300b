-- A start of a server with restored slots.
use Rattle.std.specs.Prelude.{◌≡◌, ℕ, ◌+◌, ◌*◌, ◌<◌, ◌≤◌, ◌⊎◌, List, [], length, Option, Some, None, map, max}
use Rattle.std.specs.List.{range_with_len}
use Rattle.fc_kinds.specs.Meaning.{Program}
use Rattle.fc_kinds.specs.Runnable.{IsRunnable}
use Rattle.fc_store.specs.Stored.{StoredProgram, StoredSlot, StoredSlots}
use Rattle.fc_verify.specs.Accepted.{Accepts, IsAccepted}
use Rattle.fc_verify.specs.Judged.{judged}
use Rattle.fc_verify.specs.Refusals.{IsRefusal}
use Rattle.fc_registry.specs.Changes.{Change}
use Rattle.fc_registry.specs.Laws.{vars_since}
use Rattle.fc_registry.specs.Record.{HasRingSince}
use Rattle.fc_registry.specs.Restored.{restored_slot}
use Rattle.fc_ticket.specs.Tickets.{Present}
use Rattle.fc_registry.specs.Slots.{Shard, Slot, last_serial, new_slot, with_slot}
use Rattle.fc_registry.specs.Watches.{new_watches}
use Rattle.fc_registry.specs.declared.restore.RestoreError.{RestoreError}
use Rattle.fc_registry.specs.declared.restore.RestoreError.TheVariants as restores
use Rattle.fc_registry.specs.declared.ring.Entry.{Entry}
use Rattle.fc_registry.specs.declared.shards.StartError.{StartError}
use Rattle.fc_registry.specs.declared.shards.StartError.TheVariants as starts

-- ---- what can be restored

-- changes can leave this stored program at this serial. The program's version is above 0 and at
-- most the serial, and there are as many variables as the program has.
abbrev pub IsProgramState : ℕ → StoredProgram → Program → Type 0
IsProgramState serial k p = (0 < k.version) × (k.version ≤ serial) × (length k.vars ≡ p.vars_size)

-- the image of the stored program is accepted as a program that changes can leave at this serial.
-- Each run of the program reaches its exit.
pub record RestoresProgram (serial : ℕ) (k : StoredProgram) : Type 0 where
  pub program : Program
  pub judged_as : judged k.image ≡ Accepts program
  pub accepted : IsAccepted k.image program
  pub runs : IsRunnable program
  pub state : IsProgramState serial k program

abbrev pub CanRestoreProgram : ℕ → Option StoredProgram → Type 0
CanRestoreProgram serial None = Unit {0}
CanRestoreProgram serial (Some k) = RestoresProgram serial k

-- a start can restore the slot: its serial is at most the last one, and so can its program be, if
-- it has one.
pub record CanRestore (k : StoredSlot) : Type 0 where
  pub serial : k.serial ≤ last_serial
  pub program : CanRestoreProgram k.serial k.program

-- ---- one slot

-- slot n is restored, and no other slot changes.
abbrev pub RestoresTo : StoredSlot → Shard → ℕ → Shard → Type 0
RestoresTo k old n new = new ≡ with_slot old n (restored_slot k)

-- the reason why a stored program isn't restored: changes can't leave it, its image is refused, or
-- memory can't be allocated.
abbrev pub IsProgramError : ℕ → StoredProgram → RestoreError → Type 0
IsProgramError serial k restores.State = (p : Program) → judged k.image ≡ Accepts p → IsProgramState serial k p → ⊥
IsProgramError serial k (restores.Image refusal) = IsRefusal k.image refusal
IsProgramError serial k restores.Memory = Unit {0}

-- the reason why a slot isn't restored. The slot's serial would fall or be above the last one, or
-- the stored program isn't restored.
abbrev pub IsRestoreError : Slot → StoredSlot → RestoreError → Type 0
IsRestoreError slot k e =
    ((e ≡ restores.State) × ((k.serial < slot.serial) ⊎ (last_serial < k.serial))) ⊎ ((s : StoredProgram) × (k.program ≡ Some s) × IsProgramError k.serial s e)

-- ---- the shards of a start

-- the shard with this index at time 0, where these are the slots. No slot has an observer;
-- notifications are confirmable after `confirm_after` ms.
abbrev pub shard_over : (ℕ → Slot) → ℕ → ℕ → Shard
shard_over slots confirm_after index =
    record { index = index; now = 0; slots = map (λ k. slots (8 * k + index)) (range_with_len 0 8); watches = new_watches index confirm_after 8 }

-- the eight shards at time 0, where these are the slots.
abbrev pub shards_over : (ℕ → Slot) → ℕ → List Shard
shards_over slots confirm_after = map (shard_over slots confirm_after) (range_with_len 0 8)

-- the reason why slot n, in this state, isn't restored.
abbrev pub IsSlotError : Slot → ℕ → StoredSlot → StartError → Type 0
IsSlotError slot n k (starts.Slot number e) = (number ≡ n) × IsRestoreError slot k e
IsSlotError slot n k starts.Memory = ⊥

-- the reason why these slots aren't restored: one of them can't be restored, or memory can't be
-- allocated. Each slot is new, at serial 0, before it is restored.
abbrev pub IsStartError : StoredSlots → StartError → Type 0
IsStartError stored (starts.Slot n e) = (n < 64) × IsRestoreError (new_slot 0) (stored n) e
IsStartError stored starts.Memory = Unit {0}

-- ---- the rings after a start

-- after these changes, the ring of a slot with this program counts from the newest install. If the
-- slot had the program at the start, the ring counts from there. It begins with the variables of
-- that time, which are as many as the program has. The ring of an empty slot is empty.
abbrev pub RingContinuesIf : Slot → List Change → ℕ → Option Present → List Entry → Type 0
RingContinuesIf first cs serial None ring = ring ≡ []
RingContinuesIf first cs serial (Some p) ring =
    HasRingSince (max first.serial p.version) serial (vars_since first cs) p ring × (length (vars_since first cs) ≡ p.program.vars_size)

-- the ring of a slot that was `first` before these changes.
abbrev pub RingContinues : Slot → List Change → Slot → Type 0
RingContinues first cs slot = RingContinuesIf first cs slot.serial slot.present slot.ring
