-- Eight shards as sixty-four slots.
use Rattle.std.specs.Prelude.{◌≡◌, ◌<◌, length, ℕ, zero, suc, ◌%◌, List, [], ◌∷◌, ◌++◌, replicate, slice_index_or, slice_set}
use Rattle.fc_registry.specs.Slots.{Slot, Shard, slot_in, new_slot}
use Rattle.fc_registry.specs.Watches.{new_watches}

-- a shard without slots.
abbrev pub no_shard : Shard
no_shard = record { index = 0; now = 0; slots = []; watches = [] }

-- the shard at an index.
abbrev pub shard_at : List Shard → ℕ → Shard
shard_at shards s = slice_index_or shards s no_shard

-- eight shards, each with its index and with eight slots and their observers.
pub record AreShards (shards : List Shard) : Type 0 where
  pub count : length shards ≡ 8
  pub index : (s : ℕ) → s < 8 → (shard_at shards s).index ≡ s
  pub size : (s : ℕ) → s < 8 → length (shard_at shards s).slots ≡ 8
  pub watched : (s : ℕ) → s < 8 → length (shard_at shards s).watches ≡ 8

-- shard n mod 8 owns slot n.
abbrev pub slot_in_shards : List Shard → ℕ → Slot
slot_in_shards shards n = slot_in (shard_at shards (n % 8)) n

-- the shards after the one that owns slot n is replaced.
abbrev pub with_owner : List Shard → ℕ → Shard → List Shard
with_owner shards n shard = slice_set shards (n % 8) shard

-- a shard of empty slots at this serial, without observers; its notifications are confirmable after
-- `confirm_after` ms.
abbrev pub empty_shard : ℕ → ℕ → ℕ → Shard
empty_shard serial confirm_after index =
    record { index = index; now = 0; slots = replicate 8 (new_slot serial); watches = new_watches index confirm_after 8 }

-- the shards of empty slots with the indices below n.
abbrev pub empty_shards : ℕ → ℕ → ℕ → List Shard
empty_shards serial confirm_after zero = []
empty_shards serial confirm_after (suc n) = empty_shards serial confirm_after n ++ (empty_shard serial confirm_after n ∷ [])

-- the shards of a new server; every slot is at this serial.
abbrev pub first_shards : ℕ → ℕ → List Shard
first_shards serial confirm_after = empty_shards serial confirm_after 8
