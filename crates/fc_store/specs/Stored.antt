-- The state of slots in a store.
use Rattle.std.specs.Prelude.{ℕ, List, Option, None, slice_index_or}

-- a stored program: the serial of its install, its image, and its variables.
pub record StoredProgram : Type 0 where
  pub version : ℕ
  pub image : List ℕ
  pub vars : List ℕ

-- a stored slot.
pub record StoredSlot : Type 0 where
  pub serial : ℕ
  pub program : Option StoredProgram

-- a slot without any stored update.
abbrev pub blank_slot : StoredSlot
blank_slot = record { serial = 0; program = None }

-- the stored state of each slot.
abbrev pub StoredSlots : Type 0
StoredSlots = ℕ → StoredSlot

-- the slots of a list, each at its number.
abbrev pub stored_in : List StoredSlot → StoredSlots
stored_in all n = slice_index_or all n blank_slot
