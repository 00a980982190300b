-- Slots and shards, and the marks of commits.
use Rattle.std.specs.Prelude.{◌≡◌, ℕ, ◌/◌, ◌%◌, ◌<◌, Bool, List, [], Option, Some, None, slice_index_or, slice_set}
use Rattle.fc_observe.specs.Observers.{ObserverList}
use Rattle.fc_ticket.specs.declared.job.Origin.{Origin}
use Rattle.fc_registry.specs.declared.ring.Entry.{Entry}
use Rattle.fc_ticket.specs.Tickets.{Present}

-- the version of the present program, if there is one.
abbrev pub version_in : Option Present → Option ℕ
version_in None = None
version_in (Some p) = Some p.version

-- the variables of the present program; no bytes if the slot is empty.
abbrev pub vars_in : Option Present → List ℕ
vars_in None = []
vars_in (Some p) = p.vars

-- a slot. Its serial counts its changes. The notify serial is that of the last change that
-- observers are notified of. The ring holds the last eight commits since the program's install, the
-- oldest first.
pub record Slot : Type 0 where
  pub serial : ℕ
  pub notify_serial : ℕ
  pub present : Option Present
  pub ring : List Entry

-- the greatest serial.
abbrev pub last_serial : ℕ
last_serial = 9223372036854775807

-- a slot in which nothing was installed, at its first serial.
abbrev pub new_slot : ℕ → Slot
new_slot serial = record { serial = serial; notify_serial = serial; present = None; ring = [] }

-- a shard: the greatest time passed to it, its slots, and their observers. Slot n and the observers
-- of slot n are at place n / 8.
pub record Shard : Type 0 where
  pub index : ℕ
  pub now : ℕ
  pub slots : List Slot
  pub watches : List ObserverList

-- the shard owns slot n: n is below 64, and the shard's index is n mod 8.
pub record IsOwned (shard : Shard) (n : ℕ) : Type 0 where
  pub slot : n < 64
  pub index : n % 8 ≡ shard.index

-- slot n of its shard.
abbrev pub slot_in : Shard → ℕ → Slot
slot_in shard n = slice_index_or shard.slots (n / 8) (new_slot 0)

-- the shard with this state of slot n; the other slots are unchanged.
abbrev pub with_slot : Shard → ℕ → Slot → Shard
with_slot shard n slot = record shard { slots = slice_set shard.slots (n / 8) slot }

-- the mark of a commit, which a response consumes. It has the serial that the snapshot found, the
-- serial at the commit, and whether the commit changed the slot. It also says whether the client
-- that sent the request observes the slot from now on.
pub record Mark : Type 0 where
  pub origin : Origin
  pub found : ℕ
  pub serial : ℕ
  pub changed : Bool
  pub observed : Bool
