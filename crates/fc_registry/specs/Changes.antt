-- The changes of a slot, and the slot after its changes.
use Rattle.std.specs.Prelude.{ℕ, ◌+◌, ◌==◌, Bool, true, if◌then◌else◌, List, [], ◌∷◌, ◌++◌, length, Option, Some, None, replicate}
use Rattle.fc_help.specs.Request.{Request}
use Rattle.fc_kinds.specs.Meaning.{Program}
use Rattle.circular_buffer.specs.Buffer.{keep_last}
use Rattle.fc_ticket.specs.declared.job.InitialVars.{InitialVars}
use Rattle.fc_ticket.specs.declared.job.InitialVars.TheVariants.{Zeros, Kept}
use Rattle.fc_registry.specs.declared.ring.Entry.{Entry}
use Rattle.fc_registry.specs.Slots.{Slot, vars_in}
use Rattle.fc_ticket.specs.Tickets.{Present}

-- a commit: the run's request, the readings of the snapshot, the variables that the commit found
-- and left, and whether the run set the notify flag.
pub record Commit : Type 0 where
  pub request : Request
  pub readings : List ℕ
  pub before : List ℕ
  pub after : List ℕ
  pub notice : Bool

-- a change of a slot: an install of an accepted image, which determines the initial variables, a
-- commit of a POST, or a removal of a program.
pub data Change : Type 0 where
  Installed : (program : Program) (initial : InitialVars) → Change
  Committed : (commit : Commit) → Change
  Removed : Change

-- the entry of a commit in the slot's ring, with the slot's serial after the commit.
abbrev pub entry_of : ℕ → Commit → Entry
entry_of serial commit = record { serial = serial; request = commit.request; readings = commit.readings; before = commit.before; after = commit.after }

-- the program in the slot, if there is one, with these variables.
abbrev pub with_vars : List ℕ → Option Present → Option Present
with_vars vars None = None
with_vars vars (Some p) = Some (record p { vars = vars })

-- whether observers are notified of a change: of an install, of a removal, and of a commit whose
-- run set the notify flag.
abbrev pub is_noticed : Change → Bool
is_noticed (Installed program initial) = true
is_noticed (Committed commit) = commit.notice
is_noticed Removed = true

-- the variables that an install leaves in a slot that had these variables. If the install keeps
-- variables and their number is that of the program, they are the same bytes; otherwise they are
-- zeros.
abbrev pub vars_installed : InitialVars → Program → List ℕ → List ℕ
vars_installed Zeros program before = replicate program.vars_size 0
vars_installed Kept program before = if length before == program.vars_size then before else replicate program.vars_size 0

-- the program that an install leaves in a slot.
abbrev pub installed : Slot → Program → InitialVars → Present
installed slot program initial = record { program = program; version = slot.serial + 1; vars = vars_installed initial program (vars_in slot.present) }

-- the slot after a change. Each change raises the serial by one; a commit sets the variables to
-- those that its run left.
abbrev pub changed : Slot → Change → Slot
changed slot (Installed program initial) = record { serial = slot.serial + 1; notify_serial = slot.serial + 1; present = Some (installed slot program initial); ring = [] }
changed slot (Committed commit) = record { serial = slot.serial + 1; notify_serial = if commit.notice then slot.serial + 1 else slot.notify_serial; present = with_vars commit.after slot.present; ring = keep_last 8 (slot.ring ++ entry_of (slot.serial + 1) commit ∷ []) }
changed slot Removed = record { serial = slot.serial + 1; notify_serial = slot.serial + 1; present = None; ring = [] }

-- the slot after these changes, the newest first.
abbrev pub after_changes : Slot → List Change → Slot
after_changes slot [] = slot
after_changes slot (c ∷ cs) = changed (after_changes slot cs) c
