-- The time until which a list of observers is idle.
use Rattle.std.specs.Prelude.{◌≡◌, ℕ, ◌<◌, false, List}
use Rattle.std.specs.List.{All}
use Rattle.fc_observe.specs.Entries.{is_due, is_overdue}
use Rattle.fc_observe.specs.declared.entry.Entry.{Entry}

-- at `now` the entry has no overdue notification, and no pending one about revision
-- `notify_serial`.
abbrev pub IsIdle : ℕ → ℕ → Entry → Type 0
IsIdle now notify_serial o = (is_overdue now o ≡ false) × (is_due now notify_serial o ≡ false)

-- the entry is idle at every time before `until`.
abbrev pub IsIdleUntil : ℕ → ℕ → Entry → Type 0
IsIdleUntil until notify_serial o = (now : ℕ) → now < until → IsIdle now notify_serial o

-- each of these entries is idle at every time before `until`.
abbrev pub AreIdleUntil : ℕ → ℕ → List Entry → Type 0
AreIdleUntil until notify_serial held = All (IsIdleUntil until notify_serial) held
