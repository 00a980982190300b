-- The slots that a database stores, and the reasons why a database isn't a store of slots.
use Rattle.std.specs.Prelude.{◌≡◌, ◌≢◌, ◌⊎◌, ℕ, ℤ, pos, ◌<◌, ◌≤◌, Bool, true, not, ◌&&◌, ◌||◌, List, [], ◌∷◌, length, map, Some, IfSome, All, ⊤}
use Rattle.std.specs.List.{filter}
use Rattle.std.specs.List.Sorted.{IsPermutation}
use Rattle.sqlite.specs.declared.types.Value.{Value}
use Rattle.sqlite.specs.declared.types.Value.TheVariants.{Null, Int, Blob}
use Rattle.sqlite.specs.Order.{Row}
use Rattle.sqlite.specs.Ops.{is_null}
use Rattle.sqlite.specs.Values.{or_null}
use Rattle.sqlite.specs.Effect.{Database}
use Rattle.sqlite.specs.State.{State, HasCleanDisk, CommitsBy}
use Rattle.sqlite.specs.Held.{Held}
use Rattle.sqlite.specs.Files.{file_state, IsOpened}
use Rattle.sqlite.specs.Recovery.{Image}
use Rattle.sqlite.specs.Start.{FindsIn}
use Rattle.sqlite.specs.declared.FileStore.{FileStore}
use Rattle.sqlite_disk.specs.declared.Disk as disk
use Rattle.sqlite.specs.declared.error.Error.{Error}
use Rattle.sqlite_value.specs.Order.{column}
use Rattle.sqlite_trees.specs.Tree.{Trees, rowid, has_rowid}
use Rattle.fc_store.specs.Stored.{StoredProgram, StoredSlot, StoredSlots, blank_slot}
use Rattle.fc_store.specs.Updates.{AreSameSlots}
use Rattle.fc_sql.specs.Table.{create_text, no_schema, slot_schema, program_values}
use Rattle.fc_sql.specs.Errors.{open_error}
use Rattle.fc_sql.specs.declared.error.BadRow.{BadRow}
use Rattle.fc_sql.specs.declared.error.BadRow.TheVariants.{Number, Twice, Serial, Version, Program}
use Rattle.fc_sql.specs.declared.error.OpenError.{OpenError}
use Rattle.fc_sql.specs.declared.error.OpenError.TheVariants as error
use Rattle.fc_sql.specs.declared.columns.Columns.{Columns}
use Rattle.fc_sql.specs.declared.columns.Unread.{Unread}
use Rattle.fc_sql.specs.declared.columns.Unread.TheVariants.{Memory, Bad}

-- ---- a slot's row

-- the serial of the program's install isn't above the slot's serial, if the slot has a program.
abbrev pub IsSlotState : StoredSlot → Type 0
IsSlotState s = IfSome s.program (λ (p : StoredProgram). p.version ≤ s.serial)

-- the columns serial, version, image and vars of a slot's row.
abbrev pub state_values : StoredSlot → Row
state_values s = Int (pos s.serial) ∷ program_values s.program

-- the columns serial, version, image and vars of a row in the table.
abbrev pub state_columns : Row → Row
state_columns r = column r 2 ∷ column r 3 ∷ column r 4 ∷ column r 5 ∷ []

-- the columns serial, version, image and vars of each row with this number.
abbrev pub rows_of : List Row → ℕ → List Row
rows_of rows n = map state_columns (filter (has_rowid (pos n)) rows)

-- A slot's rows: one with its state, or none if the slot is blank.
abbrev pub AreOfSlot : List Row → StoredSlot → Type 0
AreOfSlot rows s = ((rows ≡ state_values s ∷ []) × IsSlotState s) ⊎ ((rows ≡ []) × (s ≡ blank_slot))

-- ---- a table

-- the rows of the first table, that of the slots.
abbrev pub slot_rows : State → List Row
slot_rows s = s.now.trees 0

abbrev pub IsSlotNumber : Value → Type 0
IsSlotNumber v = (n : ℕ) × (n < 64) × (v ≡ Int (pos n))

abbrev pub AreSlotNumbers : List Row → Type 0
AreSlotNumbers = All (λ (r : Row). IsSlotNumber (rowid r))

-- the rows with the numbers of slots store these slots.
abbrev pub StoresStates : List Row → StoredSlots → Type 0
StoresStates rows stored = (n : ℕ) → n < 64 → AreOfSlot (rows_of rows n) (stored n)

-- The rows store these slots, and there is no other row.
pub record StoresSlots (rows : List Row) (stored : StoredSlots) : Type 0 where
  pub numbers : AreSlotNumbers rows
  pub states : StoresStates rows stored

-- the table stores these slots, and has no other row.
abbrev pub TableStores : State → StoredSlots → Type 0
TableStores s = StoresSlots (slot_rows s)

-- the rows of the table with the numbers of slots store these slots; the table may have other rows.
abbrev pub TableHasStates : State → StoredSlots → Type 0
TableHasStates s = StoresStates (slot_rows s)

-- these are a slot's rows in the table, in any order.
abbrev pub AreSlotRows : State → ℕ → List Row → Type 0
AreSlotRows s n = IsPermutation (rows_of (slot_rows s) n)

-- A database stores these slots: it has the table, or it is empty and the slots are blank.
abbrev pub StoresIn : Database → StoredSlots → Type 0
StoresIn db stored = ((db.schema ≡ slot_schema) × StoresSlots (db.trees 0) stored) ⊎ ((db.schema ≡ no_schema) × AreSameSlots stored (λ _. blank_slot))

-- the table exists if the medium is clean.
abbrev pub HasTable : State → Type 0
HasTable s = HasCleanDisk s → s.now.schema ≡ slot_schema

-- ---- refusals

abbrev pub IsUnsigned : Value → Type 0
IsUnsigned v = (n : ℕ) × (v ≡ Int (pos n))

abbrev pub IsBlob : Value → Type 0
IsBlob v = (b : List ℕ) × (v ≡ Blob b)

-- some of the three are NULL, and some are not.
abbrev pub is_half : Value → Value → Value → Bool
is_half a b c = (is_null a || is_null b || is_null c) && not (is_null a && is_null b && is_null c)

-- The reasons why the columns serial, version, image and vars aren't the state of a slot. The
-- serial isn't a number from 0 up. The version is neither NULL nor such a number, or is above the
-- serial. The image or the variables are neither NULL nor a blob. Some of version, image and vars
-- are NULL, and some aren't.
abbrev pub IsBadRow : BadRow → Row → Type 0
IsBadRow Number r = ⊥
IsBadRow Twice r = ⊥
IsBadRow Serial r = ¬ IsUnsigned (column r 0)
IsBadRow Version r = ((column r 1 ≢ Null) × ¬ IsUnsigned (column r 1)) ⊎ ((s : ℕ) × (v : ℕ) × (column r 0 ≡ Int (pos s)) × (column r 1 ≡ Int (pos v)) × (s < v))
IsBadRow Program r =
    ((column r 2 ≢ Null) × ¬ IsBlob (column r 2)) ⊎ (((column r 3 ≢ Null) × ¬ IsBlob (column r 3)) ⊎ (is_half (column r 1) (column r 2) (column r 3) ≡ true))

-- why the rows with a slot's number don't store a slot: there are several, or the only row isn't
-- the state of a slot.
abbrev pub AreBad : BadRow → List Row → Type 0
AreBad Number rows = ⊥
AreBad Twice rows = 2 ≤ length rows
AreBad Serial rows = (r : Row) × (rows ≡ r ∷ []) × IsBadRow Serial r
AreBad Version rows = (r : Row) × (rows ≡ r ∷ []) × IsBadRow Version r
AreBad Program rows = (r : Row) × (rows ≡ r ∷ []) × IsBadRow Program r

-- there is a row with this rowid, and the rowid isn't the number of a slot.
abbrev pub HasOther : List Row → ℤ → Type 0
HasOther rows z = ¬ IsSlotNumber (Int z) × (All (λ (r : Row). rowid r ≢ Int z) rows → ⊥)

-- why a table has a row that isn't the state of a slot: its rowid, and the reason.
abbrev pub HasBad : List Row → ℤ → BadRow → Type 0
HasBad rows z why = ((why ≡ Number) × HasOther rows z) ⊎ ((n : ℕ) × (n < 64) × (z ≡ pos n) × AreBad why (rows_of rows n))

-- the error is that of a failed call of the database.
abbrev pub IsFailure : OpenError → Type 0
IsFailure e = (why : Error) × (e ≡ open_error why)

-- Nothing was changed.
abbrev pub IsSameDatabase : State → State → Type 0
IsSameDatabase old new = (new.now ≡ old.now) × (new.committed ≡ old.committed)

-- a row isn't the state of a slot, and nothing was changed.
abbrev pub RefusesRow : State → State → OpenError → Type 0
RefusesRow old new e = (z : ℤ) × (why : BadRow) × (e ≡ error.Row z why) × HasBad (old.now.trees 0) z why × IsSameDatabase old new

-- Why rows are refused: a row isn't the state of a slot, or a call of the database failed.
abbrev pub RefusesRows : State → State → OpenError → Type 0
RefusesRows old new e = RefusesRow old new e ⊎ IsFailure e

-- the schema is neither empty nor that of the slots' table, and nothing was changed.
abbrev pub RefusesForeign : State → State → OpenError → Type 0
RefusesForeign old new e = (e ≡ error.Foreign) × (old.now.schema ≢ slot_schema) × (old.now.schema ≢ no_schema) × IsSameDatabase old new

-- Why a database's tables are refused: it has other tables, or a call of the database failed.
abbrev pub OtherTables : State → State → OpenError → Type 0
OtherTables old new e = RefusesForeign old new e ⊎ IsFailure e

-- Why a database is refused: it has other tables, a row isn't the state of a slot, or a call of the
-- database failed.
abbrev pub RefusesDatabase : State → State → OpenError → Type 0
RefusesDatabase old new e = RefusesForeign old new e ⊎ (((old.now.schema ≡ slot_schema) × RefusesRow old new e) ⊎ IsFailure e)

-- the database was empty, and the statement that creates the table may commit these contents.
abbrev pub Makes : State → Trees → Type 0
Makes old db = (old.now.schema ≡ no_schema) × CommitsBy create_text [] old db

-- the table exists, and has no row.
abbrev pub HasNoRow : State → Type 0
HasNoRow s = (s.now.schema ≡ slot_schema) × (s.now.trees 0 ≡ [])

-- The table exists: it existed before, or it was made in an empty database and has no row.
abbrev pub IsTableMade : State → State → Type 0
IsTableMade old new = ((old.now.schema ≡ slot_schema) × IsSameDatabase old new) ⊎ ((old.now.schema ≡ no_schema) × (new.now.schema ≡ slot_schema) × (new.now.trees 0 ≡ []))

-- ---- columns that were read

-- the state of a slot with a program.
abbrev pub slot_with : ℕ → ℕ → List ℕ → List ℕ → StoredSlot
slot_with serial version image vars = record { serial = serial; program = Some (record { version = version; image = image; vars = vars }) }

-- the values of the columns serial, version, image and vars that were read.
abbrev pub column_values : Columns → Row
column_values c = Int (pos c.serial) ∷ or_null (λ (n : ℕ). Int (pos n)) c.version ∷ or_null (λ b. Blob b.items) c.image ∷ or_null (λ b. Blob b.items) c.vars ∷ []

-- each row has this number of columns.
abbrev pub AreWide : ℕ → List Row → Type 0
AreWide n = All (λ (r : Row). length r ≡ n)

-- why columns weren't read: memory was refused, or they aren't the state of a slot, for a reason.
abbrev pub AreUnreadColumns : Row → Unread → Type 0
AreUnreadColumns r Memory = ⊤
AreUnreadColumns r (Bad why) = IsBadRow why r

-- why a column wasn't read: memory was refused, or its value can't be read, for this reason.
abbrev pub IsUnreadColumn : (Value → Type 0) → Row → ℕ → BadRow → Unread → Type 0
IsUnreadColumn is_readable r at why e = (e ≡ Memory) ⊎ ((e ≡ Bad why) × (at < length r → ¬ is_readable (column r at)))

-- why the rows of a slot weren't read: they aren't the slot's, or memory was refused.
abbrev pub AreUnread : ℕ → List Row → OpenError → Type 0
AreUnread slot rows e = ((why : BadRow) × (e ≡ error.Row (pos slot) why) × (AreWide 4 rows → AreBad why rows)) ⊎ (e ≡ error.Memory)

-- why the only row of a slot wasn't read: it isn't the state of a slot, or memory was refused.
abbrev pub IsUnreadRow : ℕ → Row → OpenError → Type 0
IsUnreadRow slot r e = ((why : BadRow) × (e ≡ error.Row (pos slot) why) × (length r ≡ 4 → AreBad why (r ∷ []))) ⊎ (e ≡ error.Memory)

-- why the number of a row was refused: it isn't a slot's number, or it wasn't read.
abbrev pub IsOtherNumber : Row → OpenError → Type 0
IsOtherNumber r e = ((z : ℤ) × (e ≡ error.Row z Number) × ¬ IsSlotNumber (Int z) × (rowid r ≡ Int z)) ⊎ IsFailure e

-- the rowid of each row, as a column.
abbrev pub numbers_of : List Row → List Row
numbers_of = map (λ (r : Row). rowid r ∷ [])

-- these are the numbers in the table, in any order.
abbrev pub AreRowNumbers : State → List Row → Type 0
AreRowNumbers s = IsPermutation (numbers_of (slot_rows s))

-- ---- files

-- the files held, before this state, a database that stores these slots.
pub record FindsSlots {D : Type 0} {g : disk.Ghosts D} (start : Image) (now : Held (FileStore D g)) (stored : StoredSlots) : Type 0 where
  pub was : Held (FileStore D g)
  pub opened : IsOpened was
  pub found : FindsIn start (file_state was)
  pub stores : StoresIn (file_state was).now stored
