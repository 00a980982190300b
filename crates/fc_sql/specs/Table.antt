-- The table of slots, its statements, and the slots that its rows store.
use Rattle.std.specs.Prelude.{◌≡◌, ℕ, pos, ◌<◌, ◌^◌, ◌==◌, if◌then◌else◌, Bool, true, false, List, [], ◌∷◌, Option, Some, None, IfSome, IsTrue, Result, is_ok, codes}
use Rattle.sqlite.specs.Collation.TheVariants.{Binary}
use Rattle.sqlite.specs.declared.types.Value.{Value}
use Rattle.sqlite.specs.declared.types.Value.TheVariants.{Null, Int, Blob}
use Rattle.sqlite.specs.Order.{Row}
use Rattle.sqlite_value.specs.Order.{column}
use Rattle.std.specs.List.{AllByRecursion}
use Rattle.sqlite_trees.specs.Tree.{Trees, rowid}
use Rattle.sqlite_trees.specs.View.{is_int}
use Rattle.sqlite_rules.specs.Edit.{row_at}
use Rattle.sqlite.specs.declared.error.Error.{Error}
use Rattle.sqlite.specs.State.{State, HasCleanDisk, Executes}
use Rattle.fc_store.specs.Updates.{AreSameSlots}
use Rattle.fc_store.specs.Stored.{StoredProgram, StoredSlot, StoredSlots}
use Rattle.sqlite.specs.Table.{Table}
use Rattle.sqlite.specs.Schema.{Schema}
use Rattle.sqlite_schema.specs.declared.schema.Column.{Column}
use Rattle.sqlite.specs.Kind.{Kind}
use Rattle.sqlite.specs.Kind.TheVariants as kinds

-- a column of a strict table: its name and its type, and whether it is NOT NULL.
abbrev pub strict_column : List ℕ → Kind → Bool → Column
strict_column name kind not_null = record { name = name; kind = kind; is_strict = true; not_null = not_null; default = Null; collation = Binary }

-- the table without constraints of its own: UNIQUE, CHECK, references, and computed columns.
abbrev pub without_rules : Table → Table
without_rules t = record t { uniques = []; orders = []; checks = []; references = []; computed = []; stamps = record { places = []; terms = []; formats = [] } }

-- the table that `create_text` defines.
abbrev pub slot_table : Table
slot_table = record {
  name = codes "slot";
  tree = 0;
  columns = (record { name = codes "number"; kind = kinds.Integer; is_strict = true; not_null = false; default = Null; collation = Binary })
      ∷ (record { name = codes "serial"; kind = kinds.Integer; is_strict = true; not_null = true; default = Null; collation = Binary })
      ∷ (record { name = codes "version"; kind = kinds.Integer; is_strict = true; not_null = false; default = Null; collation = Binary })
      ∷ (record { name = codes "image"; kind = kinds.Blob; is_strict = true; not_null = false; default = Null; collation = Binary })
      ∷ (record { name = codes "vars"; kind = kinds.Blob; is_strict = true; not_null = false; default = Null; collation = Binary }) ∷ [];
  key = Some 0;
  primary = 0 ∷ [];
  uniques = [];
  orders = [];
  checks = [];
  references = [];
  computed = [];
  stamps = record { places = []; terms = []; formats = [] };
  is_counted = false;
}

-- a database with the table of slots alone.
abbrev pub slot_schema : Schema
slot_schema = record { tables = slot_table ∷ []; indexes = []; views = [] }

-- a database without any table.
abbrev pub no_schema : Schema
no_schema = record { tables = []; indexes = []; views = [] }

abbrev pub create_text : List ℕ
create_text = codes "CREATE TABLE slot (number INTEGER PRIMARY KEY, serial INTEGER NOT NULL, version INTEGER, image BLOB, vars BLOB) STRICT"

abbrev pub put_text : List ℕ
put_text = codes "INSERT OR REPLACE INTO slot (number, serial, version, image, vars) VALUES (?1, ?2, ?3, ?4, ?5)"

-- ---- rows

-- the version, the image and the variables of a program.
abbrev pub program_values : Option StoredProgram → Row
program_values None = Null ∷ Null ∷ Null ∷ []
program_values (Some p) = Int (pos p.version) ∷ Blob p.image ∷ Blob p.vars ∷ []

-- the parameters of `put_text` for a slot.
abbrev pub row_values : ℕ → StoredSlot → Row
row_values n s = Int (pos n) ∷ Int (pos s.serial) ∷ program_values s.program

-- the row in the table: the rowid, and NULL in the column of the primary key.
abbrev pub stored_of : ℕ → StoredSlot → Row
stored_of n s = Int (pos n) ∷ Null ∷ Int (pos s.serial) ∷ program_values s.program

-- the serial and the version are below 2^63, so they are integers of SQLite.
abbrev pub AreStorable : StoredSlot → Type 0
AreStorable s = (s.serial < 2 ^ 63) × IfSome s.program (λ (p : StoredProgram). p.version < 2 ^ 63)

-- The statement ran. The result is true if it wrote the row.
abbrev pub Puts : ℕ → StoredSlot → State → State → Bool → Type 0
Puts n s old new answer = (r : Result ℕ Error) × Executes put_text (row_values n s) old new r × (answer ≡ is_ok r)

-- ---- the slots that rows store

abbrev pub nat_in : Value → ℕ
nat_in (Int (pos n)) = n
nat_in _ = 0

abbrev pub blob_bytes : Value → List ℕ
blob_bytes (Blob b) = b
blob_bytes _ = []

abbrev pub program_if : Value → Value → Value → Option StoredProgram
program_if (Int (pos v)) image vars = Some (record { version = v; image = blob_bytes image; vars = blob_bytes vars })
program_if _ image vars = None

-- the slot that a row stores; without a row the slot is blank.
abbrev pub slot_in_row : Row → StoredSlot
slot_in_row row = record { serial = nat_in (column row 2); program = program_if (column row 3) (column row 4) (column row 5) }

-- the slots that the rows of the table store.
abbrev pub slots_in_rows : List Row → StoredSlots
slots_in_rows rows n = slot_in_row (row_at rows (pos n))

-- each rowid is an integer.
abbrev pub AreNumbered : List Row → Type 0
AreNumbered = AllByRecursion (λ (r : Row). is_int (rowid r) ≡ true)

-- The table stores these slots, and is committed.
pub record Mirrors (s : State) (stored : StoredSlots) : Type 0 where
  pub schema : s.now.schema ≡ slot_schema
  pub autocommit : s.in_transaction ≡ false
  pub committed : s.committed ≡ s.now
  pub numbered : AreNumbered (s.now.trees 0)
  pub same : AreSameSlots (slots_in_rows (s.now.trees 0)) stored

-- if the medium is clean, the table stores these slots and is committed, and the connection is
-- open. After a failed write (`in_doubt`), the table does so while the connection is open.
abbrev pub IsMirrored : Bool → State → StoredSlots → Type 0
IsMirrored false s stored = HasCleanDisk s → IsTrue s.is_open × Mirrors s stored
IsMirrored true s stored = HasCleanDisk s → IsTrue s.is_open → Mirrors s stored

-- if the medium is clean, a start finds just these slots.
abbrev pub FindsOnly : State → StoredSlots → Type 0
FindsOnly s stored = HasCleanDisk s → (db : Trees) → s.may_leave db → AreSameSlots (slots_in_rows (db 0)) stored

-- the slots, with another state of slot n.
abbrev pub with_stored_slot : ℕ → StoredSlot → StoredSlots → StoredSlots
with_stored_slot n s before m = if m == n then s else before m
