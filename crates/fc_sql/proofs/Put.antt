-- The effect of the statement that writes a row.
use Rattle.std.proofs.Common.{◌≡◌, ◌⊎◌, inl, inr, ℕ, ℤ, pos, List, [], ◌∷◌, Bool, true, false, cond, Option, Some, None, Ok, Err, Result, refl, sym, ap, subst, ◌∙◌}
use Rattle.sqlite.specs.Term.{Term, lit, col}
use Rattle.sqlite.specs.declared.types.Value.{Value}
use Rattle.sqlite.specs.declared.types.Value.TheVariants.{Null, Int}
use Rattle.sqlite.specs.Order.{Row}
use Rattle.sqlite.specs.Ops.{unary}
use Rattle.sqlite.specs.Source.TheVariants.{Values}
use Rattle.sqlite.specs.Command.TheVariants.{CreateTable}
use Rattle.sqlite.specs.Compile.{table_defined_by}
use Rattle.sqlite.specs.Kind.TheVariants.{Integer}
use Rattle.sqlite.specs.Cast.{cast}
use Rattle.sqlite.specs.Tree.{Trees}
use Rattle.sqlite.specs.Effect.{Database}
use Rattle.sqlite.specs.Does.{Tally, Does, lacks_sequence}
use Rattle.sqlite.specs.Rows.{Written, Task, Puts, Clears, Judged, Tries, TriesEach, count_of, mended, nothing}
use Rattle.sqlite.specs.declared.run.Mode.{Mode}
use Rattle.sqlite_schema.specs.declared.command.Command.TheVariants.{InsertOr}
use Rattle.sqlite_schema.specs.declared.command.Conflict.TheVariants.{Replace}
use Rattle.sqlite_trees.specs.Tree.{put_row}
use Rattle.sqlite_rules.specs.Edit.{edit_of, without_all, with_rowid}
use Rattle.sqlite_rules.specs.Cast.{cast_row}
use Rattle.sqlite_rules.specs.Keys.{AreConflicts}
use Rattle.sqlite_rules.specs.Calls.{ids_of}
use Rattle.sqlite_rules.specs.declared.error.Rowids.TheVariants.{Chosen, Given}
use Rattle.sqlite_rules.specs.declared.error.Refusal.{Refusal}
use Rattle.sqlite_schema.specs.declared.schema.Keys.{Keys}
use Rattle.sqlite_tied.specs.Compute.{everything}
use Rattle.sqlite.specs.Listing.{understood}
use Rattle.sqlite.specs.Change.{created, next_tree}
use Rattle.sqlite.specs.State.{State, Executes, Writes}
use Rattle.sqlite.proofs.Callers.{IsPlain, command_of, statement_of, runs_as, one_step}
use Rattle.fc_sql.specs.Table.{slot_table, slot_schema, no_schema, create_text, put_text}

abbrev pub put_terms : List Term
put_terms = col 0 0 ∷ lit Null ∷ col 0 1 ∷ col 0 2 ∷ col 0 3 ∷ col 0 4 ∷ []

create_is : (command_of (understood no_schema create_text) ≡ CreateTable) × (statement_of create_text (understood no_schema create_text) ≡ create_text) × (table_defined_by create_text ≡ Ok slot_table)
unfolding understood everything
create_is = (refl, refl, refl)

create_plain : IsPlain (understood no_schema create_text)
unfolding understood everything
create_plain = (refl, refl)

pub put_is : command_of (understood slot_schema put_text) ≡ InsertOr 0 Replace (Values put_terms 6) []
unfolding understood everything
put_is = refl

pub put_plain : IsPlain (understood slot_schema put_text)
unfolding understood everything
put_plain = (refl, refl)

either : (b : Bool) (x : Value) → cond b x x ≡ x
either true x = refl
either false x = refl

pub cast_null : cast Integer Null ≡ Null
unfolding unary
cast_null = either _ Null

pub cast_int : (z : ℤ) → cast Integer (Int z) ≡ Int z
unfolding unary
cast_int z = either _ (Int z)

-- a step that gave a value didn't stop.
went : {B E R : Type 0} {b : B} {Stops : E → Type 0} → ((stop : E) × Stops stop × (Ok b ≡ Err stop)) ⊎ R → R
went (inl stopped) = absurd (let e = stopped.2 in cc)
went (inr on) = on

same_value : {B E : Type 0} {a b : B} → ◌≡◌ {A = Result B E} (Ok a) (Ok b) → a ≡ b
same_value e = cc

-- An empty database gets the table, which has no row.
pub creates : (old new : State) (count : ℕ) → old.now.schema ≡ no_schema → Executes create_text [] old new (Ok count) → (new.now.schema ≡ slot_schema) × (new.now.trees 0 ≡ [])
creates old new count has h =
    let w = subst (λ t. Writes old new None CreateTable t [] count) create_is.1 (runs_as create_text [] old new no_schema has CreateTable create_is.0 create_plain count h) in
    let all = went w.changed in
    let first = went all.1 in
    let made = first.1 in
    let both : Ok made.table ≡ Ok slot_table = sym made.defined ∙ create_is.2 in
    let same : made.table ≡ slot_table = cc in
    let schema : first.0.schema ≡ slot_schema = made.is ∙ ap (λ s. created s made.table) has ∙ ap (created no_schema) same in
    let plain : lacks_sequence first.0.schema ≡ false = ap lacks_sequence schema in
    let now : new.now ≡ first.0 = ap (λ (p : Tally × Database). p.1) (same_value all.2) ∙ same_value (rw plain at first.2) in
    (ap (λ (d : Database). d.schema) now ∙ schema, ap (λ (d : Database). d.trees 0) now ∙ subst (λ s. first.0.trees (next_tree s) ≡ []) has made.empty)

-- the stored row of slot n: its rowid, NULL for the primary key, the serial, and these values.
abbrev pub row_with : ℕ → ℕ → Value → Value → Value → Row
row_with n s a b c = Int (pos n) ∷ Null ∷ Int (pos s) ∷ a ∷ b ∷ c ∷ []

-- The rows `new` are the rows `old` without those that conflict with `row`, and with `row` put in
-- at its rowid.
pub record IsPutOver (row : Row) (old new : List Row) : Type 0 where
  pub found : List Row
  pub conflicting : AreConflicts None [] slot_table old row found
  pub rows : new ≡ put_row row (without_all old (ids_of found))

module _ (limit : Option ℕ) (keys : Keys) (params : Row) (n s : ℕ) (a b c : Value) (fits : cast Integer a ≡ a) where
  abbrev task : Task
  task = record { limit = limit; keys = keys; schema = slot_schema; table = slot_table; params = params }

  abbrev row : Row
  row = row_with n s a b c

  cast_again : cast_row slot_table row ≡ row
  cast_again = rw (cast_int (pos n), cast_int (pos s), cast_null, fits) refl

  put_one : (db : Trees) (one : Written) → Puts task row db (Ok one) → one.trees 0 ≡ put_row row (db 0)
  put_one db one h =
      let put = went h in
      ap (λ (w : Written). w.trees 0) (same_value put.2) ∙ (one_step slot_schema keys db put.0 (edit_of db slot_table [] Given 0 (row ∷ [])) refl put.1).rows ∙ ap (λ (r : Row). put_row r (db 0)) cast_again

  clear_one : (db : Trees) (found : List Row) (one : Written) → Clears task Replace row db found (Ok one) → one.trees 0 ≡ put_row row (without_all (db 0) (ids_of found))
  clear_one db [] one h = put_one db one h
  clear_one db (x ∷ more) one h =
      let cleared = went h in
      put_one cleared.0 one cleared.2 ∙ ap (put_row row) (one_step slot_schema keys db cleared.0 (edit_of db slot_table (ids_of (x ∷ more)) Given 0 []) refl cleared.1).rows

  judged_one : (db : Trees) (verdict : Option Refusal) (one : Written) → Judged task Replace [] row db verdict (Ok one) → IsPutOver row (db 0) (one.trees 0)
  judged_one db None one h = record { found = h.0; conflicting = h.1; rows = clear_one db h.0 one h.2 }
  judged_one db (Some why) one h = absurd (cc h)

  try_one : (db : Trees) (one : Written) → Tries task Replace [] row db (Ok one) → IsPutOver row (db 0) (one.trees 0)
  try_one db one (inl bad) = absurd (let e = bad.1 in cc)
  try_one db one (inr h) = judged_one db h.0 one h.2

  try_each : (db : Trees) (top : ℤ) (done : Written × ℤ) → TriesEach task Replace [] ((Int (pos n) ∷ Null ∷ Int (pos s) ∷ a ∷ b ∷ c ∷ []) ∷ []) top (nothing db) (Ok done) → IsPutOver row (db 0) (done.0.trees 0)
  try_each db top done h =
      let tried = went h in
      let new : with_rowid Chosen (db 0) (cast_row slot_table (mended Replace slot_table (Int (pos n) ∷ Null ∷ Int (pos s) ∷ a ∷ b ∷ c ∷ []))) ≡ row = rw (cast_int (pos n), cast_int (pos s), cast_null, fits) refl in
      let one = try_one db tried.0 (subst (λ (r : Row). Tries task Replace [] r db (Ok tried.0)) new tried.1) in
      subst (λ (rows : List Row). IsPutOver row (db 0) rows) (sym (ap (λ (d : Written × ℤ). d.0.trees 0) (same_value tried.2))) one

pub puts : (limit : Option ℕ) (mode : Mode) (db : Trees) (n s : ℕ) (a b c : Value) → cast Integer a ≡ a → (text : List ℕ) (tally : Tally) (after : Database)
    → Does limit mode (Int (pos n) ∷ Int (pos s) ∷ a ∷ b ∷ c ∷ []) (record { schema = slot_schema; trees = db }) text None (InsertOr 0 Replace (Values put_terms 6) []) (Ok (tally, after))
    → (after.schema ≡ slot_schema) × IsPutOver (row_with n s a b c) (db 0) (after.trees 0)
puts limit mode db n s a b c fits text tally after h =
    let params = Int (pos n) ∷ Int (pos s) ∷ a ∷ b ∷ c ∷ [] in
    let done = went h in
    let rows = went done.1 in
    let counter = went rows.2 in
    let each = went counter.2 in
    let next = went each.2 in
    let shown = went done.2 in
    let ended = went shown.2 in
    let now = ap (λ (p : Tally × Database). p.1) (same_value ended.2) in
    let trees = ap (λ (w : Written). w.trees) (same_value next.2) ∙ same_value next.1 in
    let one = try_each limit mode.keys params n s a b c fits db (count_of counter.0) each.0 (subst (λ (source : List Row). TriesEach (record { limit = limit; keys = mode.keys; schema = slot_schema; table = slot_table; params = params }) Replace [] source (count_of counter.0) (nothing db) (Ok each.0)) rows.1.1 each.1) in
    (ap (λ (d : Database). d.schema) now, subst (λ (all : List Row). IsPutOver (row_with n s a b c) (db 0) all) (sym (ap (λ (d : Database). d.trees 0) now ∙ ap (λ (t : Trees). t 0) trees)) one)
