-- The results of the two queries that read the table.
use Rattle.std.proofs.Common.{◌≡◌, ℕ, pos, negsuc, Bool, true, false, ◌&&◌, cond, List, [], ◌∷◌, ◌++◌, map, codes, None, Some, refl, sym, ap, subst, ◌∙◌}
use Rattle.std.specs.List.{filter, flat_map}
use Rattle.std.specs.List.Sorted.{IsPermutation}
use Rattle.std.specs.Ordering.{is_eq}
use Rattle.std.proofs.lemmas.List.Sorted.{IsPermutation-map}
use Rattle.sqlite_value.specs.declared.value.Value.{Value}
use Rattle.sqlite_value.specs.declared.value.Value.TheVariants.{Null, Int, Real, Text, Blob}
use Rattle.sqlite_value.specs.declared.keys.Collation.TheVariants.{Binary}
use Rattle.sqlite_value.specs.Order.{Row, value_cmp}
use Rattle.sqlite_trees.specs.Tree.{Trees, has_rowid, rowid}
use Rattle.sqlite_schema.specs.Rules.{equal}
use Rattle.sqlite_sql.specs.declared.ops.BinaryOp.TheVariants.{Compare}
use Rattle.sqlite_sql.specs.declared.ops.CompareOp.TheVariants.{Eq}
use Rattle.sqlite.specs.Ops.{binary, from_truth, is_true}
use Rattle.sqlite.specs.Term.{Term, lit, col, op2}
use Rattle.sqlite.specs.Query.{Query, inner, end, IsAnswer, output, Output}
use Rattle.sqlite.specs.Program.{overlay}
use Rattle.sqlite.specs.Command.TheVariants.{Select}
use Rattle.sqlite_tied.specs.Compute.{everything}
use Rattle.sqlite.specs.Listing.{understood, reads_listing}
use Rattle.sqlite.specs.Clock.{timed}
use Rattle.sqlite.specs.State.{State, IsUnchanged, Shown, ShowsRows}
use Rattle.sqlite.proofs.Callers.{IsPlain, command_of, reads_as}
use Rattle.fc_sql.specs.Table.{slot_schema}
use Rattle.fc_sql.specs.Found.{numbers_of, rows_of, state_columns}

abbrev pub get_text : List ℕ
get_text = codes "SELECT serial, version, image, vars FROM slot WHERE number = ?1"

abbrev pub numbers_text : List ℕ
numbers_text = codes "SELECT number FROM slot"

abbrev plain_query : List Term → List Term → Query
plain_query filter project = record {
  from = inner 0 end;
  filter = filter;
  group = None;
  project = project;
  distinct = false;
  collations = [];
  order = [];
  limit = lit (Int (negsuc 0));
  offset = lit (Int (pos 0));
}

abbrev get_query : Query
get_query = plain_query (op2 (Compare Eq Binary) (col 1 0) (col 0 0) ∷ []) (col 1 2 ∷ col 1 3 ∷ col 1 4 ∷ col 1 5 ∷ [])

abbrev numbers_query : Query
numbers_query = plain_query [] (col 1 0 ∷ [])

get_is : (command_of (understood slot_schema get_text) ≡ Select (record { lets = []; body = get_query }) (codes "serial" ∷ codes "version" ∷ codes "image" ∷ codes "vars" ∷ [])) × (reads_listing slot_schema get_text ≡ false)
unfolding understood everything
get_is = (refl, refl)

pub get_plain : IsPlain (understood slot_schema get_text)
unfolding understood everything
get_plain = (refl, refl)

numbers_is : (command_of (understood slot_schema numbers_text) ≡ Select (record { lets = []; body = numbers_query }) (codes "number" ∷ [])) × (reads_listing slot_schema numbers_text ≡ false)
unfolding understood everything
numbers_is = (refl, refl)

pub numbers_plain : IsPlain (understood slot_schema numbers_text)
unfolding understood everything
numbers_plain = (refl, refl)

-- ---- the rows with a number

abbrev tested : Bool → Bool
tested b = is_true (from_truth (Some b)) && true

tested_is : (b : Bool) → tested b ≡ b
tested_is true = refl
tested_is false = refl

-- the condition `number = ?1` has the truth of the test whether the row's rowid is the number.
same_test : (v : Value) (n : ℕ) → (equal Binary v (Int (pos n)) && true) ≡ is_eq (value_cmp v (Int (pos n)))
unfolding binary value_cmp
same_test Null n = refl
same_test (Int z) n = tested_is (is_eq (value_cmp (Int z) (Int (pos n))))
same_test (Real x) n = tested_is (is_eq (value_cmp (Real x) (Int (pos n))))
same_test (Text t) n = refl
same_test (Blob b) n = refl

module _ (n : ℕ) where
  abbrev params : Row
  params = Int (pos n) ∷ []

  abbrev matched : Bool → Row → List (List Row)
  matched b r = cond b ((params ∷ r ∷ []) ∷ []) []

  shown_if : (b : Bool) (r : Row) (rows : List Row) (rest : List (List Row))
      → map (λ (o : Output). o.1) (map (output get_query) rest) ≡ map state_columns rows
      → map (λ (o : Output). o.1) (map (output get_query) (matched b r ++ rest)) ≡ map state_columns (cond b (r ∷ rows) rows)
  shown_if true r rows rest e = ap (λ (xs : List Row). state_columns r ∷ xs) e
  shown_if false r rows rest e = e

  shown_rows : (rows : List Row) → map (λ (o : Output). o.1) (map (output get_query) (flat_map (λ (r : Row). matched (equal Binary (rowid r) (Int (pos n)) && true) r) rows)) ≡ rows_of rows n
  shown_rows [] = refl
  shown_rows (r ∷ rows) = ap (λ (b : Bool). map (λ (o : Output). o.1) (map (output get_query) (matched b r ++ flat_map (λ (x : Row). matched (equal Binary (rowid x) (Int (pos n)) && true) x) rows))) (same_test (rowid r) n)
      ∙ shown_if (has_rowid (pos n) r) r (filter (has_rowid (pos n)) rows) (flat_map (λ (x : Row). matched (equal Binary (rowid x) (Int (pos n)) && true) x) rows) (shown_rows rows)

  answer_rows : (db : Trees) (rows : List Row) → IsAnswer get_query (overlay db []) params rows → IsPermutation (rows_of (db 0) n) rows
  answer_rows db rows a =
      let kept = ap (map (λ (o : Output). o.1)) (a.distinct ∙ ap (map (output get_query)) a.grouped) ∙ shown_rows (db 0) in
      subst (λ (xs : List Row). IsPermutation xs rows) kept (subst (λ (ys : List Row). IsPermutation (map (λ (o : Output). o.1) a.kept) ys) (sym a.shown) (IsPermutation-map (λ (o : Output). o.1) a.kept a.ordered a.same))

  pub get_rows : (old new : State) (rows : List Row) → old.now.schema ≡ slot_schema → Shown get_text params old new rows → IsPermutation (rows_of (old.now.trees 0) n) rows
  get_rows old new rows has h = answer_rows old.now.trees rows ((reads_as get_text params old new slot_schema has _ get_is.0 get_plain get_is.1 rows h).answer Null)

-- ---- the numbers of all rows

number_rows : (rows : List Row) → map (λ (o : Output). o.1) (map (output numbers_query) (flat_map (λ (r : Row). ([] ∷ r ∷ []) ∷ []) rows)) ≡ numbers_of rows
number_rows [] = refl
number_rows (r ∷ rows) = ap (λ (xs : List Row). (rowid r ∷ []) ∷ xs) (number_rows rows)

answer_numbers : (db : Trees) (rows : List Row) → IsAnswer numbers_query (overlay db []) [] rows → IsPermutation (numbers_of (db 0)) rows
answer_numbers db rows a =
    let kept = ap (map (λ (o : Output). o.1)) (a.distinct ∙ ap (map (output numbers_query)) a.grouped) ∙ number_rows (db 0) in
    subst (λ (xs : List Row). IsPermutation xs rows) kept (subst (λ (ys : List Row). IsPermutation (map (λ (o : Output). o.1) a.kept) ys) (sym a.shown) (IsPermutation-map (λ (o : Output). o.1) a.kept a.ordered a.same))

pub get_numbers : (old new : State) (rows : List Row) → old.now.schema ≡ slot_schema → Shown numbers_text [] old new rows → IsPermutation (numbers_of (old.now.trees 0)) rows
get_numbers old new rows has h = answer_numbers old.now.trees rows ((reads_as numbers_text [] old new slot_schema has _ numbers_is.0 numbers_plain numbers_is.1 rows h).answer Null)

-- ---- a query changes nothing

pub shown_unchanged : (sql : List ℕ) (params : Row) (old new : State) (rows : List Row) → IsPlain (understood old.now.schema sql) → Shown sql params old new rows → IsUnchanged old new
unfolding Shown
shown_unchanged sql params old new rows plain h =
    let none = (subst IsPlain h.1.is plain).0 in
    (subst (ShowsRows old new sql h.0 (timed params h.0.formats h.1.now) rows) none h.2).3

pub plain_there : (sql : List ℕ) (s : State) → IsPlain (understood slot_schema sql) → s.now.schema ≡ slot_schema → IsPlain (understood s.now.schema sql)
plain_there sql s plain has = subst (λ schema. IsPlain (understood schema sql)) (sym has) plain
