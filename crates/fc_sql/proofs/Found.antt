-- The slots that the rows of the table store, from the results of the two queries.
use Rattle.std.proofs.Common.{◌≡◌, ◌⊎◌, inl, inr, ℕ, ◌<◌, ◌≤◌, ℤ, pos, Bool, true, false, cond, List, [], ◌∷◌, ◌++◌, map, length, get_or, Option, Some, None, Ok, Err, Result, refl, sym, ap, subst, ◌∙◌, arith, ⊎_elim}
use Rattle.std.specs.Prelude.{◌≢◌, ◌+◌, All, find, unwrap_or, IfOk, IfErr, OnOk}
use Rattle.std.specs.List.{AllByRecursion, filter}
use Rattle.std.specs.List.Sorted.{IsPermutation}
use Rattle.std.proofs.lemmas.Bool.{cases_eq}
use Rattle.std.proofs.lemmas.List.Elements.{All-map, All-nil, All-from_recursion, recursion_from_All}
use Rattle.std.proofs.lemmas.List.Sorted.{All-permutation, IsPermutation-sym, length_permutation}
use Rattle.std.proofs.lemmas.List.{get_or_default}
use Rattle.std.proofs.Math.ListN.{get_or-append}
use Rattle.std.proofs.Math.Seq.{get_or-append_seam}
use Rattle.sqlite_value.specs.declared.value.Value.{Value}
use Rattle.sqlite_value.specs.declared.value.Value.TheVariants.{Null, Int}
use Rattle.sqlite_value.specs.Order.{Row, column}
use Rattle.sqlite_trees.specs.Tree.{Trees, rowid, has_rowid}
use Rattle.sqlite_trees.specs.View.{is_int}
use Rattle.sqlite_rules.specs.Edit.{row_at}
use Rattle.sqlite.specs.Listing.{understood}
use Rattle.sqlite.specs.State.{State, HasCleanDisk, Survives, CommitsShowing, IsUnchanged}
use Rattle.sqlite.proofs.StateLemmas.{survives_weaker}
use Rattle.sqlite.proofs.Callers.{IsPlain, never_commits, one_permutation}
use Rattle.fc_store.specs.Stored.{StoredProgram, StoredSlot, StoredSlots, blank_slot, stored_in}
use Rattle.fc_store.specs.Updates.{AreSameSlots}
use Rattle.fc_sql.specs.declared.error.BadRow.{BadRow}
use Rattle.fc_sql.specs.declared.error.BadRow.TheVariants.{Number, Twice, Serial, Version, Program}
use Rattle.sqlite.specs.declared.error.Error.TheVariants.{SqliteFailure}
use Rattle.sqlite.specs.declared.error.ErrorCode.TheVariants.{OutOfMemory}
use Rattle.sqlite.specs.Effect.{Database}
use Rattle.fc_sql.specs.declared.error.OpenError.{OpenError}
use Rattle.fc_sql.specs.declared.error.OpenError.TheVariants as error
use Rattle.fc_sql.specs.declared.columns.Unread.{Unread}
use Rattle.fc_sql.specs.declared.columns.Unread.TheVariants.{Memory, Bad}
use Rattle.fc_sql.specs.Table.{AreNumbered, Mirrors, nat_in, program_if, slot_in_row, slot_schema, slots_in_rows}
use Rattle.fc_sql.specs.Found.{AreBad, AreOfSlot, AreSlotNumbers, AreWide, HasBad, HasOther, HasTable, IsBlob, IsFailure, IsSameDatabase, IsTableMade, IsUnsigned, RefusesDatabase, IsSlotNumber, AreUnreadColumns, RefusesRow, StoresSlots, numbers_of, rows_of, state_columns, state_values}

-- ---- results

pub if_ok : {A E : Type 0} (r : Result A E) (P Q : A → Type 0) → ((x : A) → P x → Q x) → IfOk r P → IfOk r Q
if_ok (Ok x) P Q f h = f x h
if_ok (Err e) P Q f h = tt

pub if_err : {A E : Type 0} (r : Result A E) (P Q : E → Type 0) → ((e : E) → P e → Q e) → IfErr r P → IfErr r Q
if_err (Ok x) P Q f h = tt
if_err (Err e) P Q f h = f e h

pub on_ok : {A E : Type 0} (r : Result A E) (P Q : Type 0) → (P → Q) → OnOk r P → OnOk r Q
on_ok (Ok x) P Q f h = f h
on_ok (Err e) P Q f h = tt

pub fails_for_memory : IsFailure error.Memory
fails_for_memory = (SqliteFailure OutOfMemory, refl)

-- ---- columns

pub version_bad : (r : Row) (e : Unread) → (e ≡ Memory) ⊎ ((e ≡ Bad Version) × (1 < length r → ¬ ((column r 1 ≡ Null) ⊎ IsUnsigned (column r 1)))) → length r ≡ 4 → AreUnreadColumns r e
version_bad r e (inl memory) four = subst (AreUnreadColumns r) (sym memory) tt
version_bad r e (inr bad) four = subst (AreUnreadColumns r) (sym bad.0) (let no = bad.1 (omega arith) in inl (λ null. no (inl null), λ number. no (inr number)))

pub vars_bad : (r : Row) (e : Unread) → (e ≡ Memory) ⊎ ((e ≡ Bad Program) × (3 < length r → ¬ ((column r 3 ≡ Null) ⊎ IsBlob (column r 3)))) → length r ≡ 4 → AreUnreadColumns r e
vars_bad r e (inl memory) four = subst (AreUnreadColumns r) (sym memory) tt
vars_bad r e (inr bad) four = subst (AreUnreadColumns r) (sym bad.0) (let no = bad.1 (omega arith) in inr (inl (λ null. no (inl null), λ blob. no (inr blob))))

pub one_item : (xs : List Row) (x : Row) → 1 ≤ length xs → length xs < 2 → x ≡ get_or xs 0 x → xs ≡ x ∷ []
one_item [] x some few is = absurd (omega arith)
one_item (y ∷ []) x some few is = ap (λ z. z ∷ []) (sym is)
one_item (y ∷ z ∷ more) x some few is = absurd (omega arith)

-- ---- in any order

no_rows : {X : Type 0} (xs ys : List X) → IsPermutation xs ys → ys ≡ [] → xs ≡ []
no_rows [] ys h e = refl
no_rows (x ∷ xs) ys h e = absurd (omega (arith, length_permutation (x ∷ xs) ys h, ap length e))

one_row : {X : Type 0} (xs ys : List X) (y : X) → IsPermutation xs ys → ys ≡ y ∷ [] → xs ≡ y ∷ []
one_row xs ys y h e = one_permutation y xs (subst (λ zs. IsPermutation zs xs) e (IsPermutation-sym xs ys h))

pub of_slot : (rows got : List Row) (s : StoredSlot) → IsPermutation rows got → AreOfSlot got s → AreOfSlot rows s
of_slot rows got s h (inl one) = inl (one_row rows got (state_values s) h one.0, one.1)
of_slot rows got s h (inr none) = inr (no_rows rows got h none.0, none.1)

pub bad_of : (why : BadRow) (rows got : List Row) → IsPermutation rows got → AreBad why got → AreBad why rows
bad_of Number rows got h bad = bad
bad_of Twice rows got h bad = omega (arith, length_permutation rows got h)
bad_of Serial rows got h bad = (bad.0, one_row rows got bad.0 h bad.1, bad.2)
bad_of Version rows got h bad = (bad.0, one_row rows got bad.0 h bad.1, bad.2)
bad_of Program rows got h bad = (bad.0, one_row rows got bad.0 h bad.1, bad.2)

four : (rows : List Row) → AllByRecursion (λ (r : Row). length r ≡ 4) (map state_columns rows)
four [] = tt
four (r ∷ rows) = (refl, four rows)

pub wide_rows : (rows : List Row) (n : ℕ) (got : List Row) → IsPermutation (rows_of rows n) got → AreWide 4 got
wide_rows rows n got h = All-permutation (λ (r : Row). length r ≡ 4) (rows_of rows n) got h (All-from_recursion (λ (r : Row). length r ≡ 4) (rows_of rows n) (four (filter (has_rowid (pos n)) rows)))

unmapped : {X Y : Type 0} (P : Y → Type 0) (f : X → Y) (xs : List X) → AllByRecursion P (map f xs) → AllByRecursion (λ x. P (f x)) xs
unmapped P f [] h = tt
unmapped P f (x ∷ xs) h = (h.0, unmapped P f xs h.1)

pub numbers_hold : (rows got : List Row) → IsPermutation (numbers_of rows) got → AreSlotNumbers got → AreSlotNumbers rows
numbers_hold rows got h all =
    let back = All-permutation (λ (r : Row). IsSlotNumber (rowid r)) got (numbers_of rows) (IsPermutation-sym (numbers_of rows) got h) all in
    All-from_recursion (λ (r : Row). IsSlotNumber (rowid r)) rows
    (unmapped (λ (r : Row). IsSlotNumber (rowid r)) (λ (r : Row). rowid r ∷ []) rows (recursion_from_All (λ (r : Row). IsSlotNumber (rowid r)) (numbers_of rows) back))

pub other_of : (rows got : List Row) (z : ℤ) → IsPermutation (numbers_of rows) got → HasOther got z → HasOther rows z
other_of rows got z h other = (
  other.0,
  λ all. other.1 (All-permutation (λ (r : Row). rowid r ≢ Int z) (numbers_of rows) got h (All-map (λ (r : Row). rowid r ≢ Int z) (λ (r : Row). rowid r ∷ []) rows all)),
)

-- ---- the slot of a row

abbrev slot_in_values : Row → StoredSlot
slot_in_values xs = record { serial = nat_in (column xs 0); program = program_if (column xs 1) (column xs 2) (column xs 3) }

values_are : (serial : ℕ) (program : Option StoredProgram) → slot_in_values (state_values (record { serial = serial; program = program })) ≡ record { serial = serial; program = program }
values_are serial None = refl
values_are serial (Some p) = refl

pub slot_is : (r : Row) (s : StoredSlot) → state_columns r ≡ state_values s → slot_in_row r ≡ s
slot_is r s e = ap slot_in_values e ∙ values_are s.serial s.program

module _ (p : Row → Bool) where
  found : (rows : List Row) (v : Row) → map state_columns (filter p rows) ≡ v ∷ [] → state_columns (unwrap_or (find p rows) []) ≡ v
  found [] v h = absurd (cc h)
  found (r ∷ rows) v h = go (p r) (found rows v) h
    where
      go : (b : Bool) → (map state_columns (filter p rows) ≡ v ∷ [] → state_columns (unwrap_or (find p rows) []) ≡ v)
          → map state_columns (cond b (r ∷ filter p rows) (filter p rows)) ≡ v ∷ [] → state_columns (unwrap_or (cond b (Some r) (find p rows)) []) ≡ v
      go true more e = cc e
      go false more e = more e

  missing : (rows : List Row) → map state_columns (filter p rows) ≡ [] → unwrap_or (find p rows) [] ≡ []
  missing [] h = refl
  missing (r ∷ rows) h = go (p r) (missing rows) h
    where
      go : (b : Bool) → (map state_columns (filter p rows) ≡ [] → unwrap_or (find p rows) [] ≡ [])
          → map state_columns (cond b (r ∷ filter p rows) (filter p rows)) ≡ [] → unwrap_or (cond b (Some r) (find p rows)) [] ≡ []
      go true more e = absurd (cc e)
      go false more e = more e

pub slot_of_rows : (rows : List Row) (n : ℕ) (s : StoredSlot) → AreOfSlot (rows_of rows n) s → slots_in_rows rows n ≡ s
slot_of_rows rows n s (inl one) = slot_is (row_at rows (pos n)) s (found (has_rowid (pos n)) rows (state_values s) one.0)
slot_of_rows rows n s (inr none) = ap slot_in_row (missing (has_rowid (pos n)) rows none.0) ∙ sym none.1

-- ---- the table

int_number : (v : Value) → IsSlotNumber v → is_int v ≡ true
int_number v h = ap is_int h.2

numbered_rows : (rows : List Row) → AllByRecursion (λ (r : Row). IsSlotNumber (rowid r)) rows → AreNumbered rows
numbered_rows [] h = tt
numbered_rows (r ∷ rows) h = (int_number (rowid r) h.0, numbered_rows rows h.1)

pub numbered : (rows : List Row) → AreSlotNumbers rows → AreNumbered rows
numbered rows all = numbered_rows rows (recursion_from_All (λ (r : Row). IsSlotNumber (rowid r)) rows all)

pub mirrors_found : (old new : State) (stored : StoredSlots) → new.now.schema ≡ slot_schema → new.in_transaction ≡ false → new.committed ≡ new.now → new.now.trees 0 ≡ old.now.trees 0
    → StoresSlots (old.now.trees 0) stored → Mirrors new stored
mirrors_found old new stored schema autocommit committed rows it = record {
  schema = schema;
  autocommit = autocommit;
  committed = committed;
  numbered = subst AreNumbered (sym rows) (numbered (old.now.trees 0) it.numbers);
  same = λ n few. ap (λ (all : List Row). slots_in_rows all n) rows ∙ slot_of_rows (old.now.trees 0) n (stored n) (it.states n few);
}

pub none_bad : (rows : List Row) → rows ≡ [] → (z : ℤ) (why : BadRow) → HasBad rows z why → ⊥
none_bad rows none z why (inl other) = other.1.1 (subst (All (λ (r : Row). rowid r ≢ Int z)) (sym none) (All-nil (λ (r : Row). rowid r ≢ Int z)))
none_bad rows none z why (inr at) = none_of why (subst (λ (all : List Row). AreBad why (rows_of all at.0)) none at.3)
  where
    none_of : (why : BadRow) → AreBad why [] → ⊥
    none_of Number h = h
    none_of Twice h = omega (arith, h)
    none_of Serial h = cc h.1
    none_of Version h = cc h.1
    none_of Program h = cc h.1

pub blank_found : (rows : List Row) (stored : StoredSlots) → rows ≡ [] → StoresSlots rows stored → AreSameSlots stored (λ _. blank_slot)
blank_found rows stored none it n few = go (subst (λ (all : List Row). AreOfSlot (rows_of all n) (stored n)) none (it.states n few))
  where
    go : AreOfSlot [] (stored n) → stored n ≡ blank_slot
    go (inl one) = absurd (cc one.0)
    go (inr none) = none.1

-- ---- one slot more

pub one_more : (rows : List Row) (slots : List StoredSlot) (s : StoredSlot) (k : ℕ) → length slots ≡ k → ((n : ℕ) → n < k → AreOfSlot (rows_of rows n) (stored_in slots n)) → AreOfSlot (rows_of rows k) s
    → (n : ℕ) → n < k + 1 → AreOfSlot (rows_of rows n) (stored_in (slots ++ s ∷ []) n)
one_more rows slots s k size before here n low = ⊎_elim
    (λ (e : n ≡ k). subst (λ (j : ℕ). AreOfSlot (rows_of rows j) (stored_in (slots ++ s ∷ []) j)) (sym e)
    (subst (AreOfSlot (rows_of rows k)) (sym (ap (λ (j : ℕ). stored_in (slots ++ s ∷ []) j) (sym size) ∙ get_or-append_seam slots s [] blank_slot)) here))
    (λ (ne : n ≡ k → ⊥). let lower : n < k = omega (arith, low, ne) in subst (AreOfSlot (rows_of rows n)) (sym (get_or-append slots (s ∷ []) blank_slot n (omega (arith, size, lower)))) (before n lower))
    (cases_eq n k)

-- ---- calls that change nothing

pub survives_self : (s : State) (P : Trees → Type 0) → Survives s s P
survives_self s P = record { clean = omega arith; shield = λ h. h; counts = omega arith; limit = refl; closes = λ _ h. inl h; crash = λ _ db h. inl h }

pub reads_survive : (sql : List ℕ) (params : Row) (old new : State) → HasTable old → IsPlain (understood slot_schema sql) → Survives old new (CommitsShowing sql params old) → Survives old new (λ _. ⊥)
reads_survive sql params old new table plain sv =
    survives_weaker old new (CommitsShowing sql params old) (λ _. ⊥)
    (λ (clean : HasCleanDisk new) (db : Trees). never_commits sql params old db (subst (λ schema. IsPlain (understood schema sql)) (sym (table (omega (arith, sv.clean, clean)))) plain)) sv

pub kept_by : (old new : State) → IsUnchanged old new → IsSameDatabase old new
kept_by old new u = (u.0.now_is, u.0.committed_is)

pub kept_then : (a b c : State) → IsSameDatabase a b → IsSameDatabase b c → IsSameDatabase a c
kept_then a b c p q = (q.0 ∙ p.0, q.1 ∙ p.1)

-- ---- refusals

pub one_more_number : (rows : List Row) (i : ℕ) (r : Row) → i < length rows → r ≡ get_or rows i r → IsSlotNumber (rowid r) → ((k : ℕ) (d : Row) → k < i → IsSlotNumber (rowid (get_or rows k d)))
    → (k : ℕ) (d : Row) → k < i + 1 → IsSlotNumber (rowid (get_or rows k d))
one_more_number rows i r low is here before k d lt = ⊎_elim
    (λ (e : k ≡ i). subst (λ (j : ℕ). IsSlotNumber (rowid (get_or rows j d))) (sym e) (subst (λ (x : Row). IsSlotNumber (rowid x)) (is ∙ get_or_default rows i r d low) here))
    (λ (ne : k ≡ i → ⊥). before k d (omega (arith, lt, ne)))
    (cases_eq k i)

pub row_refused : (old mid new : State) (n : ℕ) (e : OpenError) → n < 64 → IsSameDatabase old mid → (why : BadRow) × (e ≡ error.Row (pos n) why) × AreBad why (rows_of (mid.now.trees 0) n) × IsSameDatabase mid new → RefusesRow old new e
row_refused old mid new n e low kept bad = (
  pos n,
  bad.0,
  bad.1,
  inr (n, low, refl, subst (λ (d : Database). AreBad bad.0 (rows_of (d.trees 0) n)) kept.0 bad.2),
  kept_then old mid new kept bad.3,
)

pub refused_later : (old mid new : State) (e : OpenError) → IsSameDatabase old mid → RefusesRow mid new e → RefusesRow old new e
refused_later old mid new e kept bad = (bad.0, bad.1, bad.2, subst (λ (d : Database). HasBad (d.trees 0) bad.0 bad.1) kept.0 bad.3, kept_then old mid new kept bad.4)

pub made_refused : (old mid new : State) (e : OpenError) → IsTableMade old mid → RefusesRow mid new e → RefusesDatabase old new e
made_refused old mid new e (inl was) bad = inr (inl (was.0, refused_later old mid new e was.1 bad))
made_refused old mid new e (inr made) bad = absurd (none_bad (mid.now.trees 0) made.2 bad.0 bad.1 bad.3)
