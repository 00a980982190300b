-- The slots that the table stores after the statement that writes a row.
use Rattle.std.proofs.Common.{◌≡◌, ◌⊎◌, inl, inr, ℕ, ◌<◌, ℤ, pos, Bool, true, false, not, ◌&&◌, ◌||◌, cond, List, [], ◌∷◌, append-nil, length, get_or, Option, Some, None, Ok, Err, Result, refl, sym, ap, subst, ◌∙◌, arith, ⊎_elim}
use Rattle.std.specs.Prelude.{◌==◌, if◌then◌else◌, IfErr, IfOk, IsTrue, is_ok}
use Rattle.std.specs.Ordering.{is_eq}
use Rattle.std.proofs.lemmas.Bool.{cases_Bool, cases_eq, eq-eqb, ne_eqb}
use Rattle.std.proofs.lemmas.Bool.Decides.{nat_tests}
use Rattle.std.proofs.lemmas.Int.{ints}
use Rattle.std.proofs.lemmas.List.{get_or_default}
use Rattle.sqlite_value.specs.declared.value.Value.{Value}
use Rattle.sqlite_value.specs.declared.value.Value.TheVariants.{Null, Int, Real, Text, Blob}
use Rattle.sqlite_value.specs.declared.keys.Collation.TheVariants.{Binary}
use Rattle.sqlite_value.specs.Order.{Row, value_cmp}
use Rattle.sqlite_value.specs.Keys.{first_key}
use Rattle.sqlite_value.proofs.OrderLemmas.{value_cmp-Int}
use Rattle.sqlite_trees.specs.Tree.{rowid}
use Rattle.sqlite_trees.specs.View.{is_int}
use Rattle.sqlite_rules.specs.Edit.{id_in, without_all}
use Rattle.sqlite_rules.specs.Keys.{conflicts}
use Rattle.sqlite_rules.specs.Calls.{ids_of}
use Rattle.sqlite_rules.specs.Lists.{Has}
use Rattle.sqlite_schema.specs.Rules.{equal}
use Rattle.sqlite_schema.specs.declared.command.Command.{Command}
use Rattle.sqlite_schema.specs.declared.command.Command.TheVariants.{InsertOr}
use Rattle.sqlite_schema.specs.declared.command.Conflict.TheVariants.{Replace}
use Rattle.sqlite.specs.Source.TheVariants.{Values}
use Rattle.sqlite.specs.Tree.{Trees}
use Rattle.sqlite.specs.Effect.{Database}
use Rattle.sqlite.specs.Does.{Tally, Does}
use Rattle.sqlite.specs.declared.run.Mode.{Mode}
use Rattle.sqlite.specs.declared.error.Error.{Error}
use Rattle.sqlite.specs.Listing.{understood}
use Rattle.sqlite.specs.State.{State, HasCleanDisk, Survives, Executes, ExecutesIn, CommitsBy, MayCommit, IsUnchanged, IsRolledBack, IsNotRun, mode_of, shows_rows, text_of}
use Rattle.sqlite.proofs.Callers.{IsPlain, command_of, statement_of, runs_as}
use Rattle.sqlite.specs.Ops.{binary, is_null, is_true, from_truth}
use Rattle.fc_store.specs.Stored.{StoredProgram, StoredSlot, StoredSlots, blank_slot, stored_in}
use Rattle.fc_store.specs.declared.store.SlotUpdate.{SlotUpdate}
use Rattle.fc_store.specs.Updates.{AreSameSlots, slot_after, slots_after}
use Rattle.fc_sql.specs.Table.{AreNumbered, IsMirrored, Mirrors, Puts, put_text, row_values, slot_schema, slot_table, slots_in_rows, slot_in_row, stored_of, with_stored_slot}
use Rattle.fc_sql.proofs.Put.{cast_null, cast_int}
use Rattle.fc_sql.proofs.Rows.{put_same, put_other, without_each, numbered_left, numbered_put, number_of, mapped_from}
use Rattle.fc_sql.proofs.Put.{IsPutOver, puts, put_is, put_plain, put_terms}

abbrev compared : Bool → Bool → Bool
compared null test = is_true (cond null Null (from_truth (Some test)))

compared_test : (null test : Bool) → compared null test ≡ true → test ≡ true
compared_test true test h = absurd (cc h)
compared_test false true h = refl
compared_test false false h = absurd (cc h)

equal_ints : (z : ℤ) (n : ℕ) → equal Binary (Int z) (Int (pos n)) ≡ true → is_eq (value_cmp (Int z) (Int (pos n))) ≡ true
unfolding binary
equal_ints z n h = compared_test (is_null (Int z) || is_null (Int (pos n))) (is_eq (value_cmp (Int z) (Int (pos n)))) h

same_int : (z : ℤ) (n : ℕ) → is_eq (value_cmp (Int z) (Int (pos n))) ≡ true → z ≡ pos n
same_int z n h = let e = ap is_eq (sym (value_cmp-Int z (pos n))) ∙ h in grind (arith, ints, nat_tests)

first_test : (b : Bool) → ((b && true) || false) ≡ true → b ≡ true
first_test true h = refl
first_test false h = h

-- a row that conflicts with the new row of slot n has the rowid n.
conflict_id : (n : ℕ) (s : StoredSlot) (v : Value) (rest : Row) → is_int v ≡ true → conflicts None [] slot_table (stored_of n s) (v ∷ rest) ≡ true → id_in v ≡ pos n
unfolding first_key
conflict_id n s Null rest int h = absurd (cc int)
conflict_id n s (Int z) rest int h = same_int z n (equal_ints z n (first_test (equal Binary (Int z) (Int (pos n))) h))
conflict_id n s (Real x) rest int h = absurd (cc int)
conflict_id n s (Text t) rest int h = absurd (cc int)
conflict_id n s (Blob b) rest int h = absurd (cc int)

conflict_of : (n : ℕ) (s : StoredSlot) (r : Row) → is_int (rowid r) ≡ true → conflicts None [] slot_table (stored_of n s) r ≡ true → id_in (rowid r) ≡ pos n
conflict_of n s [] int h = absurd (cc int)
conflict_of n s (v ∷ rest) int h = conflict_id n s v rest int h

stored_is : (n : ℕ) (serial : ℕ) (program : Option StoredProgram) → slot_in_row (stored_of n (record { serial = serial; program = program })) ≡ record { serial = serial; program = program }
stored_is n serial None = refl
stored_is n serial (Some p) = refl

module _ (n : ℕ) (s : StoredSlot) (old new : List Row) (numbered : AreNumbered old) (it : IsPutOver (stored_of n s) old new) where
  ids_are : (id : ℤ) → Has (ids_of it.found) id → id ≡ pos n
  ids_are id h =
      let x = mapped_from (λ (r : Row). id_in (rowid r)) it.found id h in
      let r = it.conflicting.sound x.0 x.1 in
      x.2 ∙ ap (λ (y : Row). id_in (rowid y)) r.3 ∙ conflict_of n s r.0 (number_of old r.0 numbered r.1) r.2

  pub put_states : (m : ℕ) → slots_in_rows new m ≡ with_stored_slot n s (slots_in_rows old) m
  put_states m = ⊎_elim
      (λ (e : m ≡ n). ap (λ (k : ℕ). slots_in_rows new k) e
      ∙ ap (λ (rows : List Row). slots_in_rows rows n) it.rows
      ∙ ap slot_in_row (put_same n (stored_of n s) refl (without_all old (ids_of it.found)))
      ∙ stored_is n s.serial s.program
      ∙ ap (λ (b : Bool). if b then s else slots_in_rows old m) (sym (eq-eqb m n e)))
      (λ (ne : m ≡ n → ⊥). ap (λ (rows : List Row). slots_in_rows rows m) it.rows
      ∙ ap slot_in_row (put_other n (stored_of n s) refl m ne (without_all old (ids_of it.found)) ∙ without_each m n ne (ids_of it.found) old ids_are)
      ∙ ap (λ (b : Bool). if b then s else slots_in_rows old m) (sym (ne_eqb m n ne)))
      (cases_eq m n)

  pub put_numbered : AreNumbered new
  put_numbered = subst AreNumbered (sym it.rows) (numbered_put (stored_of n s) (without_all old (ids_of it.found)) refl (numbered_left (ids_of it.found) old numbered))

-- ---- the effect of the statement

abbrev put_command : Command
put_command = InsertOr 0 Replace (Values put_terms 6) []

does_put : (limit : Option ℕ) (mode : Mode) (db : Trees) (n serial : ℕ) (program : Option StoredProgram) (text : List ℕ) (tally : Tally) (after : Database)
    → Does limit mode (row_values n (record { serial = serial; program = program })) (record { schema = slot_schema; trees = db }) text None put_command (Ok (tally, after))
    → (after.schema ≡ slot_schema) × IsPutOver (stored_of n (record { serial = serial; program = program })) (db 0) (after.trees 0)
does_put limit mode db n serial None text tally after h = puts limit mode db n serial Null Null Null cast_null text tally after h
does_put limit mode db n serial (Some p) text tally after h = puts limit mode db n serial (Int (pos p.version)) (Blob p.image) (Blob p.vars) (cast_int (pos p.version)) text tally after h

-- a statement that changed nothing or was rolled back leaves the slots that the table stores.
module _ (old : State) (stored : StoredSlots) (has : Mirrors old stored) where
  pub unchanged : (new : State) → IsTrue new.is_open → IsUnchanged old new ⊎ IsRolledBack old new → Mirrors new stored
  unchanged new is_open (inl u) = record {
    schema = ap (λ (d : Database). d.schema) u.0.now_is ∙ has.schema;
    autocommit = u.0.mode ∙ has.autocommit;
    committed = u.0.committed_is ∙ has.committed ∙ sym u.0.now_is;
    numbered = subst (λ (d : Database). AreNumbered (d.trees 0)) (sym u.0.now_is) has.numbered;
    same = λ m few. ap (λ (d : Database). slots_in_rows (d.trees 0) m) u.0.now_is ∙ has.same m few;
  }
  unchanged new is_open (inr r) =
      let undone = r.undone is_open in
      let now : new.now ≡ old.now = undone.0 ∙ has.committed in record {
        schema = ap (λ (d : Database). d.schema) now ∙ has.schema;
        autocommit = r.autocommit;
        committed = undone.1 ∙ sym undone.0;
        numbered = subst (λ (d : Database). AreNumbered (d.trees 0)) (sym now) has.numbered;
        same = λ m few. ap (λ (d : Database). slots_in_rows (d.trees 0) m) now ∙ has.same m few;
      }

module _ (n : ℕ) (s : StoredSlot) (old : State) (stored : StoredSlots) (has : Mirrors old stored) where
  abbrev changed : Trees → Type 0
  changed db = AreNumbered (db 0) × AreSameSlots (slots_in_rows (db 0)) (with_stored_slot n s stored)

  over_stored : (b : Bool) (x y : StoredSlot) → x ≡ y → (if b then s else x) ≡ (if b then s else y)
  over_stored b x y e = ap (λ (z : StoredSlot). if b then s else z) e

  changed_by : (text : List ℕ) (tally : Tally) (after : Database) → Does old.step_limit (mode_of old) (row_values n s) old.now text None put_command (Ok (tally, after)) → (after.schema ≡ slot_schema) × changed after.trees
  changed_by text tally after h =
      let it = does_put old.step_limit (mode_of old) old.now.trees n s.serial s.program text tally after
      (subst (λ schema. Does old.step_limit (mode_of old) (row_values n s) (record old.now { schema = schema }) text None put_command (Ok (tally, after))) has.schema h) in (
        it.0,
        (
          put_numbered n s (old.now.trees 0) (after.trees 0) has.numbered it.1,
          λ m few. put_states n s (old.now.trees 0) (after.trees 0) has.numbered it.1 m ∙ over_stored (m == n) (slots_in_rows (old.now.trees 0) m) (stored m) (has.same m few),
        ),
      )

  -- whatever the statement may commit stores the slots with the new state of slot n.
  pub commits : (db : Trees) → CommitsBy put_text (row_values n s) old db → AreSameSlots (slots_in_rows (db 0)) (with_stored_slot n s stored)
  unfolding CommitsBy
  commits db h =
      let known : Ok h.0 ≡ understood slot_schema put_text = sym h.1.is ∙ ap (λ schema. understood schema put_text) has.schema in
      let bare = subst IsPlain (sym known) put_plain in
      let command : h.0.command ≡ put_command = ap command_of known ∙ put_is in
      let may : MayCommit old None put_command (text_of put_text h.0) (row_values n s) db = rw (bare.0, bare.1, append-nil (row_values n s), command) at h.2 in
      committed (text_of put_text h.0) may
    where
      committed : (text : List ℕ) → MayCommit old None put_command text (row_values n s) db → AreSameSlots (slots_in_rows (db 0)) (with_stored_slot n s stored)
      committed text (inl other) = absurd (elim other.0 [ inl e ↦ cc e | inr r ↦ let e = r.2 in cc ])
      committed text (inr w) = subst (λ (d : Trees). AreSameSlots (slots_in_rows (d 0)) (with_stored_slot n s stored)) (sym w.5) (changed_by text w.1 w.2 w.3).1.1

  -- if the statement ran, the table stores the slots with the new state of slot n.
  pub ran : (new : State) (count : ℕ) → Executes put_text (row_values n s) old new (Ok count) → Mirrors new (with_stored_slot n s stored)
  ran new count h =
      let w = runs_as put_text (row_values n s) old new slot_schema has.schema put_command put_is put_plain count h in
      let it = changed_by (statement_of put_text (understood slot_schema put_text)) w.tally new.now w.changed in
      record {
        schema = it.0;
        autocommit = w.shown.mode ∙ has.autocommit;
        committed = w.shown.committed_is ∙ ap (λ (b : Bool). if b then old.committed else new.now) has.autocommit;
        numbered = it.1.0;
        same = it.1.1;
      }

  pub refused : (new : State) (e : Error) → IsTrue new.is_open → Executes put_text (row_values n s) old new (Err e) → Mirrors new stored
  unfolding ExecutesIn IsNotRun
  refused new e is_open (inl (inl it)) = unchanged old stored has new is_open (inl it.1)
  refused new e is_open (inl (inr fails)) = unchanged old stored has new is_open (inr fails.3)
  refused new e is_open (inr h) = unchanged old stored has new is_open (elim (cases_Bool (shows_rows false h.0)) [
    | inl shows ↦ inl (rw shows at h.2).1
    | inr runs ↦ elim (rw runs at h.2) [ inl placed ↦ inl placed.1 | inr fails ↦ inr fails.3 ]
  ])

  ran_open : (new : State) (count : ℕ) → Executes put_text (row_values n s) old new (Ok count) → IsTrue new.is_open
  ran_open new count h = (runs_as put_text (row_values n s) old new slot_schema has.schema put_command put_is put_plain count h).shown.is_open

  pub put_open : (new : State) (answer : Bool) → Puts n s old new answer → answer ≡ true → IsTrue new.is_open
  put_open new answer h said = go h.0 h.1 (sym said ∙ h.2)
    where
      go : (r : Result ℕ Error) → Executes put_text (row_values n s) old new r → true ≡ is_ok r → IsTrue new.is_open
      go (Ok count) e ok = ran_open new count e
      go (Err e) ex ok = absurd (cc ok)

  pub put_mirrors : (new : State) (answer : Bool) → IsTrue new.is_open → Puts n s old new answer → Mirrors new (if answer then with_stored_slot n s stored else stored)
  put_mirrors new answer is_open h = subst (λ (b : Bool). Mirrors new (if b then with_stored_slot n s stored else stored)) (sym h.2) (go h.0 h.1)
    where
      go : (r : Result ℕ Error) → Executes put_text (row_values n s) old new r → Mirrors new (if is_ok r then with_stored_slot n s stored else stored)
      go (Ok count) e = ran new count e
      go (Err e) ex = refused new e is_open ex

-- ---- while the connection is open

module _ (n : ℕ) (s : StoredSlot) (old new : State) (stored : StoredSlots) (sv : Survives old new (CommitsBy put_text (row_values n s) old)) (m : IsMirrored false old stored) where
  was : HasCleanDisk new → Mirrors old stored
  was clean = (m (omega (arith, sv.clean, clean))).1

  pub kept : (answer : Bool) → (HasCleanDisk new → Puts n s old new answer) → IsMirrored (not answer) new (if answer then with_stored_slot n s stored else stored)
  kept true put = λ clean.
      let is_open = put_open n s old stored (was clean) new true (put clean) refl in
      (is_open, put_mirrors n s old stored (was clean) new true is_open (put clean))
  kept false put = λ clean is_open. put_mirrors n s old stored (was clean) new false is_open (put clean)

  pub crashes : HasCleanDisk new → (db : Trees) → new.may_leave db → old.may_leave db ⊎ AreSameSlots (slots_in_rows (db 0)) (with_stored_slot n s stored)
  crashes clean db may = elim (sv.crash clean db may) [
    | inl before ↦ inl before
    | inr by ↦ inr (commits n s old stored (was clean) db by)
  ]

-- ---- after a write that failed

pub doubted : (s : State) (stored : StoredSlots) → IsMirrored false s stored → IsMirrored true s stored
doubted s stored m = λ clean is_open. (m clean).1

module _ (old new : State) (stored : StoredSlots) (sv : Survives old new (λ db. ⊥)) (m : IsMirrored true old stored) where
  was_kept : HasCleanDisk new → IsTrue old.is_open → Mirrors old stored
  was_kept clean opened = m (omega (arith, sv.clean, clean)) opened

  answered : (HasCleanDisk new → IsUnchanged old new) → IsMirrored false new stored
  answered same clean =
      let u = same clean in
      (u.0.is_open, unchanged old stored (was_kept clean u.0.was_open) new u.0.is_open (inl u))

  unanswered : (sql : List ℕ) (params : Row) (e : Error) → (HasCleanDisk new → IsNotRun old new sql params e) → IsMirrored true new stored
  unfolding IsNotRun
  unanswered sql params e not_run clean is_open = elim (not_run clean) [
    | inl it ↦ unchanged old stored (was_kept clean it.1.0.was_open) new is_open (inl it.1)
    | inr fails ↦ unchanged old stored (was_kept clean (fails.3.was_open is_open)) new is_open (inr fails.3)
  ]

  -- a connection that compiles a statement is open.
  pub asked : {A : Type 0} (Is : A → Type 0) (r : Result A Error) (sql : List ℕ) → (HasCleanDisk new → IfOk r (λ x. Is x × IsUnchanged old new))
      → (HasCleanDisk new → IfErr r (λ e. (params : Row) → IsNotRun old new sql params e)) → IsMirrored (not (is_ok r)) new stored
  asked Is (Ok x) sql ok err = answered (λ clean. (ok clean).1)
  asked Is (Err e) sql ok err = unanswered sql [] e (λ clean. err clean [])

-- ---- the copy in memory

-- replacing the updated slot by its state after the update gives all slots after the update.
pub with_after : (s : SlotUpdate) (k d : StoredSlot) (all : List StoredSlot) (at : ℕ) → at ≡ s.slot → at < length all → k ≡ slot_after s (get_or all at d) → AreSameSlots (with_stored_slot s.slot k (stored_in all)) (slots_after s (stored_in all))
with_after s k d all at is lt made n few = ⊎_elim
    (λ (e : n ≡ s.slot). both (eq-eqb n s.slot e) (made ∙ ap (slot_after s) (get_or_default all at d blank_slot lt ∙ ap (λ (j : ℕ). get_or all j blank_slot) (is ∙ sym e))))
    (λ (ne : n ≡ s.slot → ⊥). ap (λ (b : Bool). if b then k else stored_in all n) (ne_eqb n s.slot ne) ∙ sym (ap (λ (b : Bool). if b then slot_after s (stored_in all n) else stored_in all n) (ne_eqb n s.slot ne)))
    (cases_eq n s.slot)
  where
    both : (n == s.slot) ≡ true → k ≡ slot_after s (stored_in all n) → (if n == s.slot then k else stored_in all n) ≡ (if n == s.slot then slot_after s (stored_in all n) else stored_in all n)
    both is e = ap (λ (c : Bool). if c then k else stored_in all n) is ∙ e ∙ sym (ap (λ (c : Bool). if c then slot_after s (stored_in all n) else stored_in all n) is)

mirrors_same : (s : State) (a b : StoredSlots) → AreSameSlots a b → Mirrors s a → Mirrors s b
mirrors_same s a b e m = record { schema = m.schema; autocommit = m.autocommit; committed = m.committed; numbered = m.numbered; same = λ n few. m.same n few ∙ e n few }

pub kept_same : (b : Bool) (s : State) (x y : StoredSlots) → AreSameSlots x y → IsMirrored b s x → IsMirrored b s y
kept_same true s x y e m = λ clean is_open. mirrors_same s x y e (m clean is_open)
kept_same false s x y e m = λ clean. let it = m clean in (it.0, mirrors_same s x y e it.1)

pub same_both : (a b c : StoredSlots) → AreSameSlots a c → AreSameSlots b c → AreSameSlots a b
same_both a b c p q n few = p n few ∙ sym (q n few)
