-- The rows that are found at rowids after a row was put in.
use Rattle.std.proofs.Common.{◌≡◌, inl, inr, ℕ, ℤ, pos, Bool, true, false, not, cond, List, [], ◌∷◌, map, Ordering, Less, Equal, Greater, refl, sym, ap, subst, ◌∙◌, arith}
use Rattle.std.specs.Ordering.{is_eq, match_ordering}
use Rattle.std.proofs.lemmas.Int.{ints}
use Rattle.std.proofs.lemmas.Bool.Decides.{nat_tests}
use Rattle.sqlite_value.specs.declared.value.Value.{Value}
use Rattle.sqlite_value.specs.declared.value.Value.TheVariants.{Int}
use Rattle.sqlite_value.specs.Order.{Row, value_cmp}
use Rattle.sqlite_value.proofs.OrderLemmas.{value_cmp-Int, value_cmp_total}
use Rattle.sqlite_trees.specs.Tree.{rowid, has_rowid, put_row, without_rowid}
use Rattle.sqlite_trees.specs.View.{is_int}
use Rattle.sqlite_trees.proofs.TreeLemmas.{all-put_row}
use Rattle.fc_sql.specs.Table.{AreNumbered}
use Rattle.sqlite_rules.specs.Edit.{row_at, without_all}
use Rattle.sqlite_rules.specs.Lists.{Has}

apart : (m n : ℕ) → (m ≡ n → ⊥) → is_eq (value_cmp (Int (pos n)) (Int (pos m))) ≡ false
apart m n ne = ap is_eq (value_cmp-Int (pos n) (pos m)) ∙ grind (arith, ints, nat_tests)

alike : (n : ℕ) → is_eq (value_cmp (Int (pos n)) (Int (pos n))) ≡ true
alike n = ap is_eq (value_cmp-Int (pos n) (pos n)) ∙ grind (arith, ints, nat_tests)

tied : (m n : ℕ) (v : Value) → (m ≡ n → ⊥) → value_cmp v (Int (pos n)) ≡ Equal → is_eq (value_cmp v (Int (pos m))) ≡ false
tied m n v ne e = ap is_eq (value_cmp_total.congr v (Int (pos n)) (Int (pos m)) e) ∙ apart m n ne

eq_is : (o : Ordering) → is_eq o ≡ true → o ≡ Equal
eq_is Less h = absurd (cc h)
eq_is Equal h = refl
eq_is Greater h = absurd (cc h)

-- the search for a rowid skips a row with another rowid.
passed : (id : ℤ) (r : Row) (rows : List Row) → has_rowid id r ≡ false → row_at (r ∷ rows) id ≡ row_at rows id
passed id r rows h = rw h refl

met : (id : ℤ) (r : Row) (rows : List Row) → has_rowid id r ≡ true → row_at (r ∷ rows) id ≡ r
met id r rows h = rw h refl

abbrev Put : Ordering → Row → Row → List Row → List Row
Put o new r rows = match_ordering o (r ∷ put_row new rows) (new ∷ rows) (new ∷ r ∷ rows)

module _ (n : ℕ) (new : Row) (is : rowid new ≡ Int (pos n)) where
  here : has_rowid (pos n) new ≡ true
  here = ap (λ (v : Value). is_eq (value_cmp v (Int (pos n)))) is ∙ alike n

  -- the row that was put in is found at its own rowid.
  pub put_same : (rows : List Row) → row_at (put_row new rows) (pos n) ≡ new
  put_same [] = met (pos n) new [] here
  put_same (r ∷ rows) = go (put_same rows) (value_cmp (rowid r) (rowid new)) refl
    where
      go : row_at (put_row new rows) (pos n) ≡ new → (o : Ordering) → value_cmp (rowid r) (rowid new) ≡ o → row_at (Put o new r rows) (pos n) ≡ new
      go more Less e = passed (pos n) r (put_row new rows) (ap (λ (v : Value). is_eq (value_cmp (rowid r) v)) (sym is) ∙ ap is_eq e) ∙ more
      go more Equal e = met (pos n) new rows here
      go more Greater e = met (pos n) new (r ∷ rows) here

  module _ (m : ℕ) (ne : m ≡ n → ⊥) where
    there : has_rowid (pos m) new ≡ false
    there = ap (λ (v : Value). is_eq (value_cmp v (Int (pos m)))) is ∙ apart m n ne

    -- at another rowid, the same row is found as before.
    pub put_other : (rows : List Row) → row_at (put_row new rows) (pos m) ≡ row_at rows (pos m)
    put_other [] = passed (pos m) new [] there
    put_other (r ∷ rows) = go (put_other rows) (value_cmp (rowid r) (rowid new)) refl
      where
        kept : row_at (put_row new rows) (pos m) ≡ row_at rows (pos m) → (b : Bool) → has_rowid (pos m) r ≡ b → row_at (r ∷ put_row new rows) (pos m) ≡ row_at (r ∷ rows) (pos m)
        kept more true h = met (pos m) r (put_row new rows) h ∙ sym (met (pos m) r rows h)
        kept more false h = passed (pos m) r (put_row new rows) h ∙ more ∙ sym (passed (pos m) r rows h)

        go : row_at (put_row new rows) (pos m) ≡ row_at rows (pos m) → (o : Ordering) → value_cmp (rowid r) (rowid new) ≡ o → row_at (Put o new r rows) (pos m) ≡ row_at (r ∷ rows) (pos m)
        go more Less e = kept more (has_rowid (pos m) r) refl
        go more Equal e = passed (pos m) new rows there ∙ sym (passed (pos m) r rows (tied m n (rowid r) ne (ap (λ (v : Value). value_cmp (rowid r) v) (sym is) ∙ e)))
        go more Greater e = passed (pos m) new (r ∷ rows) there

module _ (m n : ℕ) (ne : m ≡ n → ⊥) where
  abbrev Left : Bool → Row → List Row → List Row
  Left b r rows = cond (not b) (r ∷ without_rowid (pos n) rows) (without_rowid (pos n) rows)

  pub without_other : (rows : List Row) → row_at (without_rowid (pos n) rows) (pos m) ≡ row_at rows (pos m)
  without_other [] = refl
  without_other (r ∷ rows) = go (without_other rows) (has_rowid (pos n) r) refl
    where
      kept : row_at (without_rowid (pos n) rows) (pos m) ≡ row_at rows (pos m) → (b : Bool) → has_rowid (pos m) r ≡ b → row_at (r ∷ without_rowid (pos n) rows) (pos m) ≡ row_at (r ∷ rows) (pos m)
      kept more true h = met (pos m) r (without_rowid (pos n) rows) h ∙ sym (met (pos m) r rows h)
      kept more false h = passed (pos m) r (without_rowid (pos n) rows) h ∙ more ∙ sym (passed (pos m) r rows h)

      go : row_at (without_rowid (pos n) rows) (pos m) ≡ row_at rows (pos m) → (b : Bool) → has_rowid (pos n) r ≡ b → row_at (Left b r rows) (pos m) ≡ row_at (r ∷ rows) (pos m)
      go more true h = more ∙ sym (passed (pos m) r rows (tied m n (rowid r) ne (eq_is (value_cmp (rowid r) (Int (pos n))) h)))
      go more false h = kept more (has_rowid (pos m) r) refl

  pub without_each : (ids : List ℤ) (rows : List Row) → ((id : ℤ) → Has ids id → id ≡ pos n) → row_at (without_all rows ids) (pos m) ≡ row_at rows (pos m)
  without_each [] rows all = refl
  without_each (id ∷ ids) rows all = without_each ids (without_rowid id rows) (λ k h. all k (inr h)) ∙ ap (λ (k : ℤ). row_at (without_rowid k rows) (pos m)) (all id (inl refl)) ∙ without_other rows

numbered_without : (id : ℤ) (rows : List Row) → AreNumbered rows → AreNumbered (without_rowid id rows)
numbered_without id [] h = tt
numbered_without id (r ∷ rows) h = go (has_rowid id r) (numbered_without id rows h.1)
  where
    go : (b : Bool) → AreNumbered (without_rowid id rows) → AreNumbered (cond (not b) (r ∷ without_rowid id rows) (without_rowid id rows))
    go true more = more
    go false more = (h.0, more)

pub numbered_left : (ids : List ℤ) (rows : List Row) → AreNumbered rows → AreNumbered (without_all rows ids)
numbered_left [] rows h = h
numbered_left (id ∷ ids) rows h = numbered_left ids (without_rowid id rows) (numbered_without id rows h)

pub numbered_put : (new : Row) (rows : List Row) → is_int (rowid new) ≡ true → AreNumbered rows → AreNumbered (put_row new rows)
numbered_put new rows one all = all-put_row (λ (r : Row). is_int (rowid r) ≡ true) new rows one all

pub number_of : (rows : List Row) (r : Row) → AreNumbered rows → Has rows r → is_int (rowid r) ≡ true
number_of [] r all h = absurd h
number_of (x ∷ rows) r all (inl e) = subst (λ (y : Row). is_int (rowid y) ≡ true) (sym e) all.0
number_of (x ∷ rows) r all (inr more) = number_of rows r all.1 more

pub mapped_from : {A B : Type 0} (f : A → B) (xs : List A) (y : B) → Has (map f xs) y → (x : A) × Has xs x × (y ≡ f x)
mapped_from f [] y h = absurd h
mapped_from f (x ∷ xs) y (inl e) = (x, inl refl, e)
mapped_from f (x ∷ xs) y (inr more) = let it = mapped_from f xs y more in (it.0, inr it.1, it.2)
