-- The tracks of several owners together.
use Rattle.std.proofs.Common.{◌≡◌, ◌≢◌, ℕ, Bool, true, false, if◌then◌else◌, List, [], ◌∷◌, ◌++◌, refl, sym, ap, ◌∙◌, subst, inl, inr, arith}
use Rattle.std.specs.Prelude.{◌==◌}
use Rattle.std.proofs.lemmas.Bool.Decides.{nat_tests}
use Rattle.fc_book.specs.declared.view.Track.{Track}
use Rattle.fc_book.specs.Tracks.{EntryKeys, on, HasKey, AreOn, AreSingle, entries_at}

same_number : (m n : ℕ) → (m == n) ≡ true → m ≡ n
same_number m n is = grind (is, arith, nat_tests)

other_number : (m n : ℕ) → (m == n) ≡ false → m ≢ n
other_number m n is e = let t : (m == n) ≡ true = grind (e, arith, nat_tests) in absurd (cc (sym t ∙ is))

module _ {E : Type 0} where
  pub has_right : (k : ℕ) (xs ys : List (Track E)) → HasKey k ys → HasKey k (xs ++ ys)
  has_right k [] ys h = h
  has_right k (x ∷ xs) ys h = inr (has_right k xs ys h)

  pub has_left : (k : ℕ) (xs ys : List (Track E)) → HasKey k xs → HasKey k (xs ++ ys)
  has_left k [] ys h = absurd h
  has_left k (x ∷ xs) ys (inl e) = inl e
  has_left k (x ∷ xs) ys (inr h) = inr (has_left k xs ys h)

  pub single_rest : (xs ys : List (Track E)) → AreSingle (xs ++ ys) → AreSingle ys
  single_rest [] ys s = s
  single_rest (x ∷ xs) ys s = single_rest xs ys s.1

  -- no track of the first owner has the key of a track of the other owner.
  pub single_apart : (k : ℕ) (xs ys : List (Track E)) → AreSingle (xs ++ ys) → HasKey k xs → HasKey k ys → ⊥
  single_apart k [] ys s a b = a
  single_apart k (x ∷ xs) ys s (inl e) b = s.0 (subst (λ (j : ℕ). HasKey j (xs ++ ys)) (sym e) (has_right k xs ys b))
  single_apart k (x ∷ xs) ys s (inr h) b = single_apart k xs ys s.1 h b

module _ {E : Type 0} (keys : E → EntryKeys) where
  pub on_both : (log : List E) (xs ys : List (Track E)) → AreOn keys log (xs ++ ys) → AreOn keys log xs × AreOn keys log ys
  on_both log [] ys a = (tt, a)
  on_both log (x ∷ xs) ys a = let r = on_both log xs ys a.1 in ((a.0, r.0), r.1)

  at_first : (b : Bool) (k : ℕ) (log : List E) (t : Track E) (ts : List (Track E)) → (t.key == k) ≡ b → t.entries ≡ on keys t.key log → (HasKey k ts → entries_at k ts ≡ on keys k log) → HasKey k (t ∷ ts)
      → (if b then t.entries else entries_at k ts) ≡ on keys k log
  at_first true k log t ts is here rest h = here ∙ ap (λ (j : ℕ). on keys j log) (same_number t.key k is)
  at_first false k log t ts is here rest (inl e) = absurd (other_number t.key k is e)
  at_first false k log t ts is here rest (inr h) = rest h

  -- the entries on a track are those of the history with the track's key.
  pub entries_at_key : (k : ℕ) (log : List E) (ts : List (Track E)) → AreOn keys log ts → HasKey k ts → entries_at k ts ≡ on keys k log
  entries_at_key k log [] a h = absurd h
  entries_at_key k log (t ∷ ts) a h = at_first (t.key == k) k log t ts refl a.0 (entries_at_key k log ts a.1) h
