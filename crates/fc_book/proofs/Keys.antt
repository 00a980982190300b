-- Tracks, found by their keys.
use Rattle.std.proofs.Common.{◌≡◌, ◌≢◌, ◌⊎◌, ℕ, Bool, true, false, List, [], ◌∷◌, ◌++◌, refl, sym, ap, ◌∙◌, ⊎_elim, inl, inr, arith}
use Rattle.std.specs.Prelude.{◌==◌, ◌||◌}
use Rattle.std.proofs.lemmas.List.{append-nil}
use Rattle.std.proofs.lemmas.List.Elements.{filter-append}
use Rattle.std.proofs.lemmas.Bool.Decides.{nat_tests}
use Rattle.fc_book.specs.declared.view.Track.{Track}
use Rattle.fc_book.specs.Tracks.{EntryKeys, is_on, on, HasKey, AreOn, AreSingle, entries_with, with_entry}

-- an entry is on no track but those of its four keys.
is_off_keys : (a b c d k : ℕ) → a ≢ k → b ≢ k → c ≢ k → d ≢ k → (a == k) || ((b == k) || ((c == k) || (d == k))) ≡ false
is_off_keys a b c d k w x y z = grind (w, x, y, z, arith, nat_tests)

module _ {E : Type 0} where
  pub has-append : (k : ℕ) (xs ys : List (Track E)) → HasKey k (xs ++ ys) → HasKey k xs ⊎ HasKey k ys
  has-append k [] ys h = inr h
  has-append k (x ∷ xs) ys (inl e) = inl (inl e)
  has-append k (x ∷ xs) ys (inr h) = ⊎_elim (λ a. inl (inr a)) (λ b. inr b) (has-append k xs ys h)

  pub single-append : (xs ys : List (Track E)) → AreSingle xs → AreSingle ys → ((k : ℕ) → HasKey k xs → HasKey k ys → ⊥) → AreSingle (xs ++ ys)
  single-append [] ys a b apart = b
  single-append (x ∷ xs) ys a b apart = (
    λ h. ⊎_elim a.0 (apart x.key (inl refl)) (has-append x.key xs ys h),
    single-append xs ys a.1 b (λ k h g. apart k (inr h) g),
  )

module _ {E : Type 0} (keys : E → EntryKeys) where
  pub on-append : (k : ℕ) (xs ys : List E) → on keys k (xs ++ ys) ≡ on keys k xs ++ on keys k ys
  on-append k xs ys = filter-append (is_on keys k) xs ys

  pub has-with : (k : ℕ) (e : E) (ts : List (Track E)) → HasKey k (with_entry keys e ts) → HasKey k ts
  has-with k e [] h = h
  has-with k e (t ∷ ts) (inl p) = inl p
  has-with k e (t ∷ ts) (inr h) = inr (has-with k e ts h)

  -- further entries that are on none of the tracks leave the tracks those of the history.
  pub stays : (log more : List E) (ts : List (Track E)) → ((k : ℕ) → HasKey k ts → on keys k more ≡ []) → AreOn keys log ts → AreOn keys (log ++ more) ts
  stays log more [] none a = tt
  stays log more (t ∷ ts) none a = (
    a.0 ∙ (sym (append-nil (on keys t.key log)) ∙ (ap (λ (l : List E). on keys t.key log ++ l) (sym (none t.key (inl refl))) ∙ sym (on-append t.key log more))),
    stays log more ts (λ k h. none k (inr h)) a.1,
  )

  entries_on : (k : ℕ) (b : Bool) (log xs : List E) (e : E) → is_on keys k e ≡ b → xs ≡ on keys k log → entries_with b xs e ≡ on keys k log ++ on keys k (e ∷ [])
  entries_on k true log xs e is at = rw is (ap (λ (l : List E). l ++ e ∷ []) at)
  entries_on k false log xs e is at = rw is (at ∙ sym (append-nil (on keys k log)))

  -- an entry that is filed on these tracks leaves them those of the history.
  pub with_is : (log : List E) (e : E) (ts : List (Track E)) → AreOn keys log ts → AreOn keys (log ++ e ∷ []) (with_entry keys e ts)
  with_is log e [] a = tt
  with_is log e (t ∷ ts) a = (entries_on t.key (is_on keys t.key e) log t.entries e refl a.0 ∙ sym (on-append t.key log (e ∷ [])), with_is log e ts a.1)

  pub on-before : (k : ℕ) (e : E) → is_on keys k e ≡ false → on keys k (e ∷ []) ≡ []
  on-before k e is = rw is refl

  pub is_off : (k : ℕ) (e : E) → (keys e).part ≢ k → (keys e).also ≢ k → (keys e).who ≢ k → (keys e).job ≢ k → is_on keys k e ≡ false
  is_off k e a b c d = is_off_keys (keys e).part (keys e).also (keys e).who (keys e).job k a b c d

  pub are-append : (log : List E) (xs ys : List (Track E)) → AreOn keys log xs → AreOn keys log ys → AreOn keys log (xs ++ ys)
  are-append log [] ys a b = b
  are-append log (x ∷ xs) ys a b = (a.0, are-append log xs ys a.1 b)

  pub single-with : (e : E) (ts : List (Track E)) → AreSingle ts → AreSingle (with_entry keys e ts)
  single-with e [] s = tt
  single-with e (t ∷ ts) s = (λ h. s.0 (has-with t.key e ts h), single-with e ts s.1)

  -- an entry that is filed changes no track's key.
  pub keeps-key : (k : ℕ) (e : E) (ts : List (Track E)) → HasKey k ts → HasKey k (with_entry keys e ts)
  keeps-key k e [] h = h
  keeps-key k e (t ∷ ts) (inl p) = inl p
  keeps-key k e (t ∷ ts) (inr h) = inr (keeps-key k e ts h)
