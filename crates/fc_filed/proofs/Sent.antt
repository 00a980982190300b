-- Jobs whose track no thread has.
use Rattle.std.proofs.Common.{◌≡◌, ◌≢◌, ◌⊎◌, ℕ, zero, suc, ◌<◌, ◌≤◌, List, [], ◌∷◌, ◌++◌, set, refl, sym, ap, ◌∙◌, subst, ⊎_elim, inl, inr, arith}
use Rattle.std.proofs.lemmas.List.{append-nil}
use mathlib.Core.Option.{some, some-ne-none, some-injective}
use lib.ListN.{get_elem?}
use Rattle.atomic_table.proofs.Lists.{at_longer}
use Rattle.fc_book.specs.declared.view.Track.{Track}
use Rattle.fc_book.specs.declared.view.BookView.{BookView}
use Rattle.fc_book.specs.Tracks.{AreOn, AreViewsOf, HasKey, first_own, on, other_tracks, with_entry, without_first}
use Rattle.fc_book.proofs.Keys.{is_off, keeps-key, on-append, on-before}
use Rattle.fc_filed.specs.declared.entry.FiledEntry.{FiledEntry}
use Rattle.fc_filed.specs.Books.{AreSent, HasThread, IsFirstSent, IsRightForJob, IsWithThread}
use Rattle.fc_filed.specs.Entries.{IsKeyed, entry_keys}
use Rattle.fc_filed.proofs.Keyed.{also_of_keyed, part_of_keyed}

-- the view has the track with key k, and a thread's track.
abbrev pub Holds : ℕ → ℕ → BookView FiledEntry → Type 0
Holds first_job k v = HasThread first_job v × HasKey k v.own

at_place : (l : List (BookView FiledEntry)) (i : ℕ) (v w : BookView FiledEntry) → get_elem? l i ≡ some v → get_elem? (set l i w) i ≡ some w
at_place [] i v w e = absurd (some-ne-none v (sym e))
at_place (x ∷ xs) zero v w e = refl
at_place (x ∷ xs) (suc i) v w e = at_place xs i v w e

-- a place of the list is the one that is set, or has the same item as before.
elsewhere : (l : List (BookView FiledEntry)) (id i : ℕ) (v u w : BookView FiledEntry) → get_elem? l id ≡ some v → get_elem? l i ≡ some u → ((i ≡ id) × (u ≡ v)) ⊎ ((i ≢ id) × (get_elem? (set l id w) i ≡ some u))
elsewhere [] id i v u w a e = absurd (some-ne-none u (sym e))
elsewhere (x ∷ xs) zero zero v u w a e = inl (refl, sym (some-injective x u e) ∙ some-injective x v a)
elsewhere (x ∷ xs) zero (suc i) v u w a e = inr ((λ h. omega arith), e)
elsewhere (x ∷ xs) (suc id) zero v u w a e = inr ((λ h. omega arith), e)
elsewhere (x ∷ xs) (suc id) (suc i) v u w a e = ⊎_elim (λ y. inl (ap suc y.0, y.1)) (λ y. let n = y.0 in inr ((λ h. n (omega arith)), y.1)) (elsewhere xs id i v u w a e)

pub same_or_not : (m n : ℕ) → (m ≡ n) ⊎ (m ≢ n)
same_or_not zero zero = inl refl
same_or_not zero (suc n) = inr (λ e. omega (arith, e))
same_or_not (suc m) zero = inr (λ e. omega (arith, e))
same_or_not (suc m) (suc n) = ⊎_elim (λ (e : m ≡ n). inl (ap suc e)) (λ (d : m ≢ n). inr (λ e. d (omega (arith, e)))) (same_or_not m n)

module _ (first_job : ℕ) where
  -- ---- a track that a thread has stays with one, as the views change

  module _ (k : ℕ) (views : List (BookView FiledEntry)) (id : ℕ) (v : BookView FiledEntry) (at : get_elem? views id ≡ some v) where
    pub still_set : (w : BookView FiledEntry) → (Holds first_job k v → Holds first_job k w) → IsWithThread first_job views k → IsWithThread first_job (set views id w) k
    still_set w keep (i, (u, (e, holds))) = ⊎_elim
        (λ (y : (i ≡ id) × (u ≡ v)). (id, (w, (at_place views id v w at, keep (subst (λ (x : BookView FiledEntry). Holds first_job k x) y.1 holds)))))
        (λ (y : (i ≢ id) × (get_elem? (set views id w) i ≡ some u)). (i, (u, (y.1, holds))))
        (elsewhere views id i v u w at e)

    pub still_cut : (w r : BookView FiledEntry) → (Holds first_job k v → Holds first_job k w) → IsWithThread first_job views k → IsWithThread first_job (set views id w ++ r ∷ []) k
    still_cut w r keep x =
        let y = still_set w keep x in
        (y.0, (y.1.0, (at_longer (set views id w) (r ∷ []) y.0 y.1.0 y.1.1.0, y.1.1.1)))

    pub still_joined : (w both spent : BookView FiledEntry) (other : ℕ) → other ≢ id → get_elem? (set views id both) other ≡ some w → (Holds first_job k v → Holds first_job k both) → (Holds first_job k w → Holds first_job k both)
        → IsWithThread first_job views k → IsWithThread first_job (set (set views id both) other spent) k
    still_joined w both spent other apart there keep take x =
        let y = still_set both keep x in
        let here = at_place views id v both at in
        let first : (j : ℕ) (u : BookView FiledEntry) → get_elem? (set views id both) j ≡ some u → j ≢ other → get_elem? (set (set views id both) other spent) j ≡ some u =
        λ j u e n. ⊎_elim (λ (z : (j ≡ other) × (u ≡ w)). absurd (n z.0)) (λ (z : (j ≢ other) × (get_elem? (set (set views id both) other spent) j ≡ some u)). z.1) (elsewhere (set views id both) other j w u spent there e) in
        ⊎_elim
        (λ (z : (y.0 ≡ other) × (y.1.0 ≡ w)). (id, (both, (first id both here (λ q. apart (sym q)), take (subst (λ (x : BookView FiledEntry). Holds first_job k x) z.1 y.1.1.1)))))
        (λ (z : (y.0 ≢ other) × (get_elem? (set (set views id both) other spent) y.0 ≡ some y.1.0)). (y.0, (y.1.0, (z.1, y.1.1.1))))
        (elsewhere (set views id both) other y.0 w y.1.0 spent there y.1.1.0)

  -- ---- the rule's field, as the views change and the history stays

  pub sent_still : (log : List FiledEntry) (views others : List (BookView FiledEntry)) → ((k : ℕ) → IsWithThread first_job views k → IsWithThread first_job others k) → AreSent first_job log views → AreSent first_job log others
  sent_still log views others still a k le none = a k le (λ x. none (still k x))

  -- ---- an entry is filed

  thread_with : (e : FiledEntry) (v w : BookView FiledEntry) → w.own ≡ with_entry entry_keys e v.own → HasThread first_job v → HasThread first_job w
  thread_with e v w is (t, (nine, (low, h))) = (t, (nine, (low, subst (λ (ts : List (Track FiledEntry)). HasKey t ts) (sym is) (keeps-key entry_keys t e v.own h))))

  pub holds_with : (k : ℕ) (e : FiledEntry) (v w : BookView FiledEntry) → w.own ≡ with_entry entry_keys e v.own → Holds first_job k v → Holds first_job k w
  holds_with k e v w is h = (thread_with e v w is h.0, subst (λ (ts : List (Track FiledEntry)). HasKey k ts) (sym is) (keeps-key entry_keys k e v.own h.1))

  -- if an entry is filed, the tracks without a thread are still right. The track of the entry's job
  -- has a thread, and no other job's track grows.
  pub sent_filed : (log : List FiledEntry) (views others : List (BookView FiledEntry)) (e : FiledEntry) → IsKeyed first_job e → ((k : ℕ) → IsWithThread first_job views k → IsWithThread first_job others k) → IsWithThread first_job others e.job
      → AreSent first_job log views → AreSent first_job (log ++ e ∷ []) others
  sent_filed log views others e keyed still job a k le none =
      let low = part_of_keyed first_job e keyed in
      let also = also_of_keyed first_job e keyed in
      let high = keyed.who.1 in
      let off = on-before entry_keys k e (is_off entry_keys k e
      (λ p. absurd (omega (arith, p, low, le)))
      (λ p. absurd (omega (arith, p, also, le)))
      (λ p. absurd (omega (arith, p, high, le)))
      (λ p. none (subst (λ (j : ℕ). IsWithThread first_job others j) p job))) in
      subst (λ (es : List FiledEntry). IsRightForJob first_job es)
      (sym (on-append entry_keys k log (e ∷ []) ∙ (ap (λ (es : List FiledEntry). on entry_keys k log ++ es) off ∙ append-nil (on entry_keys k log))))
      (a k le (λ x. none (still k x)))

  -- ---- a job's track is sent

  rest_thread : (ts : List (Track FiledEntry)) (t : ℕ) → t < first_job → IsFirstSent first_job ts → HasKey t ts → HasKey t (other_tracks ts)
  rest_thread [] t low s h = h
  rest_thread (x ∷ xs) t low s (inl p) = let le = s.0 in absurd (omega (arith, p, low, le))
  rest_thread (x ∷ xs) t low s (inr h) = h

  -- either the track with key k is the first one, and right for its job; or the other tracks have
  -- it if the list does.
  first_or_other : (log : List FiledEntry) (ts : List (Track FiledEntry)) (k : ℕ) → AreOn entry_keys log ts → IsFirstSent first_job ts → IsRightForJob first_job (on entry_keys k log) ⊎ (HasKey k ts → HasKey k (other_tracks ts))
  first_or_other log [] k a s = inr (λ h. h)
  first_or_other log (t ∷ ts) k a s = ⊎_elim
      (λ (p : t.key ≡ k). inl (subst (λ (j : ℕ). IsRightForJob first_job (on entry_keys j log)) p (subst (λ (es : List FiledEntry). IsRightForJob first_job es) a.0 s.1)))
      (λ (n : t.key ≢ k). inr (λ h. ⊎_elim (λ (p : t.key ≡ k). absurd (n p)) (λ (x : HasKey k ts). x) h))
      (same_or_not t.key k)

  pub sent_gives : (log : List FiledEntry) (views : List (BookView FiledEntry)) (id : ℕ) (v : BookView FiledEntry) → get_elem? views id ≡ some v → AreOn entry_keys log v.own → IsFirstSent first_job v.own → AreSent first_job log views
      → AreSent first_job log (set views id (without_first v) ++ first_own v ∷ [])
  sent_gives log views id v at are first a k le none = ⊎_elim
      (λ (r : IsRightForJob first_job (on entry_keys k log)). r)
      (λ (rest : HasKey k v.own → HasKey k (other_tracks v.own)). a k le (λ x. none (still_cut k views id v at (without_first v) (first_own v) (λ h. (thread_rest h.0, rest h.1)) x)))
      (first_or_other log v.own k are first)
    where
      thread_rest : HasThread first_job v → HasThread first_job (without_first v)
      thread_rest x = (x.0, (x.1.0, (x.1.1.0, rest_thread v.own x.0 x.1.1.0 first x.1.1.1)))

  -- ---- what is attested

  -- one view owns the tracks of all threads. So a job's track outside this view shares no view with
  -- a thread's track, and is right for its job.
  pub sent_seen : (log : List FiledEntry) (views : List (BookView FiledEntry)) (id : ℕ) (v : BookView FiledEntry) → get_elem? views id ≡ some v → AreViewsOf entry_keys log views → AreSent first_job log views
      → ((t : ℕ) → 10 ≤ t → t < first_job → HasKey t v.own) → (k : ℕ) → first_job ≤ k → (HasKey k v.own → ⊥) → IsRightForJob first_job (on entry_keys k log)
  sent_seen log views id v at of a threads k le not = a k le elsewhere_none
    where
      elsewhere_none : IsWithThread first_job views k → ⊥
      elsewhere_none (i, (u, (e, (thread, has)))) =
          let same : i ≡ id = of.apart i id u v thread.0 e at (inr (inl thread.1.1.1)) (inr (inl (threads thread.0 thread.1.0 thread.1.1.0))) in
          not (subst (λ (x : BookView FiledEntry). HasKey k x.own) (some-injective u v (sym e ∙ (ap (λ (j : ℕ). get_elem? views j) same ∙ at))) has)
