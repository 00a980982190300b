-- Each move keeps the rule of the book.
use Rattle.std.proofs.Common.{◌≡◌, ◌≢◌, ◌⊎◌, ℕ, zero, suc, ◌+◌, ◌<◌, ◌≤◌, true, false, List, [], ◌∷◌, ◌++◌, set, refl, sym, ap, ◌∙◌, subst, ⊎_elim, inl, inr, arith}
use Rattle.std.proofs.lemmas.Bool.{cases_lt}
use mathlib.Core.Option.{some, some-ne-none, some-injective}
use lib.ListN.{get_elem?}
use Rattle.atomic_table.proofs.Lists.{set_again}
use Rattle.fc_book.specs.declared.view.Track.{Track}
use Rattle.fc_book.specs.declared.view.BookView.{BookView}
use Rattle.fc_book.specs.Tracks.{EntryKeys, is_on, on, HasKey, AreOn, AreSingle, OwnsTrack, HasTrack, IsViewOf, AreViewsOf, first_view, no_tracks, part_view, own_view, filed_on_all, filed_with, with_filed, with_locked, with_another, without_locked, locked_of, without_first_locked, first_locked, with_next, with_begun, without_first, first_own, other_tracks, first_track, merged_with, with_part}
use Rattle.fc_book.proofs.Keys.{on-append, has-append, has-with, stays, with_is, on-before, is_off, are-append, single-with, single-append}
use Rattle.fc_book.proofs.Moves.{nothing_is, owns_nothing, others_stay, joins, splits, changes}

module _ {E : Type 0} (keys : E → EntryKeys) where
  not_own : (k : ℕ) → OwnsTrack {E = E} k no_tracks → ⊥
  not_own k (inl h) = h
  not_own k (inr m) = absurd (cc m.0)

  -- ---- the first handle

  pub opens : AreViewsOf keys [] (first_view ∷ [])
  opens = record { each = each; apart = apart }
    where
      first : IsViewOf keys [] first_view
      first = record { locked = tt; own = tt; unbegun = λ m k le. refl; fresh = λ m k h. absurd h; unlike = λ k h o. h; single = tt }

      each : (i : ℕ) (v : BookView E) → get_elem? (first_view ∷ []) i ≡ some v → IsViewOf keys [] v
      each zero v e = subst (λ (u : BookView E). IsViewOf keys [] u) (some-injective first_view v e) first
      each (suc i) v e = absurd (some-ne-none v (sym e))

      apart : (i j : ℕ) (v w : BookView E) (k : ℕ) → get_elem? (first_view ∷ []) i ≡ some v → get_elem? (first_view ∷ []) j ≡ some w → HasTrack k v → HasTrack k w → i ≡ j
      apart zero zero v w k a b x y = refl
      apart zero (suc j) v w k a b x y = absurd (some-ne-none w (sym b))
      apart (suc i) j v w k a b x y = absurd (some-ne-none v (sym a))

  -- ---- an entry is filed

  module _ (e : E) (v w : BookView E) (part : HasKey (keys e).part w.locked) (also : HasKey (keys e).also w.locked) (who : HasKey (keys e).who v.own) (job : HasKey (keys e).job v.own) (bare : w.may_begin ≡ false) where
    files_miss : (k : ℕ) → (HasTrack k v → ⊥) → (HasTrack k w → ⊥) → on keys k (e ∷ []) ≡ []
    files_miss k nv nw = on-before keys k e (is_off keys k e
        (λ p. nw (inl (subst (λ (i : ℕ). HasKey i w.locked) p part)))
        (λ p. nw (inl (subst (λ (i : ℕ). HasKey i w.locked) p also)))
        (λ p. nv (inr (inl (subst (λ (i : ℕ). HasKey i v.own) p who))))
        (λ p. nv (inr (inl (subst (λ (i : ℕ). HasKey i v.own) p job)))))

    files_keep : (k : ℕ) → HasTrack k (filed_with keys e v w) → HasTrack k v ⊎ HasTrack k w
    files_keep k (inl h) = inr (inl (has-with keys k e w.locked h))
    files_keep k (inr (inl h)) = inl (inr (inl (has-with keys k e v.own h)))
    files_keep k (inr (inr m)) = inl (inr (inr m))

    own_before : (k : ℕ) → OwnsTrack k (filed_with keys e v w) → OwnsTrack k v
    own_before k (inl h) = inl (has-with keys k e v.own h)
    own_before k (inr m) = inr m

    files_mine : (log : List E) → IsViewOf keys log v → IsViewOf keys log w → ((k : ℕ) → HasTrack k v → HasTrack k w → ⊥) → IsViewOf keys (log ++ e ∷ []) (filed_with keys e v w)
    files_mine log a b parted = record {
      locked = with_is keys log e w.locked b.locked;
      own = with_is keys log e v.own a.own;
      unbegun = λ m k le. on-append keys k log (e ∷ []) ∙ (ap (λ (l : List E). l ++ on keys k (e ∷ [])) (a.unbegun m k le) ∙ on-before keys k e (is_off keys k e
          (λ p. parted k (inr (inr (m, le))) (inl (subst (λ (i : ℕ). HasKey i w.locked) p part)))
          (λ p. parted k (inr (inr (m, le))) (inl (subst (λ (i : ℕ). HasKey i w.locked) p also)))
          (λ p. let lt : k < v.next = a.fresh m k (subst (λ (i : ℕ). HasKey i v.own) p who) in absurd (omega arith))
          (λ p. let lt : k < v.next = a.fresh m k (subst (λ (i : ℕ). HasKey i v.own) p job) in absurd (omega arith))));
      fresh = λ m k h. a.fresh m k (has-with keys k e v.own h);
      unlike = λ k s o. parted k (inr (own_before k o)) (inl (has-with keys k e w.locked s));
      single = single-with keys e v.own a.single;
    }

    pub files : (log : List E) (views : List (BookView E)) (id other : ℕ) → AreViewsOf keys log views → get_elem? views id ≡ some v → other ≢ id → get_elem? (set views id (filed_with keys e v w)) other ≡ some w
        → AreViewsOf keys (log ++ e ∷ []) (set (set views id (filed_with keys e v w)) other no_tracks)
    files log views id other h at apart there = joins keys views id other v w (filed_with keys e v w) log (log ++ e ∷ []) h at apart there
        (λ u n x. others_stay keys log (e ∷ []) u (λ k o. files_miss k (n k o).0 (n k o).1) x) files_keep (files_mine log)

  -- ---- a part's track is taken over

  module _ (v w : BookView E) where
    part_keep : (k : ℕ) → HasTrack k (with_locked v w) → HasTrack k v ⊎ HasTrack k w
    part_keep k (inl h) = inr (inl h)
    part_keep k (inr o) = inl (inr o)

    part_mine : (log : List E) → IsViewOf keys log v → IsViewOf keys log w → ((k : ℕ) → HasTrack k v → HasTrack k w → ⊥) → IsViewOf keys log (with_locked v w)
    part_mine log a b parted = record {
      locked = b.locked;
      own = a.own;
      unbegun = a.unbegun;
      fresh = a.fresh;
      unlike = λ k s o. parted k (inr o) (inl s);
      single = a.single;
    }

    pub takes_part : (log : List E) (views : List (BookView E)) (id other : ℕ) → AreViewsOf keys log views → get_elem? views id ≡ some v → other ≢ id → get_elem? (set views id (with_locked v w)) other ≡ some w
        → AreViewsOf keys log (set (set views id (with_locked v w)) other no_tracks)
    takes_part log views id other h at apart there = joins keys views id other v w (with_locked v w) log log h at apart there (λ u n x. x) part_keep (part_mine log)

  -- ---- another part's track is taken over

  module _ (v w : BookView E) where
    another_keep : (k : ℕ) → HasTrack k (with_another v w) → HasTrack k v ⊎ HasTrack k w
    another_keep k (inl h) = ⊎_elim (λ x. inr (inl x)) (λ y. inl (inl y)) (has-append k w.locked v.locked h)
    another_keep k (inr o) = inl (inr o)

    another_mine : (log : List E) → IsViewOf keys log v → IsViewOf keys log w → ((k : ℕ) → HasTrack k v → HasTrack k w → ⊥) → IsViewOf keys log (with_another v w)
    another_mine log a b parted = record {
      locked = are-append keys log w.locked v.locked b.locked a.locked;
      own = a.own;
      unbegun = a.unbegun;
      fresh = a.fresh;
      unlike = λ k s o. ⊎_elim (λ (x : HasKey k w.locked). parted k (inr o) (inl x)) (λ (y : HasKey k v.locked). a.unlike k y o) (has-append k w.locked v.locked s);
      single = a.single;
    }

    pub takes_another : (log : List E) (views : List (BookView E)) (id other : ℕ) → AreViewsOf keys log views → get_elem? views id ≡ some v → other ≢ id → get_elem? (set views id (with_another v w)) other ≡ some w
        → AreViewsOf keys log (set (set views id (with_another v w)) other no_tracks)
    takes_another log views id other h at apart there = joins keys views id other v w (with_another v w) log log h at apart there (λ u n x. x) another_keep (another_mine log)

  -- ---- an entry is filed on all the owner's tracks

  module _ (e : E) (v : BookView E) (part : HasKey (keys e).part v.locked) (also : HasKey (keys e).also v.locked) (who : HasKey (keys e).who v.own) (job : HasKey (keys e).job v.own) where
    all_miss : (k : ℕ) → (HasTrack k v → ⊥) → on keys k (e ∷ []) ≡ []
    all_miss k nv = on-before keys k e (is_off keys k e
        (λ p. nv (inl (subst (λ (i : ℕ). HasKey i v.locked) p part)))
        (λ p. nv (inl (subst (λ (i : ℕ). HasKey i v.locked) p also)))
        (λ p. nv (inr (inl (subst (λ (i : ℕ). HasKey i v.own) p who))))
        (λ p. nv (inr (inl (subst (λ (i : ℕ). HasKey i v.own) p job)))))

    all_own : (k : ℕ) → OwnsTrack k (filed_on_all keys e v) → OwnsTrack k v
    all_own k (inl h) = inl (has-with keys k e v.own h)
    all_own k (inr m) = inr m

    all_keep : (k : ℕ) → HasTrack k (filed_on_all keys e v) → HasTrack k v
    all_keep k (inl h) = inl (has-with keys k e v.locked h)
    all_keep k (inr o) = inr (all_own k o)

    all_is : (log : List E) → IsViewOf keys log v → IsViewOf keys (log ++ e ∷ []) (filed_on_all keys e v)
    all_is log a = record {
      locked = with_is keys log e v.locked a.locked;
      own = with_is keys log e v.own a.own;
      unbegun = λ m k le. on-append keys k log (e ∷ []) ∙ (ap (λ (l : List E). l ++ on keys k (e ∷ [])) (a.unbegun m k le) ∙ on-before keys k e (is_off keys k e
          (λ p. a.unlike k (subst (λ (i : ℕ). HasKey i v.locked) p part) (inr (m, le)))
          (λ p. a.unlike k (subst (λ (i : ℕ). HasKey i v.locked) p also) (inr (m, le)))
          (λ p. let lt : k < v.next = a.fresh m k (subst (λ (i : ℕ). HasKey i v.own) p who) in absurd (omega arith))
          (λ p. let lt : k < v.next = a.fresh m k (subst (λ (i : ℕ). HasKey i v.own) p job) in absurd (omega arith))));
      fresh = λ m k h. a.fresh m k (has-with keys k e v.own h);
      unlike = λ k s o. a.unlike k (has-with keys k e v.locked s) (all_own k o);
      single = single-with keys e v.own a.single;
    }

    pub files_on_all : (log : List E) (views : List (BookView E)) (id : ℕ) → AreViewsOf keys log views → get_elem? views id ≡ some v → AreViewsOf keys (log ++ e ∷ []) (set views id (filed_on_all keys e v))
    files_on_all log views id h at = changes keys views id v (filed_on_all keys e v) log (log ++ e ∷ []) h at
        (λ u n x. others_stay keys log (e ∷ []) u (λ k o. all_miss k (n k o)) x) all_keep (all_is log)

  -- ---- a part's track is returned

  pub returns : (log : List E) (views : List (BookView E)) (id : ℕ) (v : BookView E) → AreViewsOf keys log views → get_elem? views id ≡ some v → AreViewsOf keys log (set views id (without_locked v) ++ locked_of v ∷ [])
  returns log views id v h at = splits keys views id v (without_locked v) (locked_of v) log h at keep (two log) (is log)
    where
      keep : (k : ℕ) → HasTrack k (without_locked v) ⊎ HasTrack k (locked_of v) → HasTrack k v
      keep k (inl (inl x)) = absurd x
      keep k (inl (inr o)) = inr o
      keep k (inr (inl x)) = inl x
      keep k (inr (inr o)) = absurd (not_own k o)

      two : (log : List E) → IsViewOf keys log v → (k : ℕ) → HasTrack k (without_locked v) → HasTrack k (locked_of v) → ⊥
      two log a k (inl x) y = x
      two log a k (inr o) (inl y) = a.unlike k y o
      two log a k (inr o) (inr y) = not_own k y

      is : (log : List E) → IsViewOf keys log v → IsViewOf keys log (without_locked v) × IsViewOf keys log (locked_of v)
      is log a = (
        record { locked = tt; own = a.own; unbegun = a.unbegun; fresh = a.fresh; unlike = λ k x o. x; single = a.single },
        record { locked = a.locked; own = tt; unbegun = λ m k le. absurd (cc m); fresh = λ m k x. absurd x; unlike = λ k x o. not_own k o; single = tt },
      )

  -- ---- a handle with no track

  pub sits : (log : List E) (views : List (BookView E)) (id : ℕ) (v : BookView E) → AreViewsOf keys log views → get_elem? views id ≡ some v → AreViewsOf keys log (set views id v ++ no_tracks ∷ [])
  sits log views id v h at = splits keys views id v v no_tracks log h at keep (λ a k x y. owns_nothing keys k y) (λ a. (a, nothing_is keys log))
    where
      keep : (k : ℕ) → HasTrack k v ⊎ HasTrack {E = E} k no_tracks → HasTrack k v
      keep k (inl x) = x
      keep k (inr y) = absurd (owns_nothing keys k y)

  -- ---- tracks begin

  module _ (v : BookView E) (may_begin : v.may_begin ≡ true) where
    next_own : (k : ℕ) → OwnsTrack k (with_next v) → OwnsTrack k v
    next_own k (inl h) = inl h
    next_own k (inr m) = inr (m.0, omega (arith, m.1))

    next_is : (log : List E) → IsViewOf keys log v → IsViewOf keys log (with_next v)
    next_is log a = record {
      locked = a.locked;
      own = a.own;
      unbegun = λ m k le. a.unbegun m k (omega (arith, le));
      fresh = λ m k h. omega (arith, a.fresh m k h);
      unlike = λ k s o. a.unlike k s (next_own k o);
      single = a.single;
    }

    -- an owner that begins the next track for another owner doesn't have that track.
    next_apart : (log : List E) → IsViewOf keys log v → (k : ℕ) → HasTrack k (with_next v) → v.next ≡ k → ⊥
    next_apart log a k (inl s) p = a.unlike k s (inr (may_begin, omega (arith, p)))
    next_apart log a k (inr (inl h)) p = let lt : k < v.next = a.fresh may_begin k h in absurd (omega (arith, p))
    next_apart log a k (inr (inr m)) p = let le = m.1 in absurd (omega (arith, p))

    unbegun_at : (log : List E) → IsViewOf keys log v → [] ≡ on keys v.next log
    unbegun_at log a = sym (a.unbegun may_begin v.next (omega arith))

    pub begins_part : (log : List E) (views : List (BookView E)) (id : ℕ) → AreViewsOf keys log views → get_elem? views id ≡ some v → AreViewsOf keys log (set views id (with_next v) ++ part_view v.next [] ∷ [])
    begins_part log views id h at = splits keys views id v (with_next v) (part_view v.next []) log h at keep (two log) (is log)
      where
        keep : (k : ℕ) → HasTrack k (with_next v) ⊎ HasTrack {E = E} k (part_view v.next []) → HasTrack k v
        keep k (inl (inl s)) = inl s
        keep k (inl (inr o)) = inr (next_own k o)
        keep k (inr (inl (inl p))) = inr (inr (may_begin, omega (arith, p)))
        keep k (inr (inl (inr x))) = absurd x
        keep k (inr (inr o)) = absurd (not_own k o)

        two : (log : List E) → IsViewOf keys log v → (k : ℕ) → HasTrack k (with_next v) → HasTrack {E = E} k (part_view v.next []) → ⊥
        two log a k l (inl (inl p)) = next_apart log a k l p
        two log a k l (inl (inr x)) = x
        two log a k l (inr o) = not_own k o

        is : (log : List E) → IsViewOf keys log v → IsViewOf keys log (with_next v) × IsViewOf keys log (part_view v.next [])
        is log a = (next_is log a, record { locked = (unbegun_at log a, tt); own = tt; unbegun = λ m k le. absurd (cc m); fresh = λ m k x. absurd x; unlike = λ k x o. not_own k o; single = tt })

    pub begins_tracks : (log : List E) (views : List (BookView E)) (id : ℕ) → AreViewsOf keys log views → get_elem? views id ≡ some v → AreViewsOf keys log (set views id (with_next v) ++ own_view v.next [] ∷ [])
    begins_tracks log views id h at = splits keys views id v (with_next v) (own_view v.next []) log h at keep (two log) (is log)
      where
        keep : (k : ℕ) → HasTrack k (with_next v) ⊎ HasTrack {E = E} k (own_view v.next []) → HasTrack k v
        keep k (inl (inl s)) = inl s
        keep k (inl (inr o)) = inr (next_own k o)
        keep k (inr (inl x)) = absurd x
        keep k (inr (inr (inl (inl p)))) = inr (inr (may_begin, omega (arith, p)))
        keep k (inr (inr (inl (inr x)))) = absurd x
        keep k (inr (inr (inr m))) = absurd (cc m.0)

        two : (log : List E) → IsViewOf keys log v → (k : ℕ) → HasTrack k (with_next v) → HasTrack {E = E} k (own_view v.next []) → ⊥
        two log a k l (inl x) = x
        two log a k l (inr (inl (inl p))) = next_apart log a k l p
        two log a k l (inr (inl (inr x))) = x
        two log a k l (inr (inr m)) = absurd (cc m.0)

        is : (log : List E) → IsViewOf keys log v → IsViewOf keys log (with_next v) × IsViewOf keys log (own_view v.next [])
        is log a = (next_is log a, record { locked = tt; own = (unbegun_at log a, tt); unbegun = λ m k le. absurd (cc m); fresh = λ m k x. absurd (cc m); unlike = λ k x o. x; single = (λ x. x, tt) })

    pub begins : (log : List E) (views : List (BookView E)) (id : ℕ) → AreViewsOf keys log views → get_elem? views id ≡ some v → AreViewsOf keys log (set views id (with_begun v))
    begins log views id h at = changes keys views id v (with_begun v) log log h at (λ u n x. x) keep (is log)
      where
        keep : (k : ℕ) → HasTrack k (with_begun v) → HasTrack k v
        keep k (inl s) = inl s
        keep k (inr (inl (inl p))) = inr (inr (may_begin, omega (arith, p)))
        keep k (inr (inl (inr x))) = inr (inl x)
        keep k (inr (inr m)) = inr (inr (m.0, omega (arith, m.1)))

        fresh : (log : List E) → IsViewOf keys log v → (k : ℕ) → HasKey k (with_begun v).own → k < v.next + 1
        fresh log a k (inl p) = omega (arith, p)
        fresh log a k (inr x) = omega (arith, a.fresh may_begin k x)

        unlike : (log : List E) → IsViewOf keys log v → (k : ℕ) → HasKey k v.locked → OwnsTrack k (with_begun v) → ⊥
        unlike log a k s (inl (inl p)) = a.unlike k s (inr (may_begin, omega (arith, p)))
        unlike log a k s (inl (inr x)) = a.unlike k s (inl x)
        unlike log a k s (inr m) = a.unlike k s (inr (m.0, omega (arith, m.1)))

        is : (log : List E) → IsViewOf keys log v → IsViewOf keys log (with_begun v)
        is log a = record {
          locked = a.locked;
          own = (unbegun_at log a, a.own);
          unbegun = λ m k le. a.unbegun m k (omega (arith, le));
          fresh = λ m k x. fresh log a k x;
          unlike = unlike log a;
          single = (λ x. let lt : v.next < v.next = a.fresh may_begin v.next x in absurd (omega arith), a.single);
        }

  -- ---- a track changes its owner

  has-head : (k : ℕ) (ts : List (Track E)) → HasKey k (first_track ts) → HasKey k ts
  has-head k [] x = x
  has-head k (t ∷ ts) (inl p) = inl p
  has-head k (t ∷ ts) (inr x) = absurd x

  has-rest : (k : ℕ) (ts : List (Track E)) → HasKey k (other_tracks ts) → HasKey k ts
  has-rest k [] x = x
  has-rest k (t ∷ ts) x = inr x

  head_or_rest : (k : ℕ) (ts : List (Track E)) → AreSingle ts → HasKey k (first_track ts) → HasKey k (other_tracks ts) → ⊥
  head_or_rest k [] s x y = x
  head_or_rest k (t ∷ ts) s (inl p) y = s.0 (subst (λ (i : ℕ). HasKey i ts) (sym p) y)
  head_or_rest k (t ∷ ts) s (inr x) y = x

  are-head : (log : List E) (ts : List (Track E)) → AreOn keys log ts → AreOn keys log (first_track ts)
  are-head log [] a = tt
  are-head log (t ∷ ts) a = (a.0, tt)

  are-rest : (log : List E) (ts : List (Track E)) → AreOn keys log ts → AreOn keys log (other_tracks ts)
  are-rest log [] a = tt
  are-rest log (t ∷ ts) a = a.1

  single-head : (ts : List (Track E)) → AreSingle (first_track ts)
  single-head [] = tt
  single-head (t ∷ ts) = (λ x. x, tt)

  single-rest : (ts : List (Track E)) → AreSingle ts → AreSingle (other_tracks ts)
  single-rest [] s = tt
  single-rest (t ∷ ts) s = s.1

  pub gives : (log : List E) (views : List (BookView E)) (id : ℕ) (v : BookView E) → AreViewsOf keys log views → get_elem? views id ≡ some v → AreViewsOf keys log (set views id (without_first v) ++ first_own v ∷ [])
  gives log views id v h at = splits keys views id v (without_first v) (first_own v) log h at keep (two log) (is log)
    where
      own : (k : ℕ) → OwnsTrack k (without_first v) → OwnsTrack k v
      own k (inl x) = inl (has-rest k v.own x)
      own k (inr m) = inr m

      keep : (k : ℕ) → HasTrack k (without_first v) ⊎ HasTrack k (first_own v) → HasTrack k v
      keep k (inl (inl s)) = inl s
      keep k (inl (inr o)) = inr (own k o)
      keep k (inr (inl x)) = absurd x
      keep k (inr (inr (inl x))) = inr (inl (has-head k v.own x))
      keep k (inr (inr (inr m))) = absurd (cc m.0)

      two : (log : List E) → IsViewOf keys log v → (k : ℕ) → HasTrack k (without_first v) → HasTrack k (first_own v) → ⊥
      two log a k l (inl x) = x
      two log a k (inl s) (inr (inl x)) = a.unlike k s (inl (has-head k v.own x))
      two log a k (inr (inl y)) (inr (inl x)) = head_or_rest k v.own a.single x y
      two log a k (inr (inr m)) (inr (inl x)) = let lt : k < v.next = a.fresh m.0 k (has-head k v.own x) in let le = m.1 in absurd (omega arith)
      two log a k l (inr (inr m)) = absurd (cc m.0)

      is : (log : List E) → IsViewOf keys log v → IsViewOf keys log (without_first v) × IsViewOf keys log (first_own v)
      is log a = (
        record { locked = a.locked; own = are-rest log v.own a.own; unbegun = a.unbegun; fresh = λ m k x. a.fresh m k (has-rest k v.own x); unlike = λ k s o. a.unlike k s (own k o); single = single-rest v.own a.single },
        record { locked = tt; own = are-head log v.own a.own; unbegun = λ m k le. absurd (cc m); fresh = λ m k x. absurd (cc m); unlike = λ k x o. x; single = single-head v.own },
      )

  module _ (v w : BookView E) (bare : w.locked ≡ []) (dull : w.may_begin ≡ false) where
    takes_keep : (k : ℕ) → HasTrack k (merged_with v w) → HasTrack k v ⊎ HasTrack k w
    takes_keep k (inl s) = inl (inl s)
    takes_keep k (inr (inl h)) = ⊎_elim (λ x. inr (inr (inl x))) (λ y. inl (inr (inl y))) (has-append k w.own v.own h)
    takes_keep k (inr (inr m)) = inl (inr (inr m))

    takes_mine : (log : List E) → IsViewOf keys log v → IsViewOf keys log w → ((k : ℕ) → HasTrack k v → HasTrack k w → ⊥) → IsViewOf keys log (merged_with v w)
    takes_mine log a b parted = record {
      locked = a.locked;
      own = are-append keys log w.own v.own b.own a.own;
      unbegun = a.unbegun;
      fresh = λ m k h. ⊎_elim
          (λ (x : HasKey k w.own). ⊎_elim (λ (lt : k < v.next). lt) (λ (le : v.next ≤ k). absurd (parted k (inr (inr (m, le))) (inr (inl x)))) (cases_lt k v.next))
          (λ (y : HasKey k v.own). a.fresh m k y)
          (has-append k w.own v.own h);
      unlike = unlike;
      single = single-append w.own v.own b.single a.single (λ k x y. parted k (inr (inl y)) (inr (inl x)));
    }
      where
        unlike : (k : ℕ) → HasKey k v.locked → OwnsTrack k (merged_with v w) → ⊥
        unlike k s (inl h) = ⊎_elim (λ (x : HasKey k w.own). parted k (inl s) (inr (inl x))) (λ (y : HasKey k v.own). a.unlike k s (inl y)) (has-append k w.own v.own h)
        unlike k s (inr m) = a.unlike k s (inr m)

    pub takes : (log : List E) (views : List (BookView E)) (id other : ℕ) → AreViewsOf keys log views → get_elem? views id ≡ some v → other ≢ id → get_elem? (set views id (merged_with v w)) other ≡ some w
        → AreViewsOf keys log (set (set views id (merged_with v w)) other no_tracks)
    takes log views id other h at apart there = joins keys views id other v w (merged_with v w) log log h at apart there (λ u n x. x) takes_keep (takes_mine log)

  module _ (v w : BookView E) (bare : w.own ≡ []) (dull : w.may_begin ≡ false) (single : AreSingle w.locked) where
    closes_keep : (k : ℕ) → HasTrack k (with_part v w) → HasTrack k v ⊎ HasTrack k w
    closes_keep k (inl s) = inl (inl s)
    closes_keep k (inr (inl h)) = ⊎_elim (λ x. inr (inl x)) (λ y. inl (inr (inl y))) (has-append k w.locked v.own h)
    closes_keep k (inr (inr m)) = inl (inr (inr m))

    closes_mine : (log : List E) → IsViewOf keys log v → IsViewOf keys log w → ((k : ℕ) → HasTrack k v → HasTrack k w → ⊥) → IsViewOf keys log (with_part v w)
    closes_mine log a b parted = record {
      locked = a.locked;
      own = are-append keys log w.locked v.own b.locked a.own;
      unbegun = a.unbegun;
      fresh = λ m k h. ⊎_elim
          (λ (x : HasKey k w.locked). ⊎_elim (λ (lt : k < v.next). lt) (λ (le : v.next ≤ k). absurd (parted k (inr (inr (m, le))) (inl x))) (cases_lt k v.next))
          (λ (y : HasKey k v.own). a.fresh m k y)
          (has-append k w.locked v.own h);
      unlike = unlike;
      single = single-append w.locked v.own single a.single (λ k x y. parted k (inr (inl y)) (inl x));
    }
      where
        unlike : (k : ℕ) → HasKey k v.locked → OwnsTrack k (with_part v w) → ⊥
        unlike k s (inl h) = ⊎_elim (λ (x : HasKey k w.locked). parted k (inl s) (inl x)) (λ (y : HasKey k v.own). a.unlike k s (inl y)) (has-append k w.locked v.own h)
        unlike k s (inr m) = a.unlike k s (inr m)

    pub closes : (log : List E) (views : List (BookView E)) (id other : ℕ) → AreViewsOf keys log views → get_elem? views id ≡ some v → other ≢ id → get_elem? (set views id (with_part v w)) other ≡ some w
        → AreViewsOf keys log (set (set views id (with_part v w)) other no_tracks)
    closes log views id other h at apart there = joins keys views id other v w (with_part v w) log log h at apart there (λ u n x. x) closes_keep (closes_mine log)

  -- ---- the first of the parts' tracks is returned

  module _ (v : BookView E) (single : AreSingle v.locked) where
    pub returns_first : (log : List E) (views : List (BookView E)) (id : ℕ) → AreViewsOf keys log views → get_elem? views id ≡ some v → AreViewsOf keys log (set views id (without_first_locked v) ++ first_locked v ∷ [])
    returns_first log views id h at = splits keys views id v (without_first_locked v) (first_locked v) log h at keep (two log) (is log)
      where
        keep : (k : ℕ) → HasTrack k (without_first_locked v) ⊎ HasTrack k (first_locked v) → HasTrack k v
        keep k (inl (inl s)) = inl (has-rest k v.locked s)
        keep k (inl (inr o)) = inr o
        keep k (inr (inl s)) = inl (has-head k v.locked s)
        keep k (inr (inr o)) = absurd (not_own k o)

        two : (log : List E) → IsViewOf keys log v → (k : ℕ) → HasTrack k (without_first_locked v) → HasTrack k (first_locked v) → ⊥
        two log a k (inl y) (inl x) = head_or_rest k v.locked single x y
        two log a k (inr o) (inl x) = a.unlike k (has-head k v.locked x) o
        two log a k l (inr o) = not_own k o

        is : (log : List E) → IsViewOf keys log v → IsViewOf keys log (without_first_locked v) × IsViewOf keys log (first_locked v)
        is log a = (
          record { locked = are-rest log v.locked a.locked; own = a.own; unbegun = a.unbegun; fresh = a.fresh; unlike = λ k s o. a.unlike k (has-rest k v.locked s) o; single = a.single },
          record { locked = are-head log v.locked a.locked; own = tt; unbegun = λ m k le. absurd (cc m); fresh = λ m k x. absurd x; unlike = λ k x o. not_own k o; single = tt },
        )

  -- ---- an entry of no locked part is filed

  module _ (e : E) (v : BookView E) (part : (keys e).part ≡ (keys e).who) (also : (keys e).also ≡ (keys e).who) (who : HasKey (keys e).who v.own) (job : HasKey (keys e).job v.own) where
    off_others : (k : ℕ) → (OwnsTrack k v → ⊥) → is_on keys k e ≡ false
    off_others k nv = is_off keys k e
        (λ p. nv (inl (subst (λ (i : ℕ). HasKey i v.own) (sym part ∙ p) who)))
        (λ p. nv (inl (subst (λ (i : ℕ). HasKey i v.own) (sym also ∙ p) who)))
        (λ p. nv (inl (subst (λ (i : ℕ). HasKey i v.own) p who)))
        (λ p. nv (inl (subst (λ (i : ℕ). HasKey i v.own) p job)))

    alone_keep : (k : ℕ) → HasTrack k (with_filed keys e v) → HasTrack k v
    alone_keep k (inl h) = inl h
    alone_keep k (inr (inl h)) = inr (inl (has-with keys k e v.own h))
    alone_keep k (inr (inr m)) = inr (inr m)

    alone_is : (log : List E) → IsViewOf keys log v → IsViewOf keys (log ++ e ∷ []) (with_filed keys e v)
    alone_is log a = record {
      locked = stays keys log (e ∷ []) v.locked (λ k h. on-before keys k e (off_others k (a.unlike k h))) a.locked;
      own = with_is keys log e v.own a.own;
      unbegun = λ m k le. on-append keys k log (e ∷ []) ∙ (ap (λ (l : List E). l ++ on keys k (e ∷ [])) (a.unbegun m k le) ∙ on-before keys k e (is_off keys k e
          (λ p. let lt : k < v.next = a.fresh m k (subst (λ (i : ℕ). HasKey i v.own) (sym part ∙ p) who) in absurd (omega arith))
          (λ p. let lt : k < v.next = a.fresh m k (subst (λ (i : ℕ). HasKey i v.own) (sym also ∙ p) who) in absurd (omega arith))
          (λ p. let lt : k < v.next = a.fresh m k (subst (λ (i : ℕ). HasKey i v.own) p who) in absurd (omega arith))
          (λ p. let lt : k < v.next = a.fresh m k (subst (λ (i : ℕ). HasKey i v.own) p job) in absurd (omega arith))));
      fresh = λ m k h. a.fresh m k (has-with keys k e v.own h);
      unlike = λ k s o. a.unlike k s (own_then k o);
      single = single-with keys e v.own a.single;
    }
      where
        own_then : (k : ℕ) → OwnsTrack k (with_filed keys e v) → OwnsTrack k v
        own_then k (inl h) = inl (has-with keys k e v.own h)
        own_then k (inr m) = inr m

    pub files_alone : (log : List E) (views : List (BookView E)) (id : ℕ) → AreViewsOf keys log views → get_elem? views id ≡ some v → AreViewsOf keys (log ++ e ∷ []) (set views id (with_filed keys e v))
    files_alone log views id h at = changes keys views id v (with_filed keys e v) log (log ++ e ∷ []) h at
        (λ u n x. others_stay keys log (e ∷ []) u (λ k o. on-before keys k e (off_others k (λ w. n k o (inr w)))) x) alone_keep (alone_is log)

  -- ---- a read

  pub looks : (log : List E) (views : List (BookView E)) (id : ℕ) (v : BookView E) → AreViewsOf keys log views → get_elem? views id ≡ some v → AreViewsOf keys log (set views id v)
  looks log views id v h at = subst (λ (us : List (BookView E)). AreViewsOf keys log us) (sym (set_again views id v at)) h
