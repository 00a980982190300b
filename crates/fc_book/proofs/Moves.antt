-- Each step keeps the rule of the book.
use Rattle.std.proofs.Common.{◌≡◌, ◌≢◌, ◌⊎◌, ℕ, zero, suc, ◌<◌, List, [], ◌∷◌, ◌++◌, length, set, refl, sym, ap, ◌∙◌, subst, ⊎_elim, inl, inr, arith}
use Rattle.std.proofs.lemmas.List.{length-set}
use mathlib.Core.Option.{some, some-ne-none, some-injective}
use lib.ListN.{get_elem?}
use Rattle.atomic_table.proofs.Lists.{at_set}
use Rattle.fc_book.specs.declared.view.BookView.{BookView}
use Rattle.fc_book.specs.Tracks.{EntryKeys, on, HasTrack, IsViewOf, AreViewsOf, no_tracks}
use Rattle.fc_book.proofs.Keys.{on-append, stays}

module _ {E : Type 0} (keys : E → EntryKeys) where
  pub nothing_is : (log : List E) → IsViewOf keys log no_tracks
  nothing_is log = record {
    locked = tt;
    own = tt;
    unbegun = λ m k le. absurd (cc m);
    fresh = λ m k h. absurd h;
    unlike = λ k h o. h;
    single = tt;
  }

  pub owns_nothing : (k : ℕ) → HasTrack {E = E} k no_tracks → ⊥
  owns_nothing k (inl h) = h
  owns_nothing k (inr (inl h)) = h
  owns_nothing k (inr (inr m)) = absurd (cc m.0)

  -- further entries that are on none of a view's tracks leave the view one of the history.
  pub others_stay : (log more : List E) (v : BookView E) → ((k : ℕ) → HasTrack k v → on keys k more ≡ []) → IsViewOf keys log v → IsViewOf keys (log ++ more) v
  others_stay log more v none is = record {
    locked = stays keys log more v.locked (λ k h. none k (inl h)) is.locked;
    own = stays keys log more v.own (λ k h. none k (inr (inl h))) is.own;
    unbegun = λ m k le. on-append keys k log more ∙ (ap (λ (l : List E). l ++ on keys k more) (is.unbegun m k le) ∙ none k (inr (inr (m, le))));
    fresh = is.fresh;
    unlike = is.unlike;
    single = is.single;
  }

  -- one view changes into another that owns no more, and another view is removed. The first view
  -- may take over the tracks of the removed one.
  module _ (views : List (BookView E)) (id other : ℕ) (v w both : BookView E) (log after : List E) (h : AreViewsOf keys log views) (at : get_elem? views id ≡ some v) (apart : other ≢ id) (there : get_elem? (set views id both) other ≡ some w)
      (stay : (u : BookView E) → ((k : ℕ) → HasTrack k u → (HasTrack k v → ⊥) × (HasTrack k w → ⊥)) → IsViewOf keys log u → IsViewOf keys after u) (keep : (k : ℕ) → HasTrack k both → HasTrack k v ⊎ HasTrack k w)
      (mine : IsViewOf keys log v → IsViewOf keys log w → ((k : ℕ) → HasTrack k v → HasTrack k w → ⊥) → IsViewOf keys after both) where
    there' : get_elem? views other ≡ some w
    there' = ⊎_elim (λ (x : (other ≡ id) × (both ≡ w)). absurd (apart x.0)) (λ (x : (other ≢ id) × (get_elem? views other ≡ some w)). x.1) (at_set views id other both w there)

    parted : (k : ℕ) → HasTrack k v → HasTrack k w → ⊥
    parted k a b = apart (sym (h.apart id other v w k at there' a b))

    -- the view that is at a place after the step.
    abbrev Place : ℕ → BookView E → Type 0
    Place j u = ((j ≡ other) × (no_tracks ≡ u)) ⊎ (((j ≡ id) × (both ≡ u)) ⊎ ((j ≢ other) × ((j ≢ id) × (get_elem? views j ≡ some u))))

    place : (j : ℕ) (u : BookView E) → get_elem? (set (set views id both) other no_tracks) j ≡ some u → Place j u
    place j u e = ⊎_elim
        (λ (x : (j ≡ other) × (no_tracks ≡ u)). inl x)
        (λ (x : (j ≢ other) × (get_elem? (set views id both) j ≡ some u)). inr (⊎_elim
        (λ (y : (j ≡ id) × (both ≡ u)). inl y)
        (λ (y : (j ≢ id) × (get_elem? views j ≡ some u)). inr (x.0, (y.0, y.1)))
        (at_set views id j both u x.1)))
        (at_set (set views id both) other j no_tracks u e)

    each : (j : ℕ) (u : BookView E) → Place j u → IsViewOf keys after u
    each j u (inl x) = subst (λ (u : BookView E). IsViewOf keys after u) x.1 (nothing_is after)
    each j u (inr (inl y)) = subst (λ (u : BookView E). IsViewOf keys after u) y.1 (mine (h.each id v at) (h.each other w there') parted)
    each j u (inr (inr z)) = stay u
        (λ k o. ((λ a. z.1.0 (h.apart j id u v k z.1.1 at o a)), (λ b. z.0 (h.apart j other u w k z.1.1 there' o b))))
        (h.each j u z.1.1)

    -- the view at a place owns a track after the step.
    abbrev Has : ℕ → ℕ → Type 0
    Has j k = ((j ≡ id) × (HasTrack k v ⊎ HasTrack k w)) ⊎ ((j ≢ other) × ((j ≢ id) × ((u : BookView E) × ((get_elem? views j ≡ some u) × HasTrack k u))))

    has : (j : ℕ) (u : BookView E) (k : ℕ) → Place j u → HasTrack k u → Has j k
    has j u k (inl x) o = absurd (owns_nothing k (subst (λ (u : BookView E). HasTrack k u) (sym x.1) o))
    has j u k (inr (inl y)) o = inl (y.0, keep k (subst (λ (u : BookView E). HasTrack k u) (sym y.1) o))
    has j u k (inr (inr z)) o = inr (z.0, (z.1.0, (u, (z.1.1, o))))

    not_both : (j k : ℕ) → (j ≢ other) × ((j ≢ id) × ((u : BookView E) × ((get_elem? views j ≡ some u) × HasTrack k u))) → HasTrack k v ⊎ HasTrack k w → ⊥
    not_both j k z (inl a) = z.1.0 (h.apart j id z.1.1.0 v k z.1.1.1.0 at z.1.1.1.1 a)
    not_both j k z (inr b) = z.0 (h.apart j other z.1.1.0 w k z.1.1.1.0 there' z.1.1.1.1 b)

    alone : (i j k : ℕ) → Has i k → Has j k → i ≡ j
    alone i j k (inl x) (inl y) = x.0 ∙ sym y.0
    alone i j k (inl x) (inr y) = absurd (not_both j k y x.1)
    alone i j k (inr x) (inl y) = absurd (not_both i k x y.1)
    alone i j k (inr x) (inr y) = h.apart i j x.1.1.0 y.1.1.0 k x.1.1.1.0 y.1.1.1.0 x.1.1.1.1 y.1.1.1.1

    pub joins : AreViewsOf keys after (set (set views id both) other no_tracks)
    joins = record {
      each = λ j u e. each j u (place j u e);
      apart = λ i j u x k eu ex ou ox. alone i j k (has i u k (place i u eu) ou) (has j x k (place j x ex) ox);
    }

  -- an element of a list with one more is one of the list, or the additional one.
  at_snoc : (l : List (BookView E)) (a b : BookView E) (j : ℕ) → get_elem? (l ++ a ∷ []) j ≡ some b → ((j < length l) × (get_elem? l j ≡ some b)) ⊎ ((j ≡ length l) × (a ≡ b))
  at_snoc [] a b zero e = inr (refl, some-injective a b e)
  at_snoc [] a b (suc j) e = absurd (some-ne-none b (sym e))
  at_snoc (x ∷ xs) a b zero e = inl (omega arith, e)
  at_snoc (x ∷ xs) a b (suc j) e = ⊎_elim (λ y. inl (omega (arith, y.0), y.1)) (λ y. inr (ap suc y.0, y.1)) (at_snoc xs a b j e)

  module _ (views : List (BookView E)) (id : ℕ) (v left right : BookView E) (log : List E) (h : AreViewsOf keys log views) (at : get_elem? views id ≡ some v)
      (keep : (k : ℕ) → HasTrack k left ⊎ HasTrack k right → HasTrack k v) (two : IsViewOf keys log v → (k : ℕ) → HasTrack k left → HasTrack k right → ⊥)
      (is : IsViewOf keys log v → IsViewOf keys log left × IsViewOf keys log right) where
    abbrev Cut : ℕ → BookView E → Type 0
    Cut j u = ((j ≡ length views) × (right ≡ u)) ⊎ (((j < length views) × ((j ≡ id) × (left ≡ u))) ⊎ ((j < length views) × ((j ≢ id) × (get_elem? views j ≡ some u))))

    cut : (j : ℕ) (u : BookView E) → get_elem? (set views id left ++ right ∷ []) j ≡ some u → Cut j u
    cut j u e =
        let n : length (set views id left) ≡ length views = length-set views id left in
        ⊎_elim
        (λ (x : (j < length (set views id left)) × (get_elem? (set views id left) j ≡ some u)). let lt : j < length views = omega (arith, n, x.0) in inr (⊎_elim
        (λ (y : (j ≡ id) × (left ≡ u)). inl (lt, y))
        (λ (y : (j ≢ id) × (get_elem? views j ≡ some u)). inr (lt, y))
        (at_set views id j left u x.1)))
        (λ (x : (j ≡ length (set views id left)) × (right ≡ u)). inl (x.0 ∙ n, x.1))
        (at_snoc (set views id left) right u j e)

    each_cut : (j : ℕ) (u : BookView E) → Cut j u → IsViewOf keys log u
    each_cut j u (inl x) = subst (λ (u : BookView E). IsViewOf keys log u) x.1 (is (h.each id v at)).1
    each_cut j u (inr (inl y)) = subst (λ (u : BookView E). IsViewOf keys log u) y.1.1 (is (h.each id v at)).0
    each_cut j u (inr (inr z)) = h.each j u z.1.1

    -- if a place has a track after the split, some place had the track before the split.
    was : (j : ℕ) (u : BookView E) (k : ℕ) → Cut j u → HasTrack k u → (i : ℕ) × ((x : BookView E) × ((get_elem? views i ≡ some x) × HasTrack k x))
    was j u k (inl x) o = (id, (v, (at, keep k (inr (subst (λ (u : BookView E). HasTrack k u) (sym x.1) o)))))
    was j u k (inr (inl y)) o = (id, (v, (at, keep k (inl (subst (λ (u : BookView E). HasTrack k u) (sym y.1.1) o)))))
    was j u k (inr (inr z)) o = (j, (u, (z.1.1, o)))

    one : (i j : ℕ) (u x : BookView E) (k : ℕ) → Cut i u → Cut j x → HasTrack k u → HasTrack k x → i ≡ j
    one i j u x k (inl a) (inl b) ou ox = a.0 ∙ sym b.0
    one i j u x k (inl a) (inr (inl b)) ou ox = absurd (two (h.each id v at) k (subst (λ (u : BookView E). HasTrack k u) (sym b.1.1) ox) (subst (λ (u : BookView E). HasTrack k u) (sym a.1) ou))
    one i j u x k (inl a) (inr (inr b)) ou ox = absurd (b.1.0 (sym (h.apart id j v x k at b.1.1 (keep k (inr (subst (λ (u : BookView E). HasTrack k u) (sym a.1) ou))) ox)))
    one i j u x k (inr (inl a)) (inl b) ou ox = absurd (two (h.each id v at) k (subst (λ (u : BookView E). HasTrack k u) (sym a.1.1) ou) (subst (λ (u : BookView E). HasTrack k u) (sym b.1) ox))
    one i j u x k (inr (inl a)) (inr (inl b)) ou ox = a.1.0 ∙ sym b.1.0
    one i j u x k (inr (inl a)) (inr (inr b)) ou ox = absurd (b.1.0 (sym (h.apart id j v x k at b.1.1 (keep k (inl (subst (λ (u : BookView E). HasTrack k u) (sym a.1.1) ou))) ox)))
    one i j u x k (inr (inr a)) (inl b) ou ox = absurd (a.1.0 (h.apart i id u v k a.1.1 at ou (keep k (inr (subst (λ (u : BookView E). HasTrack k u) (sym b.1) ox)))))
    one i j u x k (inr (inr a)) (inr (inl b)) ou ox = absurd (a.1.0 (h.apart i id u v k a.1.1 at ou (keep k (inl (subst (λ (u : BookView E). HasTrack k u) (sym b.1.1) ox)))))
    one i j u x k (inr (inr a)) (inr (inr b)) ou ox = h.apart i j u x k a.1.1 b.1.1 ou ox

    pub splits : AreViewsOf keys log (set views id left ++ right ∷ [])
    splits = record {
      each = λ j u e. each_cut j u (cut j u e);
      apart = λ i j u x k eu ex ou ox. one i j u x k (cut i u eu) (cut j x ex) ou ox;
    }

  -- one view changes into another that owns no more.
  module _ (views : List (BookView E)) (id : ℕ) (v w : BookView E) (log after : List E) (h : AreViewsOf keys log views) (at : get_elem? views id ≡ some v)
      (stay : (u : BookView E) → ((k : ℕ) → HasTrack k u → HasTrack k v → ⊥) → IsViewOf keys log u → IsViewOf keys after u) (keep : (k : ℕ) → HasTrack k w → HasTrack k v)
      (is : IsViewOf keys log v → IsViewOf keys after w) where
    each_new : (j : ℕ) (u : BookView E) → ((j ≡ id) × (w ≡ u)) ⊎ ((j ≢ id) × (get_elem? views j ≡ some u)) → IsViewOf keys after u
    each_new j u (inl x) = subst (λ (u : BookView E). IsViewOf keys after u) x.1 (is (h.each id v at))
    each_new j u (inr y) = stay u (λ k o a. y.0 (h.apart j id u v k y.1 at o a)) (h.each j u y.1)

    old : (j : ℕ) (u : BookView E) (k : ℕ) → ((j ≡ id) × (w ≡ u)) ⊎ ((j ≢ id) × (get_elem? views j ≡ some u)) → HasTrack k u → (x : BookView E) × ((get_elem? views j ≡ some x) × HasTrack k x)
    old j u k (inl x) o = (v, (subst (λ (i : ℕ). get_elem? views i ≡ some v) (sym x.0) at, keep k (subst (λ (u : BookView E). HasTrack k u) (sym x.1) o)))
    old j u k (inr y) o = (u, (y.1, o))

    pub changes : AreViewsOf keys after (set views id w)
    changes = record {
      each = λ j u e. each_new j u (at_set views id j w u e);
      apart = λ i j u x k eu ex ou ox.
          let a = old i u k (at_set views id i w u eu) ou in
          let b = old j x k (at_set views id j w x ex) ox in
          h.apart i j a.0 b.0 k a.1.0 b.1.0 a.1.1 b.1.1;
    }
