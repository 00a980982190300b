-- Each move keeps the rule of the channel.
use Rattle.std.proofs.Common.{◌≡◌, ◌≢◌, ◌⊎◌, ℕ, zero, suc, ◌+◌, ◌<◌, ◌≤◌, true, false, true≢false, cond, ◌==◌, List, [], ◌∷◌, ◌++◌, length, set, drop, Some, refl, sym, ap, ◌∙◌, subst, ⊎_elim, inl, inr, length-append, arith}
use Rattle.std.specs.Prelude.{slice_get, nat_lt}
use Rattle.std.proofs.lemmas.Bool.Decides.{nat_tests}
use mathlib.Core.Option.{some, some-ne-none, some-injective}
use lib.ListN.{get_elem?}
use Rattle.crossbeam_channel.specs.Fifo.{Pushes, Pops, Forks}
use Rattle.atomic_table.proofs.Lists.{at_set, at_snoc, set_again}
use Rattle.fc_jobs.specs.declared.protocol.Hand.{Hand}
use Rattle.fc_jobs.specs.declared.protocol.Numbered.{Numbered}
use Rattle.fc_jobs.specs.Once.{sends_view, gets_view, times, in_all, StandsIn, AllStandIn, Once}

off : false ≡ true → ⊥
off e = true≢false (sym e)

not_below : (n m : ℕ) → m ≡ cond (nat_lt n n) 1 0 → m ≡ 0
not_below n m e = grind (arith, nat_tests)

one_more : (x n : ℕ) → cond (nat_lt x n) 1 0 + cond (n == x) 1 0 ≡ cond (nat_lt x (suc n)) 1 0
one_more x n = grind (arith, nat_tests)

module _ {M : Type 0} where
  get_front : (xs ys : List (Numbered M)) (k : ℕ) (i : Numbered M) → slice_get xs k ≡ Some i → slice_get (xs ++ ys) k ≡ Some i
  get_front [] ys k i e = absurd (cc)
  get_front (x ∷ xs) ys zero i e = e
  get_front (x ∷ xs) ys (suc k) i e = get_front xs ys k i e

  -- an item of a list with one more item is one of the list, or the additional item.
  get_snoc : (xs : List (Numbered M)) (y : Numbered M) (k : ℕ) (i : Numbered M) → slice_get (xs ++ y ∷ []) k ≡ Some i → (slice_get xs k ≡ Some i) ⊎ ((k ≡ length xs) × (y ≡ i))
  get_snoc [] y zero i e = inr (refl, cc)
  get_snoc [] y (suc k) i e = absurd (cc)
  get_snoc (x ∷ xs) y zero i e = inl e
  get_snoc (x ∷ xs) y (suc k) i e = ⊎_elim (λ t. inl t) (λ (t : (k ≡ length xs) × (y ≡ i)). inr (ap suc t.0, t.1)) (get_snoc xs y k i e)

  -- the first item of a list without its first n items is the item at position n.
  get_drop : (xs : List (Numbered M)) (n : ℕ) (y : Numbered M) (ys : List (Numbered M)) → y ∷ ys ≡ drop n xs → (slice_get xs n ≡ Some y) × (ys ≡ drop (suc n) xs) × (n < length xs)
  get_drop [] zero y ys e = absurd (cc)
  get_drop [] (suc n) y ys e = absurd (cc)
  get_drop (x ∷ xs) zero y ys e = (cc, cc, omega arith)
  get_drop (x ∷ xs) (suc n) y ys e = let h = get_drop xs n y ys e in (h.0, h.1, omega arith)

  drop_snoc : (xs : List (Numbered M)) (n : ℕ) (y : Numbered M) → n ≤ length xs → drop n (xs ++ y ∷ []) ≡ drop n xs ++ y ∷ []
  drop_snoc xs zero y le = refl
  drop_snoc [] (suc n) y le = absurd (omega arith)
  drop_snoc (x ∷ xs) (suc n) y le = drop_snoc xs n y (omega arith)

  all_front : (log : List (Numbered M)) (y : Numbered M) (is : List (Numbered M)) → AllStandIn log is → AllStandIn (log ++ y ∷ []) is
  all_front log y [] h = tt
  all_front log y (i ∷ is) h = (get_front log (y ∷ []) i.number i h.0, all_front log y is h.1)

  all_snoc : (log is : List (Numbered M)) (y : Numbered M) → AllStandIn log is → StandsIn log y → AllStandIn log (is ++ y ∷ [])
  all_snoc log [] y h e = (e, tt)
  all_snoc log (i ∷ is) y h e = (h.0, all_snoc log is y h.1 e)

  times_snoc : (x : ℕ) (is : List (Numbered M)) (y : Numbered M) → times x (is ++ y ∷ []) ≡ times x is + cond (y.number == x) 1 0
  times_snoc x [] y = omega arith
  times_snoc x (i ∷ is) y = let h = times_snoc x is y in omega arith

  in_all_set : (x m : ℕ) (views : List (Hand M)) (by : ℕ) (v w : Hand M) → get_elem? views by ≡ some v → times x w.got ≡ times x v.got + m → in_all x (set views by w) ≡ in_all x views + m
  in_all_set x m [] by v w at e = absurd (some-ne-none v (sym at))
  in_all_set x m (u ∷ us) zero v w at e = let same : times x u.got ≡ times x v.got = ap (λ (y : Hand M). times x y.got) (some-injective u v at) in omega arith
  in_all_set x m (u ∷ us) (suc by) v w at e = let rest = in_all_set x m us by v w at e in omega arith

  in_all_snoc : (x : ℕ) (views : List (Hand M)) (w : Hand M) → w.got ≡ [] → in_all x (views ++ w ∷ []) ≡ in_all x views
  in_all_snoc x [] w e = let h : times x w.got ≡ 0 = ap (times x) e in omega arith
  in_all_snoc x (u ∷ us) w e = let rest = in_all_snoc x us w e in omega arith

  -- if no list of received jobs has a number, the list of one worker doesn't have it.
  not_yet : (x : ℕ) (views : List (Hand M)) (by : ℕ) (v : Hand M) → get_elem? views by ≡ some v → in_all x views ≡ 0 → times x v.got ≡ 0
  not_yet x [] by v at e = absurd (some-ne-none v (sym at))
  not_yet x (u ∷ us) zero v at e = let same : times x u.got ≡ times x v.got = ap (λ (y : Hand M). times x y.got) (some-injective u v at) in omega arith
  not_yet x (u ∷ us) (suc by) v at e = not_yet x us by v at (omega arith)

  abbrev Each : (ℕ → Hand M → Type 0) → List (Hand M) → Type 0
  Each F views = (by : ℕ) (v : Hand M) → get_elem? views by ≡ some v → F by v

  each_set : (F : ℕ → Hand M → Type 0) (views : List (Hand M)) (by : ℕ) (w : Hand M) → F by w → ((j : ℕ) (u : Hand M) → j ≢ by → get_elem? views j ≡ some u → F j u) → Each F (set views by w)
  each_set F views by w mine others j u e = ⊎_elim (λ (x : (j ≡ by) × (w ≡ u)). subst (λ (y : ℕ × (Hand M)). F y.0 y.1) (λ i. (sym x.0 i, x.1 i)) mine)
      (λ (x : (j ≢ by) × (get_elem? views j ≡ some u)). others j u x.0 x.1) (at_set views by j w u e)

  each_one : (F : ℕ → Hand M → Type 0) (w : Hand M) → F 0 w → Each F (w ∷ [])
  each_one F w h zero v e = subst (F 0) (some-injective _ _ e) h
  each_one F w h (suc by) v e = absurd (some-ne-none v (sym e))

  pub begins : Once {M = M} [] (sends_view [] ∷ [])
  begins = record {
    log = [];
    taken = 0;
    numbered = λ k i e. absurd (cc);
    rest = refl;
    within = omega arith;
    sent = each_one (λ by v. v.sends ≡ true → (by ≡ 0) × (v.sent ≡ [])) (sends_view []) (λ _. (refl, refl));
    got = each_one (λ by v. AllStandIn [] v.got) (sends_view []) tt;
    once = λ x. grind (arith, nat_tests);
  }

  pub puts : (n by : ℕ) (v : Hand M) (x : Numbered M) → v ≡ sends_view v.sent → x.number ≡ length v.sent → Pushes Once n by v x (λ w. w ≡ sends_view (v.sent ++ x ∷ []))
  puts n by v x role number items views room h at =
      let w : Hand M = sends_view (v.sent ++ x ∷ []) in
      let log : List (Numbered M) = h.log in
      let mine = h.sent by v at (ap (λ (u : Hand M). u.sends) role) in
      let none : v.got ≡ [] = ap (λ (u : Hand M). u.got) role in (
        w,
        record {
          log = log ++ x ∷ [];
          taken = h.taken;
          numbered = λ k i e. ⊎_elim (λ t. h.numbered k i t) (λ (t : (k ≡ length log) × (x ≡ i)). ap (λ (y : Numbered M). y.number) (sym t.1) ∙ (number ∙ (ap (λ (l : List (Numbered M)). length l) mine.1 ∙ sym t.0))) (get_snoc log x k i e);
          rest = ap (λ (l : List (Numbered M)). l ++ x ∷ []) h.rest ∙ sym (drop_snoc log h.taken x h.within);
          within = let a = h.within in let b = length-append log (x ∷ []) in omega arith;
          sent = each_set (λ j u. u.sends ≡ true → (j ≡ 0) × (u.sent ≡ log ++ x ∷ [])) views by w (λ _. (mine.0, ap (λ (l : List (Numbered M)). l ++ x ∷ []) mine.1)) (λ j u apart e s. absurd (apart ((h.sent j u e s).0 ∙ sym mine.0)));
          got = each_set (λ j u. AllStandIn (log ++ x ∷ []) u.got) views by w tt (λ j u _ e. all_front log x u.got (h.got j u e));
          once = λ y. let a = in_all_set y 0 views by v w at (let e : times y v.got ≡ 0 = ap (times y) none in omega arith) in let b = h.once y in omega arith;
        },
        refl,
      )

  pub takes : (by : ℕ) (v : Hand M) → v ≡ gets_view v.got → Pops Once by v (λ x w. (w ≡ gets_view (v.got ++ x ∷ [])) × (times x.number v.got ≡ 0))
  takes by v role x items views h at =
      let w : Hand M = gets_view (v.got ++ x ∷ []) in
      let log : List (Numbered M) = h.log in
      let next = get_drop log h.taken x items h.rest in
      let is : x.number ≡ h.taken = h.numbered h.taken x next.0 in (
        w,
        record {
          log = log;
          taken = suc h.taken;
          numbered = h.numbered;
          rest = next.1;
          within = let a = next.2 in omega arith;
          sent = each_set (λ j u. u.sends ≡ true → (j ≡ 0) × (u.sent ≡ log)) views by w (λ s. absurd (off s)) (λ j u _ e s. h.sent j u e s);
          got = each_set (λ j u. AllStandIn log u.got) views by w (all_snoc log v.got x (h.got by v at) (ap (slice_get log) is ∙ next.0)) (λ j u _ e. h.got j u e);
          once = λ y. in_all_set y (cond (x.number == y) 1 0) views by v w at (times_snoc y v.got x) ∙ (ap (λ (k : ℕ). in_all y views + cond (k == y) 1 0) is ∙ (ap (λ (k : ℕ). k + cond (h.taken == y) 1 0) (h.once y) ∙ one_more y h.taken));
        },
        (refl, ap (λ (k : ℕ). times k v.got) is ∙ not_yet h.taken views by v at (not_below h.taken _ (h.once h.taken))),
      )

  pub hires : (by : ℕ) (v : Hand M) → Forks Once by v v (gets_view [])
  hires by v items views h at = subst (λ (vs : List (Hand M)). Once items (vs ++ gets_view [] ∷ [])) (sym (set_again views by v at)) record {
    log = h.log;
    taken = h.taken;
    numbered = h.numbered;
    rest = h.rest;
    within = h.within;
    sent = λ j u e. ⊎_elim (λ was. h.sent j u was) (λ (is : gets_view [] ≡ u). λ s. absurd (off (ap (λ (y : Hand M). y.sends) is ∙ s))) (at_snoc views (gets_view []) u j e);
    got = λ j u e. ⊎_elim (λ was. h.got j u was) (λ (is : gets_view [] ≡ u). subst (λ (y : Hand M). AllStandIn h.log y.got) is tt) (at_snoc views (gets_view []) u j e);
    once = λ y. in_all_snoc y views (gets_view []) refl ∙ h.once y;
  }
