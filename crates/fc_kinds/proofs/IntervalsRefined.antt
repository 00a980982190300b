-- Refinement: numbers for which the relation holds stay in the intervals, and wider intervals are
-- refined to wider ones.
use Rattle.std.proofs.Common.{◌≡◌, ℕ, ◌≤◌, ◌==◌, not, Bool, true, false, nat_lt, nat_le, Option, Some, None, refl, sym, ap, subst, arith}
use Rattle.std.proofs.lemmas.Bool.Decides.{nat_tests}
use Rattle.fc_isa.specs.declared.insn.Relation.{Relation}
use Rattle.fc_isa.specs.declared.insn.Relation.TheVariants.{Eq, Gt, Ge, Set, Ne, Sgt, Sge, Lt, Le, Slt, Sle}
use Rattle.fc_alu.specs.Comparison.{holds}
use Rattle.fc_kinds.specs.declared.interval.Interval.{Interval}
use Rattle.fc_kinds.specs.Intervals.{both, above, above_equal, exchanged, equal, unequal, refined}
use Rattle.fc_kinds.specs.Containing.{Inside, IntervalWithin}

-- after a refinement these two numbers are still in the intervals
pub record Leaves (o : Option (Interval × Interval)) (x y : ℕ) : Type 0 where
  pub pair : Interval × Interval
  pub is : o ≡ Some pair
  pub left : Inside x pair.0
  pub right : Inside y pair.1

-- the refinement exists, and its intervals contain p and q
pub record Narrower (o : Option (Interval × Interval)) (p q : Interval) : Type 0 where
  pub pair : Interval × Interval
  pub is : o ≡ Some pair
  pub left : IntervalWithin p pair.0
  pub right : IntervalWithin q pair.1

left_both : (t : Bool) (a b : Interval) (x y : ℕ) → t ≡ true → Inside x a → Inside y b → Leaves (both t a b) x y
left_both true a b x y e h i = record { pair = (a, b); is = refl; left = h; right = i }
left_both false a b x y e h i = absurd (cc e)

exchange : (o : Option (Interval × Interval)) (x y : ℕ) → Leaves o x y → Leaves (exchanged o) y x
exchange None x y l = absurd (cc l.is)
exchange (Some p) x y l =
    let e : p ≡ l.pair = cc l.is in
    record { pair = (p.1, p.0); is = refl; left = subst (λ k. Inside y k.1) (sym e) l.right; right = subst (λ k. Inside x k.0) (sym e) l.left }

above_left : (a b : Interval) (x y : ℕ) → nat_lt y x ≡ true → Inside x a → Inside y b → Leaves (above a b) x y
above_left a b x y t h i = left_both _ _ _ x y (grind (arith, nat_tests, t, h, i)) (grind (arith, nat_tests, t, h, i)) (grind (arith, nat_tests, t, h, i))

above_equal_left : (a b : Interval) (x y : ℕ) → nat_le y x ≡ true → Inside x a → Inside y b → Leaves (above_equal a b) x y
above_equal_left a b x y t h i = left_both _ _ _ x y (grind (arith, nat_tests, t, h, i)) (grind (arith, nat_tests, t, h, i)) (grind (arith, nat_tests, t, h, i))

equal_left : (a b : Interval) (x y : ℕ) → (x == y) ≡ true → Inside x a → Inside y b → Leaves (equal a b) x y
equal_left a b x y t h i = left_both _ _ _ x y (grind (arith, nat_tests, t, h, i)) (grind (arith, nat_tests, t, h, i)) (grind (arith, nat_tests, t, h, i))

unequal_left : (a b : Interval) (x y : ℕ) → not (x == y) ≡ true → Inside x a → Inside y b → Leaves (unequal a b) x y
unequal_left a b x y t h i = left_both _ _ _ x y (grind (arith, nat_tests, t, h, i)) (grind (arith, nat_tests, t, h, i)) i

-- two numbers for which the relation holds are in the refined intervals
pub refined_leaves : (r : Relation) (a b : Interval) (x y : ℕ) → holds 64 r x y ≡ true → Inside x a → Inside y b → Leaves (refined r a b) x y
unfolding refined holds
refined_leaves Eq a b x y t h i = equal_left a b x y t h i
refined_leaves Gt a b x y t h i = above_left a b x y t h i
refined_leaves Ge a b x y t h i = above_equal_left a b x y t h i
refined_leaves Ne a b x y t h i = unequal_left a b x y t h i
refined_leaves Lt a b x y t h i = exchange (above b a) y x (above_left b a y x t i h)
refined_leaves Le a b x y t h i = exchange (above_equal b a) y x (above_equal_left b a y x t i h)
refined_leaves Set a b x y t h i = record { pair = (a, b); is = refl; left = h; right = i }
refined_leaves Sgt a b x y t h i = record { pair = (a, b); is = refl; left = h; right = i }
refined_leaves Sge a b x y t h i = record { pair = (a, b); is = refl; left = h; right = i }
refined_leaves Slt a b x y t h i = record { pair = (a, b); is = refl; left = h; right = i }
refined_leaves Sle a b x y t h i = record { pair = (a, b); is = refl; left = h; right = i }

-- ---- wider intervals

narrower_both : (t t' : Bool) (a b a' b' p q : Interval) → both t a b ≡ Some (p, q) → (t ≡ true → t' ≡ true) → (t ≡ true → IntervalWithin a a') → (t ≡ true → IntervalWithin b b') → Narrower (both t' a' b') p q
narrower_both false t' a b a' b' p q e f h i = absurd (cc e)
narrower_both true false a b a' b' p q e f h i = absurd (cc (f refl))
narrower_both true true a b a' b' p q e f h i =
    let same : ◌≡◌ {A = Interval × Interval} (a, b) (p, q) = cc e in
    let l : a ≡ p = ap (λ (k : Interval × Interval). k.0) same in
    let r : b ≡ q = ap (λ (k : Interval × Interval). k.1) same in
    record { pair = (a', b'); is = refl; left = subst (λ k. IntervalWithin k a') l (h refl); right = subst (λ k. IntervalWithin k b') r (i refl) }

exchange_narrower : (o o' : Option (Interval × Interval)) (p q : Interval) → exchanged o ≡ Some (p, q) → (o ≡ Some (q, p) → Narrower o' q p) → Narrower (exchanged o') p q
exchange_narrower None o' p q e f = absurd (cc e)
exchange_narrower (Some k) o' p q e f =
    let same : ◌≡◌ {A = Interval × Interval} (k.1, k.0) (p, q) = cc e in
    let l : k.1 ≡ p = ap (λ (k : Interval × Interval). k.0) same in
    let r : k.0 ≡ q = ap (λ (k : Interval × Interval). k.1) same in
    let n = f (ap Some (pair_is k l r)) in
    record { pair = (n.pair.1, n.pair.0); is = ap exchanged n.is; left = n.right; right = n.left }
  where
    pair_is : (k : Interval × Interval) → k.1 ≡ p → k.0 ≡ q → k ≡ (q, p)
    pair_is (a, b) l r = cc (l, r)

above_narrower : (a b a' b' p q : Interval) → above a b ≡ Some (p, q) → IntervalWithin a a' → IntervalWithin b b' → Narrower (above a' b') p q
above_narrower a b a' b' p q e h i = narrower_both _ _ _ _ _ _ p q e (λ t. grind (arith, nat_tests, t, h, i)) (λ t. grind (arith, nat_tests, t, h, i)) (λ t. grind (arith, nat_tests, t, h, i))

above_equal_narrower : (a b a' b' p q : Interval) → above_equal a b ≡ Some (p, q) → IntervalWithin a a' → IntervalWithin b b' → Narrower (above_equal a' b') p q
above_equal_narrower a b a' b' p q e h i = narrower_both _ _ _ _ _ _ p q e (λ t. grind (arith, nat_tests, t, h, i)) (λ t. grind (arith, nat_tests, t, h, i)) (λ t. grind (arith, nat_tests, t, h, i))

equal_narrower : (a b a' b' p q : Interval) → equal a b ≡ Some (p, q) → IntervalWithin a a' → IntervalWithin b b' → Narrower (equal a' b') p q
equal_narrower a b a' b' p q e h i = narrower_both _ _ _ _ _ _ p q e (λ t. grind (arith, nat_tests, t, h, i)) (λ t. grind (arith, nat_tests, t, h, i)) (λ t. grind (arith, nat_tests, t, h, i))

unequal_narrower : (a b a' b' p q : Interval) → a.lo ≤ a.hi → b.lo ≤ b.hi → unequal a b ≡ Some (p, q) → IntervalWithin a a' → IntervalWithin b b' → Narrower (unequal a' b') p q
unequal_narrower a b a' b' p q m n e h i = narrower_both _ _ _ _ _ _ p q e (λ t. grind (arith, nat_tests, t, h, i, m, n)) (λ t. grind (arith, nat_tests, t, h, i, m, n)) (λ t. i)

unrefined : (a b a' b' p q : Interval) → both true a b ≡ Some (p, q) → IntervalWithin a a' → IntervalWithin b b' → Narrower (both true a' b') p q
unrefined a b a' b' p q e h i = narrower_both true true a b a' b' p q e (λ t. t) (λ t. h) (λ t. i)

-- the refinement of two intervals that contain numbers is within that of wider intervals
pub refined_narrower : (r : Relation) (a b a' b' p q : Interval) → a.lo ≤ a.hi → b.lo ≤ b.hi → refined r a b ≡ Some (p, q) → IntervalWithin a a' → IntervalWithin b b' → Narrower (refined r a' b') p q
unfolding refined
refined_narrower Eq a b a' b' p q m n e h i = equal_narrower a b a' b' p q e h i
refined_narrower Gt a b a' b' p q m n e h i = above_narrower a b a' b' p q e h i
refined_narrower Ge a b a' b' p q m n e h i = above_equal_narrower a b a' b' p q e h i
refined_narrower Ne a b a' b' p q m n e h i = unequal_narrower a b a' b' p q m n e h i
refined_narrower Lt a b a' b' p q m n e h i = exchange_narrower (above b a) (above b' a') p q e (λ f. above_narrower b a b' a' q p f i h)
refined_narrower Le a b a' b' p q m n e h i = exchange_narrower (above_equal b a) (above_equal b' a') p q e (λ f. above_equal_narrower b a b' a' q p f i h)
refined_narrower Set a b a' b' p q m n e h i = unrefined a b a' b' p q e h i
refined_narrower Sgt a b a' b' p q m n e h i = unrefined a b a' b' p q e h i
refined_narrower Sge a b a' b' p q m n e h i = unrefined a b a' b' p q e h i
refined_narrower Slt a b a' b' p q m n e h i = unrefined a b a' b' p q e h i
refined_narrower Sle a b a' b' p q m n e h i = unrefined a b a' b' p q e h i

-- ---- after a refinement the intervals contain numbers

proper_both : (t : Bool) (a b p q : Interval) → both t a b ≡ Some (p, q) → (t ≡ true → (a.lo ≤ a.hi) × (b.lo ≤ b.hi)) → (p.lo ≤ p.hi) × (q.lo ≤ q.hi)
proper_both false a b p q e f = absurd (cc e)
proper_both true a b p q e f =
    let same : ◌≡◌ {A = Interval × Interval} (a, b) (p, q) = cc e in
    subst (λ (k : Interval × Interval). (k.0.lo ≤ k.0.hi) × (k.1.lo ≤ k.1.hi)) same (f refl)

above_proper : (a b p q : Interval) → a.lo ≤ a.hi → b.lo ≤ b.hi → above a b ≡ Some (p, q) → (p.lo ≤ p.hi) × (q.lo ≤ q.hi)
above_proper a b p q m n e = proper_both _ _ _ p q e (λ t. grind (arith, nat_tests, t, m, n))

above_equal_proper : (a b p q : Interval) → a.lo ≤ a.hi → b.lo ≤ b.hi → above_equal a b ≡ Some (p, q) → (p.lo ≤ p.hi) × (q.lo ≤ q.hi)
above_equal_proper a b p q m n e = proper_both _ _ _ p q e (λ t. grind (arith, nat_tests, t, m, n))

equal_proper : (a b p q : Interval) → equal a b ≡ Some (p, q) → (p.lo ≤ p.hi) × (q.lo ≤ q.hi)
equal_proper a b p q e = proper_both _ _ _ p q e (λ t. grind (arith, nat_tests, t))

unequal_proper : (a b p q : Interval) → a.lo ≤ a.hi → b.lo ≤ b.hi → unequal a b ≡ Some (p, q) → (p.lo ≤ p.hi) × (q.lo ≤ q.hi)
unequal_proper a b p q m n e = proper_both _ _ _ p q e (λ t. grind (arith, nat_tests, t, m, n))

exchange_proper : (o : Option (Interval × Interval)) (p q : Interval) → exchanged o ≡ Some (p, q) → (o ≡ Some (q, p) → (q.lo ≤ q.hi) × (p.lo ≤ p.hi)) → (p.lo ≤ p.hi) × (q.lo ≤ q.hi)
exchange_proper None p q e f = absurd (cc e)
exchange_proper (Some k) p q e f =
    let same : ◌≡◌ {A = Interval × Interval} (k.1, k.0) (p, q) = cc e in
    let r = f (ap (λ (j : Interval × Interval). Some (j.1, j.0)) same) in
    (r.1, r.0)

pub refined_proper : (r : Relation) (a b p q : Interval) → a.lo ≤ a.hi → b.lo ≤ b.hi → refined r a b ≡ Some (p, q) → (p.lo ≤ p.hi) × (q.lo ≤ q.hi)
unfolding refined
refined_proper Eq a b p q m n e = equal_proper a b p q e
refined_proper Gt a b p q m n e = above_proper a b p q m n e
refined_proper Ge a b p q m n e = above_equal_proper a b p q m n e
refined_proper Ne a b p q m n e = unequal_proper a b p q m n e
refined_proper Lt a b p q m n e = exchange_proper (above b a) p q e (λ f. above_proper b a q p n m f)
refined_proper Le a b p q m n e = exchange_proper (above_equal b a) p q e (λ f. above_equal_proper b a q p n m f)
refined_proper Set a b p q m n e = proper_both true a b p q e (λ t. (m, n))
refined_proper Sgt a b p q m n e = proper_both true a b p q e (λ t. (m, n))
refined_proper Sge a b p q m n e = proper_both true a b p q e (λ t. (m, n))
refined_proper Slt a b p q m n e = proper_both true a b p q e (λ t. (m, n))
refined_proper Sle a b p q m n e = proper_both true a b p q e (λ t. (m, n))

-- ---- and are within those before

abbrev pub AreInside : Interval → Interval → Interval → Interval → Type 0
AreInside p q a b = IntervalWithin p a × IntervalWithin q b

inside_both : (t : Bool) (a b c d p q : Interval) → both t c d ≡ Some (p, q) → (t ≡ true → AreInside c d a b) → AreInside p q a b
inside_both false a b c d p q e f = absurd (cc e)
inside_both true a b c d p q e f =
    let same : ◌≡◌ {A = Interval × Interval} (c, d) (p, q) = cc e in
    subst (λ (k : Interval × Interval). AreInside k.0 k.1 a b) same (f refl)

exchange_inside : (o : Option (Interval × Interval)) (a b p q : Interval) → exchanged o ≡ Some (p, q) → (o ≡ Some (q, p) → AreInside q p b a) → AreInside p q a b
exchange_inside None a b p q e f = absurd (cc e)
exchange_inside (Some k) a b p q e f =
    let same : ◌≡◌ {A = Interval × Interval} (k.1, k.0) (p, q) = cc e in
    let r = f (ap (λ (j : Interval × Interval). Some (j.1, j.0)) same) in
    (r.1, r.0)

pub refined_inside : (r : Relation) (a b p q : Interval) → refined r a b ≡ Some (p, q) → AreInside p q a b
unfolding refined
refined_inside Eq a b p q e = inside_both _ a b _ _ p q e (λ t. grind (arith, nat_tests, t))
refined_inside Gt a b p q e = inside_both _ a b _ _ p q e (λ t. grind (arith, nat_tests, t))
refined_inside Ge a b p q e = inside_both _ a b _ _ p q e (λ t. grind (arith, nat_tests, t))
refined_inside Ne a b p q e = inside_both _ a b _ _ p q e (λ t. grind (arith, nat_tests))
refined_inside Lt a b p q e = exchange_inside (above b a) a b p q e (λ f. inside_both _ b a _ _ q p f (λ t. grind (arith, nat_tests, t)))
refined_inside Le a b p q e = exchange_inside (above_equal b a) a b p q e (λ f. inside_both _ b a _ _ q p f (λ t. grind (arith, nat_tests, t)))
refined_inside Set a b p q e = inside_both true a b a b p q e (λ t. ((omega arith, omega arith), (omega arith, omega arith)))
refined_inside Sgt a b p q e = inside_both true a b a b p q e (λ t. ((omega arith, omega arith), (omega arith, omega arith)))
refined_inside Sge a b p q e = inside_both true a b a b p q e (λ t. ((omega arith, omega arith), (omega arith, omega arith)))
refined_inside Slt a b p q e = inside_both true a b a b p q e (λ t. ((omega arith, omega arith), (omega arith, omega arith)))
refined_inside Sle a b p q e = inside_both true a b a b p q e (λ t. ((omega arith, omega arith), (omega arith, omega arith)))
