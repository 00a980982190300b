-- A join contains both states, and is the least state that does.
use Rattle.std.proofs.Common.{◌≡◌, ℕ, zero, suc, ◌==◌, ℤ, Bool, true, false, if◌then◌else◌, List, [], ◌∷◌, length, refl, sym, ap, ◌∙◌, subst, arith}
use Rattle.std.specs.Int.{int_min, int_max}
use Rattle.std.proofs.lemmas.Int.{ints, clamps}
use Rattle.std.proofs.lemmas.Bool.Decides.{nat_tests}
use Rattle.fc_kinds.specs.declared.kind.Kind.{Kind}
use Rattle.fc_kinds.specs.declared.kind.Kind.TheVariants.{Unset, Num, Stack, Req, Vars, Dev}
use Rattle.fc_kinds.specs.Kinds.{kind_at, KindWithin, Within}
use Rattle.fc_kinds.specs.Lattice.{join_kind, joined}
use Rattle.fc_kinds.specs.Containing.{IsKind, AreKinds, IsNear}

stack_left : (t : Bool) (l lo hi l' lo' hi' : _) → (l == l') ≡ t → KindWithin (Stack l lo hi) (if t then Stack l (int_min lo lo') (int_max hi hi') else Unset)
stack_left true l lo hi l' lo' hi' e = (refl, omega (arith, ints, clamps), omega (arith, ints, clamps))
stack_left false l lo hi l' lo' hi' e = tt

stack_right : (t : Bool) (l lo hi l' lo' hi' : _) → (l == l') ≡ t → KindWithin (Stack l' lo' hi') (if t then Stack l (int_min lo lo') (int_max hi hi') else Unset)
stack_right true l lo hi l' lo' hi' e = (grind (arith, nat_tests, e), omega (arith, ints, clamps), omega (arith, ints, clamps))
stack_right false l lo hi l' lo' hi' e = tt

join_left : (a b : Kind) → KindWithin a (join_kind a b)
join_left (Num lo hi) (Num lo' hi') = (omega arith, omega arith)
join_left (Stack l lo hi) (Stack l' lo' hi') = stack_left (l == l') l lo hi l' lo' hi' refl
join_left (Req lo hi) (Req lo' hi') = (omega (arith, ints, clamps), omega (arith, ints, clamps))
join_left (Vars lo hi) (Vars lo' hi') = (omega (arith, ints, clamps), omega (arith, ints, clamps))
join_left (Dev lo hi) (Dev lo' hi') = (omega (arith, ints, clamps), omega (arith, ints, clamps))
join_left _ _ = tt

join_right : (a b : Kind) → KindWithin b (join_kind a b)
join_right (Num lo hi) (Num lo' hi') = (omega arith, omega arith)
join_right (Stack l lo hi) (Stack l' lo' hi') = stack_right (l == l') l lo hi l' lo' hi' refl
join_right (Req lo hi) (Req lo' hi') = (omega (arith, ints, clamps), omega (arith, ints, clamps))
join_right (Vars lo hi) (Vars lo' hi') = (omega (arith, ints, clamps), omega (arith, ints, clamps))
join_right (Dev lo hi) (Dev lo' hi') = (omega (arith, ints, clamps), omega (arith, ints, clamps))
join_right _ _ = tt

stack_least : (t : Bool) (l lo hi l' lo' hi' m lo'' hi'' : _) → (l == l') ≡ t → KindWithin (Stack l lo hi) (Stack m lo'' hi'') → KindWithin (Stack l' lo' hi') (Stack m lo'' hi'')
    → KindWithin (if t then Stack l (int_min lo lo') (int_max hi hi') else Unset) (Stack m lo'' hi'')
stack_least true l lo hi l' lo' hi' m lo'' hi'' e p q = (p.0, omega (arith, ints, clamps, p, q), omega (arith, ints, clamps, p, q))
stack_least false l lo hi l' lo' hi' m lo'' hi'' e p q = let same : l ≡ l' = p.0 ∙ sym q.0 in absurd (grind (arith, nat_tests, e, same))

pub join_least : (a b c : Kind) → KindWithin a c → KindWithin b c → KindWithin (join_kind a b) c
join_least a b Unset p q = tt
join_least (Num lo hi) (Num lo' hi') (Num lo'' hi'') p q = (omega (arith, p, q), omega (arith, p, q))
join_least (Stack l lo hi) (Stack l' lo' hi') (Stack m lo'' hi'') p q = stack_least (l == l') l lo hi l' lo' hi' m lo'' hi'' refl p q
join_least (Req lo hi) (Req lo' hi') (Req lo'' hi'') p q = (omega (arith, ints, clamps, p, q), omega (arith, ints, clamps, p, q))
join_least (Vars lo hi) (Vars lo' hi') (Vars lo'' hi'') p q = (omega (arith, ints, clamps, p, q), omega (arith, ints, clamps, p, q))
join_least (Dev lo hi) (Dev lo' hi') (Dev lo'' hi'') p q = (omega (arith, ints, clamps, p, q), omega (arith, ints, clamps, p, q))
join_least _ _ _ p q = absurd (assumption (p, q))

join_unset : (a : Kind) → join_kind a Unset ≡ Unset
join_unset Unset = refl
join_unset (Num lo hi) = refl
join_unset (Stack l lo hi) = refl
join_unset (Req lo hi) = refl
join_unset (Vars lo hi) = refl
join_unset (Dev lo hi) = refl

pub joined_at : (ks ls : List Kind) (r : ℕ) → kind_at (joined ks ls) r ≡ join_kind (kind_at ks r) (kind_at ls r)
joined_at [] ls r = refl
joined_at (k ∷ ks) [] r = sym (join_unset (kind_at (k ∷ ks) r))
joined_at (k ∷ ks) (l ∷ ls) zero = refl
joined_at (k ∷ ks) (l ∷ ls) (suc r) = joined_at ks ls r

pub joined_left : (ks ls : List Kind) → Within ks (joined ks ls)
joined_left ks ls = record { each = λ r. subst (KindWithin (kind_at ks r)) (sym (joined_at ks ls r)) (join_left (kind_at ks r) (kind_at ls r)) }

pub joined_right : (ks ls : List Kind) → Within ls (joined ks ls)
joined_right ks ls = record { each = λ r. subst (KindWithin (kind_at ls r)) (sym (joined_at ks ls r)) (join_right (kind_at ks r) (kind_at ls r)) }

pub joined_least : (ks ls ms : List Kind) → Within ks ms → Within ls ms → Within (joined ks ls) ms
joined_least ks ls ms p q = record { each = λ r. subst (λ k. KindWithin k (kind_at ms r)) (sym (joined_at ks ls r)) (join_least (kind_at ks r) (kind_at ls r) (kind_at ms r) (p.each r) (q.each r)) }

pub joined_length : (ks ls : List Kind) → length ks ≡ length ls → length (joined ks ls) ≡ length ks
joined_length [] ls e = refl
joined_length (k ∷ ks) [] e = absurd (omega (arith, e))
joined_length (k ∷ ks) (l ∷ ls) e = ap suc (joined_length ks ls (omega (arith, e)))

near_join : (lo hi lo' hi' : ℤ) → IsNear lo hi → IsNear lo' hi' → IsNear (int_min lo lo') (int_max hi hi')
near_join lo hi lo' hi' p q = (omega (arith, ints, clamps, p, q), omega (arith, ints, clamps, p, q), omega (arith, ints, clamps, p, q))

join_is : (a b : Kind) → IsKind a → IsKind b → IsKind (join_kind a b)
join_is (Num lo hi) (Num lo' hi') p q = omega (arith, p, q)
join_is (Stack l lo hi) (Stack l' lo' hi') p q = go (l == l')
  where
    go : (t : Bool) → IsKind (if t then Stack l (int_min lo lo') (int_max hi hi') else Unset)
    go true = near_join lo hi lo' hi' p q
    go false = tt
join_is (Req lo hi) (Req lo' hi') p q = near_join lo hi lo' hi' p q
join_is (Vars lo hi) (Vars lo' hi') p q = near_join lo hi lo' hi' p q
join_is (Dev lo hi) (Dev lo' hi') p q = near_join lo hi lo' hi' p q
join_is _ _ p q = tt

pub joined_kinds : (ks ls : List Kind) → AreKinds ks → AreKinds ls → AreKinds (joined ks ls)
joined_kinds ks ls p q = record {
  count = joined_length ks ls (p.count ∙ sym q.count) ∙ p.count;
  each = λ r. subst IsKind (sym (joined_at ks ls r)) (join_is (kind_at ks r) (kind_at ls r) (p.each r) (q.each r));
}
