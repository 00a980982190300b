-- A wider state has a wider state on each branch.
use Rattle.std.proofs.Common.{◌≡◌, Bool, true, false, if◌then◌else◌, Option, Some, None, List, length, refl, sym, subst, arith, length-set}
use Rattle.std.specs.Prelude.{slice_set}
use Rattle.fc_isa.specs.declared.insn.Width.TheVariants.{W64}
use Rattle.fc_isa.specs.declared.insn.Operand.{Operand}
use Rattle.fc_isa.specs.declared.insn.Operand.TheVariants.{Imm, Reg}
use Rattle.fc_isa.specs.declared.insn.Jump.{Jump}
use Rattle.fc_isa.specs.declared.insn.Relation.{Relation}
use Rattle.fc_isa.specs.Program.{IsReg, IsOperand}
use Rattle.fc_kinds.specs.declared.interval.Interval.{Interval}
use Rattle.fc_kinds.specs.Intervals.{interval, refined}
use Rattle.fc_kinds.specs.Containing.{IntervalWithin, IsKind, AreKinds}
use Rattle.fc_kinds.proofs.IntervalsRefined.{refined_narrower, refined_proper, refined_inside}
use Rattle.fc_kinds.specs.declared.kind.Kind.{Kind}
use Rattle.fc_kinds.specs.declared.kind.Kind.TheVariants.{Unset, Num, Stack, Req, Vars, Dev}
use Rattle.fc_kinds.specs.Kinds.{kind_at, KindWithin, Within}
use Rattle.fc_kinds.specs.Values.{with_some}
use Rattle.fc_kinds.specs.Transfer.{num, is_number, operand_kind}
use Rattle.fc_kinds.specs.Refinement.{put_right, put_both, relation_of, refines, both_numbers, when}
use Rattle.fc_kinds.proofs.KindLaws.{within_put}
use Rattle.fc_kinds.proofs.Monotone.{operand_within}
use Rattle.fc_kinds.proofs.TransferLaws.{kinds_put, operand_is}

-- a branch that is possible in the narrower state is possible in the wider one, with a wider state
abbrev pub WayFollows : Option (List Kind) → Option (List Kind) → Type 0
WayFollows None wide = Unit {0}
WayFollows (Some narrow) None = ⊥
WayFollows (Some narrow) (Some wide) = Within narrow wide × AreKinds narrow

right_within : (o : Operand) (ks ks' : List Kind) (s s' : Interval) → IsOperand o → length ks ≡ 11 → IntervalWithin s s' → Within ks ks' → Within (put_right o ks s) (put_right o ks' s')
right_within (Imm k) ks ks' s s' i len v w = w
right_within (Reg r) ks ks' s s' i len v w = within_put ks ks' r (num s) (num s') (omega (arith, i, len)) v w

right_kinds : (o : Operand) (ks : List Kind) (s : Interval) → IsOperand o → IsKind (num s) → AreKinds ks → AreKinds (put_right o ks s)
right_kinds (Imm k) ks s i p a = a
right_kinds (Reg r) ks s i p a = kinds_put ks r (num s) i p a

both_within : (j : Jump) (ks ks' : List Kind) (p p' : Interval × Interval) → IsReg j.left → IsOperand j.right → AreKinds ks → IntervalWithin p.0 p'.0 → IntervalWithin p.1 p'.1 → Within ks ks' → Within (put_both j ks p) (put_both j ks' p')
both_within j ks ks' p p' l r a u v w =
    right_within j.right (slice_set ks j.left (num p.0)) (slice_set ks' j.left (num p'.0)) p.1 p'.1 r (simp length-set a.count) v
    (within_put ks ks' j.left (num p.0) (num p'.0) (omega (arith, l, a.count)) u w)

both_kinds : (j : Jump) (ks : List Kind) (p : Interval × Interval) → IsReg j.left → IsOperand j.right → AreKinds ks → IsKind (num p.0) × IsKind (num p.1) → AreKinds (put_both j ks p)
both_kinds j ks p l r a q = right_kinds j.right (slice_set ks j.left (num p.0)) p.1 r q.1 (kinds_put ks j.left (num p.0) l q.0 a)

refined_follows : (relation : Relation) (j : Jump) (ks ks' : List Kind) (a b a' b' : Interval) → IsReg j.left → IsOperand j.right → AreKinds ks → Within ks ks' → IsKind (num a) → IsKind (num b) → IntervalWithin a a' → IntervalWithin b b'
    → WayFollows (with_some (refined relation a b) (λ pair. Some (put_both j ks pair))) (with_some (refined relation a' b') (λ pair. Some (put_both j ks' pair)))
refined_follows relation j ks ks' a b a' b' l r k w m n h i = go (refined relation a b) refl
  where
    go : (o : Option (Interval × Interval)) → refined relation a b ≡ o → WayFollows (with_some o (λ pair. Some (put_both j ks pair))) (with_some (refined relation a' b') (λ pair. Some (put_both j ks' pair)))
    go None e = tt
    go (Some (p, q)) e =
        let f = refined_narrower relation a b a' b' p q m.0 n.0 e h i in
        let r' = refined_proper relation a b p q m.0 n.0 e in
        let v = refined_inside relation a b p q e in
        subst (λ o. WayFollows (Some (put_both j ks (p, q))) (with_some o (λ pair. Some (put_both j ks' pair)))) (sym f.is)
        (both_within j ks ks' (p, q) f.pair l r k f.left f.right w, both_kinds j ks (p, q) l r k ((r'.0, omega (arith, v.0, m.1)), (r'.1, omega (arith, v.1, n.1))))

numbers_refined : (relation : Relation) (j : Jump) (ks ks' : List Kind) (k l k' l' : Kind) → IsReg j.left → IsOperand j.right → AreKinds ks → Within ks ks' → IsKind k → IsKind l → KindWithin k k' → KindWithin l l'
    → is_number k' ≡ true → is_number l' ≡ true
    → WayFollows (both_numbers k l (λ a b. with_some (refined relation a b) (λ pair. Some (put_both j ks pair))) ks) (both_numbers k' l' (λ a b. with_some (refined relation a b) (λ pair. Some (put_both j ks' pair))) ks')
numbers_refined relation j ks ks' (Num lo hi) (Num lo2 hi2) (Num lo' hi') (Num lo2' hi2') left right a w p q u v s t =
    refined_follows relation j ks ks' (interval lo hi) (interval lo2 hi2) (interval lo' hi') (interval lo2' hi2') left right a w p q u v
numbers_refined relation j ks ks' k l Unset l' left right a w p q u v s t = absurd (cc s)
numbers_refined relation j ks ks' k l (Stack m lo hi) l' left right a w p q u v s t = absurd (cc s)
numbers_refined relation j ks ks' k l (Req lo hi) l' left right a w p q u v s t = absurd (cc s)
numbers_refined relation j ks ks' k l (Vars lo hi) l' left right a w p q u v s t = absurd (cc s)
numbers_refined relation j ks ks' k l (Dev lo hi) l' left right a w p q u v s t = absurd (cc s)
numbers_refined relation j ks ks' k l (Num lo hi) Unset left right a w p q u v s t = absurd (cc t)
numbers_refined relation j ks ks' k l (Num lo hi) (Stack m lo' hi') left right a w p q u v s t = absurd (cc t)
numbers_refined relation j ks ks' k l (Num lo hi) (Req lo' hi') left right a w p q u v s t = absurd (cc t)
numbers_refined relation j ks ks' k l (Num lo hi) (Vars lo' hi') left right a w p q u v s t = absurd (cc t)
numbers_refined relation j ks ks' k l (Num lo hi) (Dev lo' hi') left right a w p q u v s t = absurd (cc t)
numbers_refined relation j ks ks' _ _ (Num lo hi) (Num lo' hi') left right a w p q u v s t = absurd (assumption (u, v))

pub when_follows : (j : Jump) (taken : Bool) (ks ks' : List Kind) → IsReg j.left → IsOperand j.right → AreKinds ks → Within ks ks' → is_number (kind_at ks' j.left) ≡ true → is_number (operand_kind W64 j.right ks') ≡ true → WayFollows (when j taken ks) (when j taken ks')
unfolding when
when_follows j taken ks ks' l r a w s t = go (refines j)
  where
    go : (b : Bool) → WayFollows (if b then both_numbers (kind_at ks j.left) (operand_kind W64 j.right ks) (λ a b. with_some (refined (relation_of taken j) a b) (λ pair. Some (put_both j ks pair))) ks else Some ks)
        (if b then both_numbers (kind_at ks' j.left) (operand_kind W64 j.right ks') (λ a b. with_some (refined (relation_of taken j) a b) (λ pair. Some (put_both j ks' pair))) ks' else Some ks')
    go false = (w, a)
    go true = numbers_refined (relation_of taken j) j ks ks' (kind_at ks j.left) (operand_kind W64 j.right ks) (kind_at ks' j.left) (operand_kind W64 j.right ks') l r a w (a.each j.left) (operand_is W64 j.right ks r a) (w.each j.left) (operand_within W64 j.right ks ks' w) s t
