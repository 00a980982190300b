-- The state on a branch of a conditional jump contains the values that take it.
use Rattle.std.proofs.Common.{◌≡◌, ℕ, ◌%◌, ◌^◌, ◌<◌, Bool, true, false, if◌then◌else◌, Option, Some, List, length, inl, inr, refl, sym, ap, ◌∙◌, subst, arith, get_or-set_same, get_or-set_other}
use Rattle.std.specs.Prelude.{slice_set}
use Rattle.std.proofs.lemmas.Bool.{cases_eq, cases_lt}
use Rattle.std.proofs.lemmas.Bool.Decides.{nat_tests}
use Rattle.std.proofs.Math.Nat.{mod-eq_of_lt}
use Rattle.fc_isa.specs.declared.insn.Width.{Width}
use Rattle.fc_isa.specs.declared.insn.Width.TheVariants.{W32, W64}
use Rattle.fc_isa.specs.declared.insn.Operand.{Operand}
use Rattle.fc_isa.specs.declared.insn.Operand.TheVariants.{Imm, Reg}
use Rattle.fc_isa.specs.declared.insn.Jump.{Jump}
use Rattle.fc_isa.specs.declared.insn.Relation.{Relation}
use Rattle.fc_isa.specs.declared.insn.Relation.TheVariants.{Eq, Gt, Ge, Set, Ne, Sgt, Sge, Lt, Le, Slt, Sle}
use Rattle.fc_alu.specs.Comparison.{holds, compared}
use Rattle.fc_kinds.specs.declared.interval.Interval.{Interval}
use Rattle.fc_kinds.specs.Intervals.{interval, opposite, refined}
use Rattle.fc_kinds.specs.Containing.{Inside, Contains, Holds}
use Rattle.fc_kinds.proofs.IntervalsRefined.{Leaves, refined_leaves}
use Rattle.fc_kinds.specs.declared.kind.Kind.{Kind}
use Rattle.fc_kinds.specs.declared.kind.Kind.TheVariants.{Unset, Num, Stack, Req, Vars, Dev}
use Rattle.fc_kinds.specs.Values.{Value, Number, value_at, with_some}
use Rattle.fc_kinds.specs.Kinds.{kind_at}
use Rattle.fc_kinds.specs.Transfer.{num, operand_kind}
use Rattle.fc_kinds.specs.Refinement.{put_right, put_both, relation_of, refines_at, is_same, refines, both_numbers, when}
use Rattle.fc_kinds.specs.Operations.{operand_value}
use Rattle.fc_kinds.proofs.KindLaws.{set_past}

-- if a relation doesn't hold for two numbers, the intervals refined by the opposite relation
-- contain the numbers
opposite_leaves : (r : Relation) (a b : Interval) (x y : ℕ) → holds 64 r x y ≡ false → Inside x a → Inside y b → Leaves (refined (opposite r) a b) x y
unfolding holds refined
opposite_leaves Eq a b x y t h i = refined_leaves Ne a b x y (rw t refl) h i
opposite_leaves Gt a b x y t h i = refined_leaves Le a b x y (grind (arith, nat_tests, t)) h i
opposite_leaves Ge a b x y t h i = refined_leaves Lt a b x y (grind (arith, nat_tests, t)) h i
opposite_leaves Ne a b x y t h i = refined_leaves Eq a b x y (grind (arith, nat_tests, t)) h i
opposite_leaves Lt a b x y t h i = refined_leaves Ge a b x y (grind (arith, nat_tests, t)) h i
opposite_leaves Le a b x y t h i = refined_leaves Gt a b x y (grind (arith, nat_tests, t)) h i
opposite_leaves Set a b x y t h i = record { pair = (a, b); is = refl; left = h; right = i }
opposite_leaves Sgt a b x y t h i = record { pair = (a, b); is = refl; left = h; right = i }
opposite_leaves Sge a b x y t h i = record { pair = (a, b); is = refl; left = h; right = i }
opposite_leaves Slt a b x y t h i = record { pair = (a, b); is = refl; left = h; right = i }
opposite_leaves Sle a b x y t h i = record { pair = (a, b); is = refl; left = h; right = i }

way_leaves : (j : Jump) (taken : Bool) (a b : Interval) (x y : ℕ) → holds 64 j.relation x y ≡ taken → Inside x a → Inside y b → Leaves (refined (relation_of taken j) a b) x y
way_leaves j true a b x y t h i = refined_leaves j.relation a b x y t h i
way_leaves j false a b x y t h i = opposite_leaves j.relation a b x y t h i

-- a register's abstract value can be narrowed to one that still contains the register's value
holds_known : (depth : ℕ) (ks : List Kind) (vs : List Value) (r : ℕ) (k : Kind) → Contains depth k (value_at vs r) → Holds depth ks vs → Holds depth (slice_set ks r k) vs
holds_known depth ks vs r k c h = record {
  each = λ j. elim (cases_lt r (length ks)) [
    | inl lt ↦ elim (cases_eq j r) [
      | inl e ↦ subst (λ i. Contains depth (kind_at (slice_set ks r k) i) (value_at vs i)) (sym e) (subst (λ x. Contains depth x (value_at vs r)) (sym (get_or-set_same ks r k Unset lt)) c)
      | inr n ↦ subst (λ x. Contains depth x (value_at vs j)) (sym (get_or-set_other ks r j k Unset n)) (h.each j)
    ]
    | inr ge ↦ subst (λ l. Contains depth (kind_at l j) (value_at vs j)) (sym (set_past ks r k ge)) (h.each j)
  ];
}

-- the branch has a state, and this state contains the values
pub record Keeps (depth : ℕ) (o : Option (List Kind)) (vs : List Value) : Type 0 where
  pub kinds : List Kind
  pub is : o ≡ Some kinds
  pub holds : Holds depth kinds vs

right_holds : (depth : ℕ) (o : Operand) (ks : List Kind) (vs : List Value) (s : Interval) (y : ℕ) → operand_value W64 o vs ≡ Number y → Inside y s → Holds depth ks vs → Holds depth (put_right o ks s) vs
right_holds depth (Imm k) ks vs s y e h i = i
right_holds depth (Reg r) ks vs s y e h i = holds_known depth ks vs r (num s) (subst (Contains depth (num s)) (sym e) h) i

numbers_keep : (depth : ℕ) (j : Jump) (taken : Bool) (ks : List Kind) (vs : List Value) (k l : Kind) (x y : ℕ) → value_at vs j.left ≡ Number x → operand_value W64 j.right vs ≡ Number y → holds 64 j.relation x y ≡ taken
    → Contains depth k (Number x) → Contains depth l (Number y) → Holds depth ks vs
    → Keeps depth (both_numbers k l (λ a b. with_some (refined (relation_of taken j) a b) (λ pair. Some (put_both j ks pair))) ks) vs
numbers_keep depth j taken ks vs (Num lo hi) (Num lo' hi') x y e f t c d h =
    let w = way_leaves j taken (interval lo hi) (interval lo' hi') x y t c d in
    record {
      kinds = put_both j ks w.pair;
      is = ap (λ o. with_some o (λ pair. Some (put_both j ks pair))) w.is;
      holds = right_holds depth j.right (slice_set ks j.left (num w.pair.0)) vs w.pair.1 y f w.right (holds_known depth ks vs j.left (num w.pair.0) (subst (Contains depth (num w.pair.0)) (sym e) w.left) h);
    }
numbers_keep depth j taken ks vs Unset l x y e f t c d h = record { kinds = ks; is = refl; holds = h }
numbers_keep depth j taken ks vs (Num lo hi) Unset x y e f t c d h = record { kinds = ks; is = refl; holds = h }
numbers_keep depth j taken ks vs (Num lo hi) (Stack m lo' hi') x y e f t c d h = absurd d
numbers_keep depth j taken ks vs (Num lo hi) (Req lo' hi') x y e f t c d h = absurd d
numbers_keep depth j taken ks vs (Num lo hi) (Vars lo' hi') x y e f t c d h = absurd d
numbers_keep depth j taken ks vs (Num lo hi) (Dev lo' hi') x y e f t c d h = absurd d
numbers_keep depth j taken ks vs (Stack m lo hi) l x y e f t c d h = absurd c
numbers_keep depth j taken ks vs (Req lo hi) l x y e f t c d h = absurd c
numbers_keep depth j taken ks vs (Vars lo hi) l x y e f t c d h = absurd c
numbers_keep depth j taken ks vs (Dev lo hi) l x y e f t c d h = absurd c

pub operand_contains : (depth : ℕ) (o : Operand) (ks : List Kind) (vs : List Value) → Holds depth ks vs → Contains depth (operand_kind W64 o ks) (operand_value W64 o vs)
operand_contains depth (Imm k) ks vs h = (omega arith, omega arith)
operand_contains depth (Reg r) ks vs h = h.each r

at_64 : (j : Jump) (x y : ℕ) (taken : Bool) → x < 2 ^ 64 → y < 2 ^ 64 → j.width ≡ W64 → compared j.relation j.width x y ≡ taken → holds 64 j.relation x y ≡ taken
unfolding compared
at_64 j x y taken p q w t =
    sym (ap (λ n. holds 64 j.relation n y) (mod-eq_of_lt {m = 2 ^ 64} p)) ∙ sym (ap (λ n. holds 64 j.relation (x % 2 ^ 64) n) (mod-eq_of_lt {m = 2 ^ 64} q)) ∙ subst (λ v. compared j.relation v x y ≡ taken) w t

refines_width : (w : Width) (same : Bool) → refines_at w same ≡ true → w ≡ W64
refines_width W64 same e = refl
refines_width W32 true e = absurd (cc e)
refines_width W32 false e = absurd (cc e)

-- the branch that two numbers take has a state, and this state contains all registers' values
pub when_keeps : (depth : ℕ) (j : Jump) (taken : Bool) (ks : List Kind) (vs : List Value) (x y : ℕ) → x < 2 ^ 64 → y < 2 ^ 64 → value_at vs j.left ≡ Number x → operand_value j.width j.right vs ≡ Number y → compared j.relation j.width x y ≡ taken → Holds depth ks vs → Keeps depth (when j taken ks) vs
unfolding when
when_keeps depth j taken ks vs x y p q e f t h = go (refines j) refl
  where
    go : (b : Bool) → refines j ≡ b → Keeps depth (if b then both_numbers (kind_at ks j.left) (operand_kind W64 j.right ks) (λ a b. with_some (refined (relation_of taken j) a b) (λ pair. Some (put_both j ks pair))) ks else Some ks) vs
    go false r = record { kinds = ks; is = refl; holds = h }
    go true r =
        let whole = refines_width j.width (is_same j.right j.left) r in
        let g : operand_value W64 j.right vs ≡ Number y = subst (λ w. operand_value w j.right vs ≡ Number y) whole f in
        numbers_keep depth j taken ks vs (kind_at ks j.left) (operand_kind W64 j.right ks) x y e g (at_64 j x y taken p q whole t)
        (subst (Contains depth (kind_at ks j.left)) e (h.each j.left)) (subst (Contains depth (operand_kind W64 j.right ks)) g (operand_contains depth j.right ks vs h)) h
