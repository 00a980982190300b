use Rattle.std.proofs.Common.{◌≡◌, ◌≢◌, ap, inl, inr, sym, ◌∙◌, subst, arith, length-set, get_or-set_same, get_or-set_other}
use Rattle.std.specs.Prelude.{slice_set}
use Rattle.std.proofs.lemmas.Bool.{cases_eq}
use Rattle.std.proofs.lemmas.List.{ext_get_or}
use Rattle.fc_kinds.specs.declared.kind.Kind.TheVariants.{Unset}
use Rattle.fc_kinds.specs.Kinds.{kind_at}
use Rattle.fc_kinds.specs.Lattice.{join_kind, joined}
use Rattle.fc_kinds.proofs.JoinLaws.{joined_at}
use Rattle.fc_kinds.proofs.JoinLaws.{joined_length}
use Rattle.fc_kinds.proofs.lattice.join.Goals as goal

pub loop-r-preserved : goal.loop-r-preserved
loop-r-preserved c =
    let l = c.loop-r in
    let size = l.invariant.count in
    let now = l.invariant.left l.r (omega arith) in
    record {
      count = simp length-set l.invariant.count;
      done = λ k lt. elim (cases_eq k l.r) [
        | inl e ↦ subst (λ j. kind_at (slice_set l.state l.r c.join_kind.result) j ≡ join_kind (kind_at c.args.state.now j) (kind_at c.args.other.now j))
            (sym e)
            (get_or-set_same l.state l.r c.join_kind.result Unset (omega (arith, size, c.loop-r-test.true)) ∙ c.join_kind.ensures ∙ ap
            (λ k. join_kind k (kind_at c.args.other.now l.r)) now)
        | inr n ↦ get_or-set_other l.state l.r k c.join_kind.result Unset n ∙ l.invariant.done k (omega (arith, lt, n))
      ];
      left = λ k le. let n : k ≢ l.r = omega (arith, le) in get_or-set_other l.state l.r k c.join_kind.result Unset n ∙ l.invariant.left k (omega (arith, le));
    }

pub returns : goal.returns
returns c =
    let l = c.loop-r in
    ext_get_or Unset l.state (joined c.args.state.now c.args.other.now) (l.invariant.count ∙ sym
    (joined_length c.args.state.now c.args.other.now (c.told-state ∙ sym c.told-other) ∙ c.told-state))
    (λ k lt. l.invariant.done k (omega (arith, lt, l.invariant.count, c.loop-r-test.false)) ∙ sym (joined_at c.args.state.now c.args.other.now k))
