use Rattle.std.proofs.Common.{◌≡◌, ℕ, [], sym, subst}
use Rattle.atomic_table.specs.Table.{Me}
use Rattle.fc_heads.specs.declared.view.View.{View}
use Rattle.fc_heads.specs.Heads.{IsWhole}
use Rattle.fc_heads.proofs.Moves.{met_is_whole}
use Rattle.fc_heads.proofs.heads.Heads.meet.Goals as goal

pub invariant_of-one : goal.invariant_of-one
invariant_of-one c = subst (λ (m : Me ℕ View). (m.1 ≡ []) × IsWhole m.0) (sym c.meet.ensures.one) (c.one.invariant.0, met_is_whole _ _ c.one.invariant.1 c.other.invariant.1)

pub invariant_of-other : goal.invariant_of-other
invariant_of-other c = subst (λ (m : Me ℕ View). (m.1 ≡ []) × IsWhole m.0) (sym c.meet.ensures.other) (c.other.invariant.0, met_is_whole _ _ c.other.invariant.1 c.one.invariant.1)
