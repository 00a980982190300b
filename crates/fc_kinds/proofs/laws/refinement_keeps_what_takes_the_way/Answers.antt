use Rattle.std.proofs.Common.{refl, sym, subst}
use Rattle.fc_alu.specs.Comparison.{truth}
use Rattle.fc_kinds.specs.Laws.{IsOpenTo}
use Rattle.fc_kinds.proofs.TakenLaws.{when_keeps}
use Rattle.fc_kinds.proofs.laws.refinement_keeps_what_takes_the_way.Goals as goal

pub returns : goal.returns
returns c = λ jump depth ks values x y n h.
    let k = when_keeps depth jump (truth jump x y) ks values x y n.left_small n.right_small n.left n.right refl h in
    subst (λ o. IsOpenTo depth o values) (sym k.is) k.holds
