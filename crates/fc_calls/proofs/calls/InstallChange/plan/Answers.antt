use Rattle.std.proofs.Common.{List, ℕ, subst}
use Rattle.std.specs.Prelude.{IfSome}
use Rattle.fc_calls.specs.Kept.{HasOwnImage}
use Rattle.fc_calls.proofs.Planned.{install_slots, own_image}
use Rattle.fc_calls.proofs.calls.InstallChange.plan.Goals as goal

pub returns-clause-slots : goal.returns-clause-slots
returns-clause-slots c = λ answer room after does. install_slots c.args.self.now.job.now _ c.args.shard.now answer after does

pub returns-clause-own_image : goal.returns-clause-own_image
returns-clause-own_image c =
    subst (λ (image : List ℕ). IfSome c.plan_install.result (λ u. HasOwnImage image u.program)) c.image.ensures (own_image c.image.result.now c.plan_install.result c.plan_install.ensures.image)
