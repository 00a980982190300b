use Rattle.fc_registry.specs.Slots.{slot_in}
use Rattle.fc_registry.proofs.Plans.{plan_put}
use Rattle.fc_registry.proofs.plan.plan_install.Goals as goal

pub returns-clause-plan : goal.returns-clause-plan
returns-clause-plan c =
    plan_put (slot_in c.args.shard.now c.args.slot) c.args.slot c.args.program.now c.args.initial _ c.plan.result c.plan.ensures.none c.plan.ensures.some c.vars_installed-vars.ensures
