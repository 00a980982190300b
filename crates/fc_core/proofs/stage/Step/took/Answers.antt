use Rattle.std.proofs.Common.{ap, sym, ◌∙◌}
use Rattle.fc_registry.specs.Views.{taken_with}
use Rattle.fc_registry.specs.declared.shard.Taken.{Taken}
use Rattle.fc_core.specs.Stages.{took}
use Rattle.fc_core.proofs.stage.Step.took.Goals as goal

pub returns-in-Refused : goal.returns-in-Refused
returns-in-Refused c = λ f seen size.
    ((c.unavailable.ensures f seen).0 ∙ sym (ap (λ (x : Taken). took c.args.count (taken_with x f)) c.in-Refused.is), (c.unavailable.ensures f seen).1)

pub returns-in-Stale : goal.returns-in-Stale
returns-in-Stale c = λ f seen size. (
  (c.unavailable-in-Stale.ensures f seen).0 ∙ sym (ap (λ (x : Taken). took c.args.count (taken_with x f)) c.in-Stale.is),
  (c.unavailable-in-Stale.ensures f seen).1,
)
