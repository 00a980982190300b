use Rattle.std.proofs.Common.{◌≡◌, true, ap, sym, ◌∙◌}
use Rattle.fc_ticket.specs.Runs.{initial_vars_of}
use Rattle.fc_registry.specs.Slots.{slot_in}
use Rattle.fc_verify.specs.Judged.{judged}
use Rattle.fc_core.specs.declared.event.Event.TheVariants.{Install}
use Rattle.fc_core.specs.declared.stage.Step.{Step}
use Rattle.fc_core.specs.declared.stage.Task.{Task}
use Rattle.fc_core.specs.Room.{stage_of}
use Rattle.fc_core.specs.Transitions.{around_of, install_effect, transition, shard_after, shard_moved}
use Rattle.fc_core.specs.Stage.{Stage, ToInstall}
use Rattle.fc_core.specs.Stages.{image_of}
use Rattle.fc_core.proofs.stage.Task.install.Goals as goal

pub returns-in-Ok-clause-shard : goal.returns-in-Ok-clause-shard
returns-in-Ok-clause-shard c = λ k common.
    let shard = c.args.shard.now in
    let task : Task = c.args.self.now in
    let n = task.job.origin.slot in
    let ws = around_of shard common n in
    let room = c.stage.inside in
    let image_is : c.image.result.now ≡ image_of task.job.ask = c.image.ensures in
    let initial_is : c.initial_vars-initial.result ≡ initial_vars_of task.job.ask = c.initial_vars-initial.ensures in
    let stage_is : ToInstall ≡ task.stage = ap (λ (step : Step). stage_of step room.found room.seen room.answer) (sym c.in-ToInstall.is) ∙ c.stage.view_is in
    c.in-Ok.ensures.shard (record { job = task.job; slot = slot_in shard n; around = ws; stage = ToInstall })
    ∙ ((λ i. shard_moved (install_effect (initial_is i) (judged (image_is i)) (record { job = task.job; slot = slot_in shard n; around = ws; stage = ToInstall })) n shard)
    ∙ ap (λ (st : Stage). shard_after (transition (Install k true) (record { job = task.job; slot = slot_in shard n; around = ws; stage = st })) task shard) stage_is)
