use Rattle.std.proofs.Common.{◌≡◌, true, Some, ap, sym, subst, ◌∙◌}
use Rattle.std.specs.Prelude.{OnOk}
use Rattle.fc_verify.specs.Accepted.{Judgement}
use Rattle.fc_verify.specs.declared.refusal.Refusal.{Refusal}
use Rattle.fc_verify.specs.declared.refusal.Refusal.TheVariants.{Broken}
use Rattle.fc_isa.specs.declared.rule.Fault.{Fault}
use Rattle.fc_core.specs.declared.event.Event.TheVariants.{Install}
use Rattle.fc_core.specs.Stage.{ToAnswer}
use Rattle.fc_front.specs.Ends.{refused}
use Rattle.fc_verify.specs.Judged.{judged}
use Rattle.fc_verify.specs.Refusals.{IsFaultOf, IsRefusal}
use Rattle.fc_registry.specs.Slots.{slot_in}
use Rattle.fc_core.specs.Transitions.{Inputs, install_call, install_effect, effect_of, shard_moved}
use Rattle.fc_core.specs.Steps.{Call, Rejects, next_stage}
use Rattle.fc_core.proofs.Rejections.{rejected_call, same_slot}
use Rattle.fc_core.proofs.task.verify_and_install.Goals as goal

-- if the image is refused, the call of the install is that of the refusal.
rejects : (c : goal.After-rejected) → Rejects (refused (Broken c.in-Err-Broken.fault)) ≡ install_call c.args.initial (judged c.args.image.now) (slot_in c.args.shard.now c.args.slot)
rejects c =
    let is : IsFaultOf c.args.image.now (judged c.args.image.now) c.in-Err-Broken.fault = subst (λ (r : Refusal). IsRefusal c.args.image.now r) c.in-Err-Broken.field-0-is c.in-Err-Broken.ensures.refused in
    rejected_call c.args.image.now c.args.initial (judged c.args.image.now) c.in-Err-Broken.fault (slot_in c.args.shard.now c.args.slot) is

pub returns-in-Err-Broken-clause-stage : goal.returns-in-Err-Broken-clause-stage
returns-in-Err-Broken-clause-stage c = c.rejected.ensures ∙ (ap (λ (f : Fault). ToAnswer (refused (Broken f))) c.in-Err-Broken.fault-is ∙ ap next_stage (rejects c))

pub returns-in-Err-Broken-clause-shard : goal.returns-in-Err-Broken-clause-shard
returns-in-Err-Broken-clause-shard c = λ s.
    sym (same_slot c.args.shard.now c.args.slot)
    ∙ ap (λ (call : Call). shard_moved (effect_of (Install 0 true) (record s { slot = slot_in c.args.shard.now c.args.slot }) (Some call)) c.args.slot c.args.shard.now) (rejects c)

pub returns-in-Ok-clause-shard : goal.returns-in-Ok-clause-shard
returns-in-Ok-clause-shard c =
    subst (λ (j : Judgement). OnOk c.install_program.result ((s : Inputs) → c.install_program.new.shard ≡ shard_moved (install_effect c.args.initial j (record s { slot = slot_in c.args.shard.now c.args.slot })) c.args.slot c.args.shard.now))
    (sym c.in-Ok.ensures.judged) c.install_program.ensures.shard
