use Rattle.std.proofs.Common.{◌≡◌, ◌∙◌, length, ◌++◌, ◌∷◌, [], true, ap, sym, subst}
use Rattle.fc_core.specs.History.{History}
use Rattle.fc_core.specs.Room.{stage_of}
use Rattle.fc_core.specs.Stage.{Stage, ToDescribe, ToInstall, ToList, ToMatch, ToRemove, ToTake}
use Rattle.fc_core.specs.declared.stage.Step.{Step}
use Rattle.fc_front.specs.Receiving.{emission_if}
use Rattle.fc_server.specs.Serving.{Serves, Worked, next, worked}
use Rattle.fc_core.specs.declared.event.Event.TheVariants.{Answer}
use Rattle.fc_server.proofs.Served.{answered_on, at_work, kept_by_answer, worked_at_once}
use Rattle.fc_server.proofs.engine.work_off.Goals as goal

pub returns-in-ToMatch-clause-works : goal.returns-in-ToMatch-clause-works
returns-in-ToMatch-clause-works c = λ h rest v.
    let out = emission_if c.look_and_run.result c.look_and_run.new.reply in
    let room = c.stage.inside in
    let stage_is : ToMatch ≡ c.args.task.now.stage =
    ap (λ (step : Step). stage_of step room.found room.seen room.answer) (sym c.in-ToMatch.is) ∙ c.stage.view_is in
    subst (λ (st : Stage). Worked c.args.readings.now h (length rest) st c.args.task.now.job.origin.slot c.args.now c.look_and_run.new.server out)
    stage_is (c.look_and_run.ensures.works h rest v)

pub returns-in-ToTake-clause-works : goal.returns-in-ToTake-clause-works
returns-in-ToTake-clause-works c = λ h rest v.
    let out = emission_if c.run.result.is_sent c.run.new.reply in
    let room = c.stage.inside in
    let stage_is : ToTake c.in-ToTake.field-0 ≡ c.args.task.now.stage =
    ap (λ (step : Step). stage_of step room.found room.seen room.answer) (sym c.in-ToTake.is) ∙ c.stage.view_is in
    subst (λ (st : Stage). Worked c.args.readings.now h (length rest) st c.args.task.now.job.origin.slot c.args.now c.run.new.server out)
    stage_is (c.run.ensures.works c.in-ToTake.field-0 h rest v)

pub returns-in-ToInstall-clause-works : goal.returns-in-ToInstall-clause-works
returns-in-ToInstall-clause-works c = λ h rest v.
    let out = emission_if c.install.result c.install.new.reply in
    let room = c.stage.inside in
    let stage_is : ToInstall ≡ c.args.task.now.stage =
    ap (λ (step : Step). stage_of step room.found room.seen room.answer) (sym c.in-ToInstall.is) ∙ c.stage.view_is in
    subst (λ (st : Stage). Worked c.args.readings.now h (length rest) st c.args.task.now.job.origin.slot c.args.now c.install.new.server out)
    stage_is (c.install.ensures.works c.args.readings.now h rest v)

pub returns-in-ToRemove-clause-works : goal.returns-in-ToRemove-clause-works
returns-in-ToRemove-clause-works c = λ h rest v.
    let out = emission_if c.remove.result c.remove.new.reply in
    let room = c.stage.inside in
    let stage_is : ToRemove ≡ c.args.task.now.stage =
    ap (λ (step : Step). stage_of step room.found room.seen room.answer) (sym c.in-ToRemove.is) ∙ c.stage.view_is in
    subst (λ (st : Stage). Worked c.args.readings.now h (length rest) st c.args.task.now.job.origin.slot c.args.now c.remove.new.server out)
    stage_is (c.remove.ensures.works c.args.readings.now h rest v)

pub returns-in-ToDescribe-clause-works : goal.returns-in-ToDescribe-clause-works
returns-in-ToDescribe-clause-works c = λ h rest v.
    let out = emission_if c.describe.result c.describe.new.reply in
    let room = c.stage.inside in
    let stage_is : ToDescribe ≡ c.args.task.now.stage =
    ap (λ (step : Step). stage_of step room.found room.seen room.answer) (sym c.in-ToDescribe.is) ∙ c.stage.view_is in
    subst (λ (st : Stage). Worked c.args.readings.now h (length rest) st c.args.task.now.job.origin.slot c.args.now c.describe.new.server out)
    stage_is (c.describe.ensures.works c.args.readings.now h rest v)

pub returns-in-ToList-clause-works : goal.returns-in-ToList-clause-works
returns-in-ToList-clause-works c = λ h rest v.
    let out = emission_if c.discover.result c.discover.new.reply in
    let room = c.stage.inside in
    let stage_is : ToList room.seen ≡ c.args.task.now.stage =
    ap (λ (step : Step). stage_of step room.found room.seen room.answer) (sym c.in-ToList.is) ∙ c.stage.view_is in
    subst (λ (st : Stage). Worked c.args.readings.now h (length rest) st c.args.task.now.job.origin.slot c.args.now c.discover.new.server out)
    stage_is (c.discover.ensures.works room.seen c.args.readings.now h rest v)

pub respond-requires : goal.respond-requires
respond-requires c = at_work c.requires.rest c.requires.serves

pub returns-in_default-clause-works : goal.returns-in_default-clause-works
returns-in_default-clause-works c = λ h rest v.
    let n = c.in_default in
    let room = c.stage.inside in
    let all = rest ++ c.respond.new.task ∷ [] in
    let out = emission_if c.respond.result c.respond.new.reply in
    let task = c.args.task.now in
    let at_once = subst (λ (st : Stage). worked c.args.readings.now st task.job.origin.slot (length rest) true c.args.now out h
    ≡ next h (Answer (length rest) c.args.now) out) c.stage.view_is
    (worked_at_once c.args.readings.now room.step room.found room.seen room.answer task.job.origin.slot (length rest) true c.args.now out h
    n.not-ToMatch n.not-ToTake n.not-ToInstall n.not-ToRemove n.not-ToDescribe n.not-ToList) in
    let done = answered_on rest v c.args.now out c.respond.ensures in
    record { memory = true; tasks = all; serves = subst (λ (x : History). Serves x c.respond.new.self all) (sym at_once) done }

pub returns-in_default-clause-job : goal.returns-in_default-clause-job
returns-in_default-clause-job c = kept_by_answer c.respond.ensures
