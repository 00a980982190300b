use Rattle.std.proofs.Common.{◌≡◌, ℕ, Bool, true, max, Option, None, Some, [], ◌∷◌, ◌++◌, length, refl, sym, ap, subst, ◌∙◌}
use Rattle.std.specs.Prelude.{is_some}
use Rattle.coap_msg.specs.declared.types.Emission.{Emission}
use Rattle.fc_core.specs.Stage.{Stage, ToTell}
use Rattle.fc_core.specs.declared.stage.Task.{Task}
use Rattle.fc_core.specs.TurnStage as turns
use Rattle.fc_front.specs.Exchanges.{FrontState}
use Rattle.fc_front.specs.Ids.{free_id}
use Rattle.fc_front.specs.Receiving.{emission_if}
use Rattle.fc_core.specs.Stages.{drew, needs_id}
use Rattle.fc_registry.specs.Shards.{slot_in_shards}
use Rattle.fc_server.specs.Serving.{Turned}
use Rattle.fc_server.proofs.GivenTurns.{has_drawn, is_there, is_told, stage_taken}
use Rattle.fc_server.proofs.Served.{at_work, drew_on, given_up_on, noted_on, took_on}
use Rattle.fc_server.proofs.engine.tell.Goals as goal

pub fresh-requires : goal.fresh-requires
fresh-requires c =
    let rest = c.requires.begun.rest in
    at_work rest (took_on rest c.requires.begun.serves c.take.result _ (c.take.ensures (length rest)))

pub note-sent-requires : goal.note-sent-requires
note-sent-requires c =
    let rest = c.requires.begun.rest in
    let took = took_on rest c.requires.begun.serves c.take.result _ (c.take.ensures (length rest)) in
    at_work rest (drew_on rest took c.args.now c.fresh.ensures)

pub give_up-requires : goal.give_up-requires
give_up-requires c =
    let rest = c.requires.begun.rest in
    let took = took_on rest c.requires.begun.serves c.take.result _ (c.take.ensures (length rest)) in
    let drew = drew_on rest took c.args.now c.fresh.ensures in
    at_work rest (noted_on rest drew c.args.now c.args.random (emission_if c.note-sent.result c.note-sent.new.emission) (c.note-sent.ensures (length rest)))

-- if a lease still needs a message ID after its draw, none was available.
draw_failed : (free : Option ℕ) (st : Stage) → needs_id (drew free st) ≡ true → free ≡ None
draw_failed None st is = refl
draw_failed (Some id) (ToTell turn (turns.ToDraw found)) is = absurd (cc)
draw_failed (Some id) (ToTell turn other) is = absurd (cc)
draw_failed (Some id) other is = absurd (cc)

pub returns-clause-starved : goal.returns-clause-starved
returns-clause-starved c = λ is.
    let after = c.fresh.new.task in
    let needs = sym c.needs_id-starved.ensures ∙ c.notify_outcome.ensures.starved c.note-sent.new.emission is in
    let drawn = draw_failed _ c.take.new.task.stage (subst (λ (t : Task). needs_id t.stage ≡ true) c.fresh.ensures.task_is needs) in
    subst (λ (f : FrontState). free_id f.ids (max f.now c.args.now) ≡ None) (c.take.ensures 0).front drawn

pub returns-clause-turns : goal.returns-clause-turns
returns-clause-turns c = λ h rest v.
    let took = took_on rest v c.take.result _ (c.take.ensures (length rest)) in
    let drew = drew_on rest took c.args.now c.fresh.ensures in
    let noted = noted_on rest drew c.args.now c.args.random (emission_if c.note-sent.result c.note-sent.new.emission) (c.note-sent.ensures (length rest)) in
    let up = given_up_on rest noted c.args.now (c.give_up.ensures (length rest)) in
    subst (λ (out : Option Emission). Turned c.args.readings.now h (length rest) c.args.now c.args.random c.give_up.new.self out) (sym (c.notify_outcome.ensures.sent c.note-sent.new.emission)) (record { memory = c.take.result; tasks = rest ++ c.give_up.new.task ∷ []; serves = up })

-- if nothing is sent although a message ID was available, the slot isn't empty. Otherwise the lease
-- would have notified.
pub returns-clause-unsent : goal.returns-clause-unsent
returns-clause-unsent c = λ is.
    let rest = c.requires.begun.rest in
    let v = c.requires.begun.serves in
    let took = c.take.ensures 0 in
    let drew = c.fresh.ensures in
    let no = c.notify_outcome.ensures.unsent c.note-sent.new.emission is in
    let work = at_work rest v in
    is_there (slot_in_shards c.args.server.now.shards c.args.task.now.job.origin.slot).present (λ none.
    let o = c.requires.out in
    let are = v.agrees.shards.are in
    let found = stage_taken 0 c.args.now c.args.random c.take.result c.args.readings.now c.args.server.now c.args.task.now o are work.slot none in
    let drawn = has_drawn 0 c.args.now c.args.random c.take.result c.args.readings.now c.args.server.now c.args.task.now o are work.slot none _ c.take.new.task.stage
    (ap (λ (t : Task). t.stage) took.task_is ∙ found)
    (ap (λ (t : Task). needs_id t.stage) (sym drew.task_is) ∙ sym c.needs_id-starved.ensures ∙ no.1) in
    let told = is_told 0 c.args.now c.args.random c.take.result c.args.readings.now c.args.server.now c.args.task.now o are work.slot none c.fresh.new.self c.fresh.new.task drawn.0
    (drew.shards ∙ took.shards)
    (ap (λ (t : Task). t.job) drew.task_is ∙ ap (λ (t : Task). t.job) took.task_is)
    (ap (λ (t : Task). t.stage) drew.task_is ∙ drawn.1) in
    let silent = ap is_some (sym (c.note-sent.ensures 0).emits ∙ ap (λ (b : Bool). emission_if b c.note-sent.new.emission) no.0) in
    absurd (cc (told, silent)))
