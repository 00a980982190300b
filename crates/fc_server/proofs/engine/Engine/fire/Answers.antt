use Rattle.std.proofs.Common.{◌≡◌, Bool, None, ◌++◌, ◌∷◌, [], Option, length, ap, sym, subst, ◌∙◌}
use Rattle.coap_msg.specs.declared.types.Emission.{Emission}
use Rattle.fc_core.specs.declared.event.Event.TheVariants.{Fire}
use Rattle.fc_core.specs.declared.stage.Task.{Task}
use Rattle.fc_front.specs.Exchanges.{has_exchange}
use Rattle.fc_front.specs.Receiving.{emission_if}
use Rattle.fc_core.specs.Stages.{new_task}
use Rattle.fc_front.specs.Timers.{timer_job}
use Rattle.fc_server.specs.Serving.{FiresTimer, IsBegun, Serves, next, run_through}
use Rattle.fc_server.specs.States.{ServerState}
use Rattle.fc_server.proofs.Served.{fired_begun, fired_on, fired_served}
use Rattle.fc_server.proofs.engine.Engine.fire.Goals as goal

pub run-ran-requires : goal.run-ran-requires
run-ran-requires c =
    let e = c.fire.ensures in
    let begun = c.begin.ensures ∙ ap new_task e.job in
    subst (IsBegun c.fire.new.self) (sym begun) (fired_begun c.args.slot c.args.now c.self.inside.server c.fire.new.self e.front e.shards e.words c.self.invariant)

-- the task is that of the timer's job.
begun : (c : goal.After-run-ran) → c.begin.new.self ≡ new_task (timer_job c.args.slot)
begun c = c.begin.ensures ∙ ap new_task c.fire.ensures.job

-- the run of the timer's job sends nothing.
nothing : (c : goal.After-run-ran) → emission_if c.run-ran.result.is_sent c.run-ran.new.reply ≡ None
nothing c = ap (λ (b : Bool). emission_if b c.run-ran.new.reply) (c.run-ran.ensures.unsent (ap (λ (t : Task). has_exchange t.job.origin.opening) (begun c)))

fires : (c : goal.After-run-ran) → FiresTimer c.args.readings.now c.args.slot c.args.now c.run-ran.result.has_memory c.self.inside.server c.run-ran.new.server
fires c = λ h tasks v.
    let e = c.fire.ensures in
    let fired = fired_on c.args.slot c.args.now c.self.inside.server c.fire.new.self e.front e.shards e.words h tasks v in
    let began = subst (λ (t : Task). Serves (next h (Fire c.args.slot c.args.now) None) c.fire.new.self (tasks ++ t ∷ [])) (sym (begun c)) fired in
    let ran = c.run-ran.ensures.runs (next h (Fire c.args.slot c.args.now) None) tasks began in
    record {
      tasks = ran.tasks;
      serves = subst (λ (o : Option Emission). Serves (run_through c.args.readings.now (length tasks) c.run-ran.result.has_memory c.args.now o (next h (Fire c.args.slot c.args.now) None)) c.run-ran.new.server ran.tasks) (nothing c) ran.serves;
    }

pub invariant_of-self : goal.invariant_of-self
invariant_of-self c = fired_served c.args.readings.now c.args.slot c.args.now c.run-ran.result.has_memory c.self.inside.server c.run-ran.new.server c.self.invariant (fires c)

pub returns : goal.returns
returns c = subst (λ (s : ServerState). FiresTimer c.args.readings.now c.args.slot c.args.now c.run-ran.result.has_memory s c.run-ran.new.server) c.self.view_is (fires c)
