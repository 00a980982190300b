use Rattle.std.proofs.Common.{true, None, ap, sym, subst, ◌∙◌}
use Rattle.fc_front.specs.declared.front.Handled.{Handled as Hearing}
use Rattle.fc_core.specs.declared.stage.Task.{Task}
use Rattle.fc_front.specs.Exchanges.{advanced}
use Rattle.fc_front.specs.Receiving.{delivered, emission_if, handled}
use Rattle.fc_server.specs.Serving.{Handles, IsBegun, WorksOff}
use Rattle.fc_server.specs.States.{ServerState}
use Rattle.fc_server.proofs.Served.{IsJobless, begun_by, handled_job, handled_on, handled_signal, reached_by, sent_by, still_served}
use Rattle.fc_server.proofs.engine.Engine.handle.Given.{Over}
use Rattle.fc_server.proofs.engine.Engine.handle.Goals as goal

handles_nothing : (g : Over) (c : goal.In-Nothing g) → Handles c.args.readings.now c.args.now c.args.endpoint c.args.bytes (delivered (advanced c.self.inside.server.front c.args.now) c.args.endpoint c.args.bytes.now) c.self.inside.server c.handle.new.self None
handles_nothing g c =
    let e = c.handle.ensures in
    let job = c.handle.new.job in
    let is = ap (λ (r : Hearing). handled r job c.handle.new.reply) c.in-Nothing.is in
    handled_on c.args.readings.now c.args.now c.args.endpoint c.args.bytes c.self.inside.server c.handle.new.self (handled c.handle.result job c.handle.new.reply) None (subst IsJobless (sym is) tt) (sym (ap sent_by is)) (sym e.delivered) e.front e.shards e.words

pub invariant_of-self : goal.invariant_of-self
invariant_of-self g c = still_served c.args.readings.now c.args.now c.args.endpoint c.args.bytes _ c.self.inside.server c.handle.new.self None c.self.invariant (handles_nothing g c)

pub returns-in-Nothing-clause-handles : goal.returns-in-Nothing-clause-handles
returns-in-Nothing-clause-handles g c = subst (λ (s : ServerState). Handles c.args.readings.now c.args.now c.args.endpoint c.args.bytes (delivered (advanced s.front c.args.now) c.args.endpoint c.args.bytes.now) s c.handle.new.self None) c.self.view_is (handles_nothing g c)

handles_reply : (g : Over) (c : goal.In-Reply g) → Handles c.args.readings.now c.args.now c.args.endpoint c.args.bytes (delivered (advanced c.self.inside.server.front c.args.now) c.args.endpoint c.args.bytes.now) c.self.inside.server c.handle.new.self (emission_if true c.handle.new.reply)
handles_reply g c =
    let e = c.handle.ensures in
    let job = c.handle.new.job in
    let is = ap (λ (r : Hearing). handled r job c.handle.new.reply) c.in-Reply.is in
    handled_on c.args.readings.now c.args.now c.args.endpoint c.args.bytes c.self.inside.server c.handle.new.self (handled c.handle.result job c.handle.new.reply) _ (subst IsJobless (sym is) tt) (sym (ap sent_by is)) (sym e.delivered) e.front e.shards e.words

pub invariant_of-self-in-Reply : goal.invariant_of-self-in-Reply
invariant_of-self-in-Reply g c = still_served c.args.readings.now c.args.now c.args.endpoint c.args.bytes _ c.self.inside.server c.handle.new.self (emission_if true c.handle.new.reply) c.self.invariant (handles_reply g c)

pub returns-in-Reply-clause-handles : goal.returns-in-Reply-clause-handles
returns-in-Reply-clause-handles g c = subst (λ (s : ServerState). Handles c.args.readings.now c.args.now c.args.endpoint c.args.bytes (delivered (advanced s.front c.args.now) c.args.endpoint c.args.bytes.now) s c.handle.new.self (emission_if true c.handle.new.reply)) c.self.view_is (handles_reply g c)

pub signal-requires : goal.signal-requires
signal-requires g c =
    let e = c.handle.ensures in
    let is = sym e.delivered ∙ ap (λ (r : Hearing). handled r c.handle.new.job c.handle.new.reply) c.in-Signal.is in
    reached_by c.args.now c.args.endpoint c.args.bytes c.self.inside.server c.handle.new.self c.in-Signal.mid c.in-Signal.reset is e.front e.shards e.words c.self.invariant

handles_signal : (g : Over) (c : goal.After-signal g) → Handles c.args.readings.now c.args.now c.args.endpoint c.args.bytes (delivered (advanced c.self.inside.server.front c.args.now) c.args.endpoint c.args.bytes.now) c.self.inside.server c.signal.new.server None
handles_signal g c =
    let e = c.handle.ensures in
    let is = sym e.delivered ∙ ap (λ (r : Hearing). handled r c.handle.new.job c.handle.new.reply) c.in-Signal.is in
    handled_signal c.args.now c.args.endpoint c.args.bytes c.self.inside.server c.handle.new.self c.in-Signal.mid c.in-Signal.reset is e.front e.shards e.words c.args.readings.now c.signal.new.server c.signal.ensures

pub invariant_of-self-in-Signal : goal.invariant_of-self-in-Signal
invariant_of-self-in-Signal g c = still_served c.args.readings.now c.args.now c.args.endpoint c.args.bytes _ c.self.inside.server c.signal.new.server None c.self.invariant (handles_signal g c)

pub returns-in-Signal-clause-handles : goal.returns-in-Signal-clause-handles
returns-in-Signal-clause-handles g c = subst (λ (s : ServerState). Handles c.args.readings.now c.args.now c.args.endpoint c.args.bytes (delivered (advanced s.front c.args.now) c.args.endpoint c.args.bytes.now) s c.signal.new.server None) c.self.view_is (handles_signal g c)

pub work_off-is_sent-requires : goal.work_off-is_sent-requires
work_off-is_sent-requires g c =
    let e = c.handle.ensures in
    let job = c.handle.new.job in
    let is = sym e.delivered ∙ ap (λ (r : Hearing). handled r job c.handle.new.reply) c.in-Job.is in
    subst (IsBegun c.handle.new.self) (sym c.begin.ensures) (begun_by c.args.now c.args.endpoint c.args.bytes c.self.inside.server c.handle.new.self job is e.front e.shards e.words c.self.invariant)

handles_job : (g : Over) (c : goal.After-show g) → Handles c.args.readings.now c.args.now c.args.endpoint c.args.bytes (delivered (advanced c.self.inside.server.front c.args.now) c.args.endpoint c.args.bytes.now) c.self.inside.server c.work_off-is_sent.new.server (emission_if c.work_off-is_sent.result c.work_off-is_sent.new.reply)
handles_job g c =
    let e = c.handle.ensures in
    let job = c.handle.new.job in
    let is = sym e.delivered ∙ ap (λ (r : Hearing). handled r job c.handle.new.reply) c.in-Job.is in
    let out = emission_if c.work_off-is_sent.result c.work_off-is_sent.new.reply in
    let works = subst (λ (t : Task). WorksOff c.args.readings.now t.stage c.args.now c.handle.new.self t c.work_off-is_sent.new.server out) c.begin.ensures c.work_off-is_sent.ensures.works in
    handled_job c.args.now c.args.endpoint c.args.bytes c.self.inside.server c.handle.new.self job is e.front e.shards e.words c.args.readings.now c.work_off-is_sent.new.server (emission_if c.work_off-is_sent.result c.work_off-is_sent.new.reply) works

pub invariant_of-self-in-Job : goal.invariant_of-self-in-Job
invariant_of-self-in-Job g c = still_served c.args.readings.now c.args.now c.args.endpoint c.args.bytes _ c.self.inside.server c.work_off-is_sent.new.server (emission_if c.work_off-is_sent.result c.work_off-is_sent.new.reply) c.self.invariant (handles_job g c)

pub returns-in-Job-clause-handles : goal.returns-in-Job-clause-handles
returns-in-Job-clause-handles g c = subst (λ (s : ServerState). Handles c.args.readings.now c.args.now c.args.endpoint c.args.bytes (delivered (advanced s.front c.args.now) c.args.endpoint c.args.bytes.now) s c.work_off-is_sent.new.server (emission_if c.work_off-is_sent.result c.work_off-is_sent.new.reply)) c.self.view_is (handles_job g c)
