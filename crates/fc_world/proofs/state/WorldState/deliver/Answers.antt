use Rattle.std.proofs.Common.{None, Some, List, [], ◌∷◌, ◌++◌, map, ap, sym, subst, ◌∙◌}
use Rattle.std.proofs.lemmas.List.{append-nil}
use Rattle.fc_front.specs.declared.by_value.Delivered.TheVariants.{Job as Brings}
use Rattle.fc_front.specs.declared.front.Handled.{Handled as Hearing}
use Rattle.fc_core.specs.declared.stage.Task.{Task}
use Rattle.fc_front.specs.Receiving.{handled}
use Rattle.fc_core.specs.Stages.{new_task}
use Rattle.fc_server.specs.Serving.{with_tasks}
use Rattle.fc_server.specs.Steps.{DeliveredTo}
use Rattle.fc_server.proofs.Served.{delivered_to, jobs_by, sent_by}
use Rattle.fc_world.proofs.state.WorldState.deliver.Goals as goal

pub returns-in_ok-push-in-Job : goal.returns-in_ok-push-in-Job
returns-in_ok-push-in-Job c =
    let old = c.args.self.now in
    let e = c.handle.ensures in
    let job = c.handle.new.job in
    let is = sym e.delivered ∙ ap (λ (r : Hearing). handled r job c.handle.new.reply) c.in-Job.is in
    let was = delivered_to c.args.now c.args.endpoint c.args.bytes.now old.server c.handle.new.self old.tasks.items (Brings job) is e.front e.shards e.words in
    subst (λ (ts : List Task). DeliveredTo c.args.now c.args.endpoint c.args.bytes.now (with_tasks old.server old.tasks.items) (with_tasks c.handle.new.self ts) None)
    (sym (c.in_ok-push-in-Job.ensures.items ∙ ap (λ (t : Task). old.tasks.items ++ t ∷ []) c.begin.ensures)) was

pub returns-in-Nothing : goal.returns-in-Nothing
returns-in-Nothing c =
    let old = c.args.self.now in
    let e = c.handle.ensures in
    let tasks = old.tasks.items in
    let job = c.handle.new.job in
    let was = delivered_to c.args.now c.args.endpoint c.args.bytes.now old.server c.handle.new.self tasks (handled c.handle.result job c.handle.new.reply) (sym e.delivered) e.front e.shards e.words in
    subst (λ (ts : List Task). DeliveredTo c.args.now c.args.endpoint c.args.bytes.now (with_tasks old.server tasks) (with_tasks c.handle.new.self ts) None) (append-nil tasks)
    (subst (λ (r : Hearing). DeliveredTo c.args.now c.args.endpoint c.args.bytes.now (with_tasks old.server tasks) (with_tasks c.handle.new.self (tasks ++ map new_task (jobs_by (handled r job c.handle.new.reply)))) (sent_by (handled r job c.handle.new.reply))) c.in-Nothing.is was)

pub returns-in-Signal : goal.returns-in-Signal
returns-in-Signal c =
    let old = c.args.self.now in
    let e = c.handle.ensures in
    let tasks = old.tasks.items in
    let job = c.handle.new.job in
    let was = delivered_to c.args.now c.args.endpoint c.args.bytes.now old.server c.handle.new.self tasks (handled c.handle.result job c.handle.new.reply) (sym e.delivered) e.front e.shards e.words in
    subst (λ (ts : List Task). DeliveredTo c.args.now c.args.endpoint c.args.bytes.now (with_tasks old.server tasks) (with_tasks c.handle.new.self ts) None) (append-nil tasks)
    (subst (λ (r : Hearing). DeliveredTo c.args.now c.args.endpoint c.args.bytes.now (with_tasks old.server tasks) (with_tasks c.handle.new.self (tasks ++ map new_task (jobs_by (handled r job c.handle.new.reply)))) (sent_by (handled r job c.handle.new.reply))) c.in-Signal.is was)

pub returns-in-Reply : goal.returns-in-Reply
returns-in-Reply c =
    let old = c.args.self.now in
    let e = c.handle.ensures in
    let tasks = old.tasks.items in
    let job = c.handle.new.job in
    let was = delivered_to c.args.now c.args.endpoint c.args.bytes.now old.server c.handle.new.self tasks (handled c.handle.result job c.handle.new.reply) (sym e.delivered) e.front e.shards e.words in
    subst (λ (ts : List Task). DeliveredTo c.args.now c.args.endpoint c.args.bytes.now (with_tasks old.server tasks) (with_tasks c.handle.new.self ts) (Some c.handle.new.reply)) (append-nil tasks)
    (subst (λ (r : Hearing). DeliveredTo c.args.now c.args.endpoint c.args.bytes.now (with_tasks old.server tasks) (with_tasks c.handle.new.self (tasks ++ map new_task (jobs_by (handled r job c.handle.new.reply)))) (sent_by (handled r job c.handle.new.reply))) c.in-Reply.is was)
