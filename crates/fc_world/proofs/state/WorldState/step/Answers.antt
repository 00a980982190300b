use Rattle.std.proofs.Common.{None, set, sym, arith}
use Rattle.std.proofs.lemmas.Result.{IfOk-weaker}
use Rattle.fc_server.specs.Serving.{with_tasks}
use Rattle.fc_server.specs.States.{Works}
use Rattle.fc_server.specs.Steps.{Steps}
use Rattle.fc_server.proofs.Others.{past_done}
use Rattle.fc_server.proofs.Stepping.{goes_on}
use Rattle.fc_world.specs.Parts.{parts}
use Rattle.fc_world.proofs.Moving.{works_moves}
use Rattle.fc_world.proofs.state.WorldState.step.Goals as goal

pub returns-then-job-len : goal.returns-then-job-len
returns-then-job-len c = goes_on c.args.event.now (parts c.args.self.now) (parts c.args.self.now) None (past_done c.args.event.now _ c.args.self.now.server c.args.self.now.tasks.items (sym c.in-Some.ensures) (omega arith))

pub returns : goal.returns
returns c =
    let old = c.args.self.now in
    let e = c.args.event.now in
    let later = with_tasks c.work.new.self (set old.tasks.items c.in-Some.job c.work.new.task) in
    IfOk-weaker c.work.result (λ o. Works e old.server c.index_mut.result.now c.work.new.self c.work.new.task o) (λ o. Steps e (parts old) o later)
    (λ o d. goes_on e (parts old) later o
    (works_moves o e c.in-Some.job (sym c.in-Some.ensures) old.server c.work.new.self old.tasks.items c.index_mut.result.now c.work.new.task (omega arith) c.index_mut.ensures.value d))
    c.work.ensures
