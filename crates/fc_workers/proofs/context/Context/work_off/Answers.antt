use Rattle.std.proofs.Common.{subst, sym}
use Rattle.fc_core.specs.Stage.{Stage}
use Rattle.fc_workers.specs.Views.{worker_view}
use Rattle.fc_workers.specs.Steps.{IsReady, Walked}
use Rattle.fc_workers.proofs.Steps.{sets_out}
use Rattle.fc_workers.proofs.context.Context.work_off.Goals as goal

pub work_on-requires-clause-ready : goal.work_on-requires-clause-ready
work_on-requires-clause-ready g c =
    let s = (worker_view g.B.Bench.changes g.B.Bench.ended g.B.Bench.called g.B.Bench.logged
    g.M.TimeSource.is_time g.M.TimeSource.is_random g.G.Gate.passed g.G.Gate.answered g.W.Wire.called) in
    let begun = sets_out s c.args.number c.args.job.now c.args.share.now in
    subst (λ (x : Stage). IsReady c.args.job.now x) (sym c.ask.ensures) begun.ready

pub returns-clause-worked : goal.returns-clause-worked
returns-clause-worked g c =
    let s = (worker_view g.B.Bench.changes g.B.Bench.ended g.B.Bench.called g.B.Bench.logged
    g.M.TimeSource.is_time g.M.TimeSource.is_random g.G.Gate.passed g.G.Gate.answered g.W.Wire.called) in
    let share = c.args.share.now in
    c.work_on.ensures.worked share (subst (λ (x : Stage). Walked s c.args.number c.args.job.now x share share) (sym c.ask.ensures)
    (sets_out s c.args.number c.args.job.now share))
