use Rattle.std.proofs.Common.{refl}
use Rattle.fc_core.specs.Stage.{ToRemove}
use Rattle.fc_workers.specs.Views.{worker_view}
use Rattle.fc_workers.proofs.Steps.{remove_step, unsaved_step}
use Rattle.fc_workers.proofs.context.Context.remove.Goals as goal

pub returns-in-Some-clause-step : goal.returns-in-Some-clause-step
returns-in-Some-clause-step g c number =
    let s = (worker_view g.B.Bench.changes g.B.Bench.ended g.B.Bench.called g.B.Bench.logged
    g.M.TimeSource.is_time g.M.TimeSource.is_random g.G.Gate.passed g.G.Gate.answered g.W.Wire.called) in
    remove_step s number c.args.job.now c.in-Some.removal c.args.share.now c.remove.new.tallies c.remove.new.log
    c.in-Some.ensures.logged c.in-Some.ensures.removal c.in-Some.ensures.changes c.removed.ensures

pub returns-in-None-clause-step : goal.returns-in-None-clause-step
returns-in-None-clause-step g c number =
    let s = (worker_view g.B.Bench.changes g.B.Bench.ended g.B.Bench.called g.B.Bench.logged
    g.M.TimeSource.is_time g.M.TimeSource.is_random g.G.Gate.passed g.G.Gate.answered g.W.Wire.called) in
    let refused = c.in-None.ensures.refused refl in
    unsaved_step s number c.args.job.now ToRemove c.args.share.now c.remove.new.tallies c.remove.new.log tt refused c.in-None.ensures.changes c.answer_unsaved.ensures.answer c.answer_unsaved.ensures.counted
