use Rattle.std.proofs.Common.{◌≡◌}
use Rattle.fc_backend.specs.Statistics.{Share}
use Rattle.fc_workers.specs.Views.{worker_view}
use Rattle.fc_workers.specs.Steps.{IsReady, Walked, calls_left}
use Rattle.fc_workers.proofs.context.Context.work_on.Given as goal

abbrev pub invariant-calls : goal.invariant-calls
invariant-calls g l =
    let s = (worker_view g.B.Bench.changes g.B.Bench.ended g.B.Bench.called g.B.Bench.logged
    g.M.TimeSource.is_time g.M.TimeSource.is_random g.G.Gate.passed g.G.Gate.answered g.W.Wire.called) in
    IsReady l.job l.scratch.stage
    × ((before : Share _) → Walked s l.number l.job l.initial.scratch.stage before l.initial.share → Walked s l.number l.job l.scratch.stage before l.share)
    × (g.B.Bench.ended l.share.tallies ≡ g.B.Bench.ended l.initial.share.tallies)

abbrev pub decreases-calls : goal.decreases-calls
decreases-calls g l = calls_left l.scratch.stage
