use Rattle.fc_workers.specs.Views.{worker_view}
use Rattle.fc_workers.proofs.Filed.{bench_files}
use Rattle.fc_workers.proofs.Producing.{worked_here}
use Rattle.fc_workers.proofs.dispatcher_state.DispatcherState.work.Goals as goal

pub returns-clause-right : goal.returns-clause-right
returns-clause-right g c =
    let s = (worker_view g.B.Bench.changes g.B.Bench.ended g.B.Bench.called g.B.Bench.logged
    g.M.TimeSource.is_time g.M.TimeSource.is_random g.G.Gate.passed g.G.Gate.answered g.W.Wire.called) in
    worked_here g.B.Book.ServerName.first_job c.args.self.now.keys c.args.self.now.job s
    (bench_files g.B.Bench.changes g.B.Bench.ended g.B.Bench.called g.B.Bench.logged g.M.TimeSource.is_time g.M.TimeSource.is_random g.G.Gate.passed g.G.Gate.answered g.W.Wire.called g.B.Bench.files)
    18446744073709551615 c.args.self.now.done.share c.work.new.share c.requires.produced c.work.ensures.worked
