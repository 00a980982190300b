use Rattle.fc_workers.specs.Views.{worker_view}
use Rattle.fc_workers.proofs.Handled.{may_signals}
use Rattle.fc_workers.proofs.dispatcher_state.DispatcherState.signal.Goals as goal

pub returns-clause-ready : goal.returns-clause-ready
returns-clause-ready g c =
    let s = (worker_view g.B.Bench.changes g.B.Bench.ended g.B.Bench.called g.B.Bench.logged
    g.M.TimeSource.is_time g.M.TimeSource.is_random g.G.Gate.passed g.G.Gate.answered g.W.Wire.called) in
    may_signals g.B.Book.ServerName.first_job c.args.self.now.keys s g.B.Bench.files 8 c.args.from c.args.id c.args.reset c.args.self.now.done.share.log c.signal.new.log c.signal.ensures c.requires.ready
