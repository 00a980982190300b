use Rattle.fc_workers.specs.Views.{worker_view}
use Rattle.fc_workers.proofs.Handled.{may_tick}
use Rattle.fc_workers.proofs.dispatcher.Dispatcher.tick.Goals as goal

pub invariant_of-self : goal.invariant_of-self
invariant_of-self g c =
    let s = (worker_view g.B.Bench.changes g.B.Bench.ended g.B.Bench.called g.B.Bench.logged
    g.M.TimeSource.is_time g.M.TimeSource.is_random g.G.Gate.passed g.G.Gate.answered g.W.Wire.called) in
    may_tick g.B.Book.ServerName.first_job c.self.inside.state.keys s g.B.Bench.files c.args.now c.self.inside.state.done.share.log c.tick.new.log c.tick.ensures c.self.invariant
