use Rattle.fc_workers.specs.Views.{worker_view}
use Rattle.fc_workers.proofs.Handled.{may_resend}
use Rattle.fc_workers.proofs.dispatcher.Dispatcher.resend.Goals as goal

pub invariant_of-self : goal.invariant_of-self
invariant_of-self g c =
    let s = (worker_view g.B.Bench.changes g.B.Bench.ended g.B.Bench.called g.B.Bench.logged
    g.M.TimeSource.is_time g.M.TimeSource.is_random g.G.Gate.passed g.G.Gate.answered g.W.Wire.called) in
    may_resend g.B.Book.ServerName.first_job c.self.inside.state.keys s g.B.Bench.files c.args.shard c.args.now c.tick_shard.result c.self.inside.state.done.share.log c.tick_shard.new.log c.tick_shard.ensures.logged c.self.invariant
