use Rattle.std.proofs.Common.{Some, None, refl}
use Rattle.fc_workers.specs.Views.{worker_view}
use Rattle.fc_workers.proofs.Handled.{leased, may_ask}
use Rattle.fc_workers.proofs.dispatcher_state.DispatcherState.notify.Goals as goal

pub dispatch-requires : goal.dispatch-requires
dispatch-requires g c =
    let s = (worker_view g.B.Bench.changes g.B.Bench.ended g.B.Bench.called g.B.Bench.logged
    g.M.TimeSource.is_time g.M.TimeSource.is_random g.G.Gate.passed g.G.Gate.answered g.W.Wire.called) in
    record { produced = leased g.B.Book.ServerName.first_job c.args.self.now.keys s g.B.Bench.files c.args.shard c.args.now (Some c.next_due-given.new.job) c.next_due-given.new.job c.args.self.now.done.share.log c.next_due-given.new.log refl c.if-given.ensures.logged c.requires.ready }

pub returns-else-given-clause-ready : goal.returns-else-given-clause-ready
returns-else-given-clause-ready g c =
    let s = (worker_view g.B.Bench.changes g.B.Bench.ended g.B.Bench.called g.B.Bench.logged
    g.M.TimeSource.is_time g.M.TimeSource.is_random g.G.Gate.passed g.G.Gate.answered g.W.Wire.called) in
    may_ask g.B.Book.ServerName.first_job c.args.self.now.keys s g.B.Bench.files c.args.shard c.args.now None c.args.self.now.done.share.log c.next_due-given.new.log refl c.if-given.ensures.logged c.requires.ready
