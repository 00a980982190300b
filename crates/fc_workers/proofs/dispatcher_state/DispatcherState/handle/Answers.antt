use Rattle.std.proofs.Common.{refl}
use Rattle.fc_front.specs.declared.by_value.Delivered.TheVariants as deliveries
use Rattle.fc_workers.specs.Views.{worker_view}
use Rattle.fc_workers.proofs.Handled.{delivered, may_handle}
use Rattle.fc_workers.proofs.dispatcher_state.DispatcherState.handle.Goals as goal

pub dispatch-requires : goal.dispatch-requires
dispatch-requires g c =
    let s = (worker_view g.B.Bench.changes g.B.Bench.ended g.B.Bench.called g.B.Bench.logged
    g.M.TimeSource.is_time g.M.TimeSource.is_random g.G.Gate.passed g.G.Gate.answered g.W.Wire.called) in
    record { produced = delivered g.B.Book.ServerName.first_job c.args.self.now.keys s g.B.Bench.files c.args.now c.args.from c.args.bytes.now (deliveries.Job c.handle-handled.new.job) c.handle-handled.new.job c.args.self.now.done.share.log c.handle-handled.new.log refl c.in-Job.ensures.logged c.requires.ready }

pub signal-requires : goal.signal-requires
signal-requires g c =
    let s = (worker_view g.B.Bench.changes g.B.Bench.ended g.B.Bench.called g.B.Bench.logged
    g.M.TimeSource.is_time g.M.TimeSource.is_random g.G.Gate.passed g.G.Gate.answered g.W.Wire.called) in
    record { ready = may_handle g.B.Book.ServerName.first_job c.args.self.now.keys s g.B.Bench.files c.args.now c.args.from c.args.bytes.now (deliveries.Signal c.in-Signal.mid c.in-Signal.reset) c.args.self.now.done.share.log c.handle-handled.new.log refl c.in-Signal.ensures.logged c.requires.ready }

pub returns-in-Nothing-clause-ready : goal.returns-in-Nothing-clause-ready
returns-in-Nothing-clause-ready g c =
    let s = (worker_view g.B.Bench.changes g.B.Bench.ended g.B.Bench.called g.B.Bench.logged
    g.M.TimeSource.is_time g.M.TimeSource.is_random g.G.Gate.passed g.G.Gate.answered g.W.Wire.called) in
    may_handle g.B.Book.ServerName.first_job c.args.self.now.keys s g.B.Bench.files c.args.now c.args.from c.args.bytes.now deliveries.Nothing c.args.self.now.done.share.log c.handle-handled.new.log refl c.in-Nothing.ensures.logged c.requires.ready

pub returns-in-Reply-clause-ready : goal.returns-in-Reply-clause-ready
returns-in-Reply-clause-ready g c =
    let s = (worker_view g.B.Bench.changes g.B.Bench.ended g.B.Bench.called g.B.Bench.logged
    g.M.TimeSource.is_time g.M.TimeSource.is_random g.G.Gate.passed g.G.Gate.answered g.W.Wire.called) in
    may_handle g.B.Book.ServerName.first_job c.args.self.now.keys s g.B.Bench.files c.args.now c.args.from c.args.bytes.now (deliveries.Reply c.handle-handled.new.reply) c.args.self.now.done.share.log c.handle-handled.new.log refl c.in-Reply.ensures.logged c.requires.ready
