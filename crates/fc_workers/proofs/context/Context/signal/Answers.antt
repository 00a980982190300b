use Rattle.std.proofs.Common.{arith}
use Rattle.fc_workers.specs.Views.{worker_view}
use Rattle.fc_workers.proofs.Signals.{no_signals, signals_on}
use Rattle.fc_workers.proofs.context.Context.signal.Goals as goal

pub shards-init : goal.shards-init
shards-init g c = (
  omega arith,
  no_signals (worker_view g.B.Bench.changes g.B.Bench.ended g.B.Bench.called g.B.Bench.logged g.M.TimeSource.is_time g.M.TimeSource.is_random g.G.Gate.passed g.G.Gate.answered g.W.Wire.called)
      c.args.from c.args.id c.args.reset c.args.log.now,
)

pub shards-preserved : goal.shards-preserved
shards-preserved g c = (
  omega (arith, c.shards-test.true),
  signals_on (worker_view g.B.Bench.changes g.B.Bench.ended g.B.Bench.called g.B.Bench.logged g.M.TimeSource.is_time g.M.TimeSource.is_random g.G.Gate.passed g.G.Gate.answered g.W.Wire.called)
      c.shards.shard c.args.from c.args.id c.args.reset c.args.log.now c.shards.log c.signal.new.log c.shards.invariant.1 c.signal.ensures,
)
