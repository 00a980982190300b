use Rattle.std.proofs.Common.{◌≤◌}
use Rattle.fc_workers.specs.Views.{worker_view}
use Rattle.fc_workers.specs.Dispatch.{AreSignalled}
use Rattle.fc_workers.proofs.context.Context.signal.Given as goal

abbrev pub invariant-shards : goal.invariant-shards
invariant-shards g l = (l.shard ≤ 8) × AreSignalled
    (worker_view g.B.Bench.changes g.B.Bench.ended g.B.Bench.called g.B.Bench.logged g.M.TimeSource.is_time g.M.TimeSource.is_random g.G.Gate.passed g.G.Gate.answered g.W.Wire.called)
    l.shard l.from l.id l.reset l.initial.log l.log
