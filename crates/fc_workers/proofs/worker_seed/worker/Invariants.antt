use Rattle.std.proofs.Common.{◌≡◌}
use Rattle.fc_workers.specs.Views.{worker_view}
use Rattle.fc_workers.specs.Shares.{HasEnded}
use Rattle.fc_workers.proofs.worker_seed.worker.Given as goal

abbrev pub invariant-loop : goal.invariant-loop
invariant-loop g l = (goal.iterator-loop g).can_next l.iterator' × (goal.iterator-loop g).is_finite l.iterator' × (l.share.got.channel ≡ l.jobs) × HasEnded
    g.B.Book.ServerName.first_job (worker_view g.B.Bench.changes g.B.Bench.ended g.B.Bench.called g.B.Bench.logged
    g.M.TimeSource.is_time g.M.TimeSource.is_random g.G.Gate.passed g.G.Gate.answered g.W.Wire.called) l.initial.share l.share
