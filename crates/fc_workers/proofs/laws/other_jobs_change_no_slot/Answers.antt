use Rattle.fc_workers.specs.Views.{worker_view}
use Rattle.fc_workers.proofs.Unchanging.{replied_keeps}
use Rattle.fc_workers.proofs.laws.other_jobs_change_no_slot.Goals as goal

pub returns : goal.returns
returns g c = replied_keeps (worker_view g.B.Bench.changes g.B.Bench.ended g.B.Bench.called g.B.Bench.logged g.M.TimeSource.is_time g.M.TimeSource.is_random g.G.Gate.passed g.G.Gate.answered g.W.Wire.called)
