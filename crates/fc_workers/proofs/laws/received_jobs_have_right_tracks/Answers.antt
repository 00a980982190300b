use Rattle.fc_workers.proofs.Filed.{bench_files}
use Rattle.fc_workers.proofs.Received.{received_all, received_kept}
use Rattle.fc_workers.proofs.laws.received_jobs_have_right_tracks.Goals as goal

pub returns-clause-kept : goal.returns-clause-kept
returns-clause-kept g c = λ first_job jobs before after own right worked. received_kept first_job _
    (bench_files g.B.Bench.changes g.B.Bench.ended g.B.Bench.called g.B.Bench.logged g.M.TimeSource.is_time g.M.TimeSource.is_random g.G.Gate.passed g.G.Gate.answered g.W.Wire.called g.B.Bench.files)
    jobs before after worked own right

pub returns-clause-received : goal.returns-clause-received
returns-clause-received g c = λ first_job jobs before after own right worked. received_all first_job _
    (bench_files g.B.Bench.changes g.B.Bench.ended g.B.Bench.called g.B.Bench.logged g.M.TimeSource.is_time g.M.TimeSource.is_random g.G.Gate.passed g.G.Gate.answered g.W.Wire.called g.B.Bench.files)
    jobs before after worked own right
