use Rattle.fc_workers.proofs.Filed.{bench_files, right_after}
use Rattle.fc_workers.proofs.laws.worked_jobs_have_right_tracks.Goals as goal

pub returns : goal.returns
returns g c first_job number job before after own at right replied = right_after first_job job _
    (bench_files g.B.Bench.changes g.B.Bench.ended g.B.Bench.called g.B.Bench.logged g.M.TimeSource.is_time g.M.TimeSource.is_random g.G.Gate.passed g.G.Gate.answered g.W.Wire.called g.B.Bench.files)
    number before after own at right replied
