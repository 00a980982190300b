-- The statistics of a worker that has a log with tracks.
use Rattle.fc_backend.specs.declared.share.Share.{Share as ShareWith}
use Rattle.fc_backend.specs.Logs.{TrackedLog}
use Rattle.fc_backend.specs.Messages.{TrackedJob}
use Rattle.fc_jobs.specs.Ends.{Got}

-- the statistics of a worker, as contracts see them.
abbrev pub Share : Type 0 → Type 0
Share T = ShareWith T TrackedLog TrackedJob

-- the statistics of a worker that hasn't begun.
abbrev pub new_share : {T : Type 0} → Got TrackedJob → T → TrackedLog → Share T
new_share got tallies log = record { tallies = tallies; log = log; got = got; sent = 0; failed = 0; refusals = 0; overtakings = 0 }
