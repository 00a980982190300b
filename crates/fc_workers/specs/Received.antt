-- The tracks of a worker that runs the jobs that it receives.
use Rattle.std.specs.Prelude.{◌≡◌, ℕ}
use Rattle.fc_book.specs.Tracks.{HasKey}
use Rattle.fc_filed.specs.Threads.{HasOwnTrack}
use Rattle.fc_backend.specs.RightTracks.{HasRightJobs, FilesFrom, brought_in}
use Rattle.fc_backend.specs.Logs.{TrackedLog}
use Rattle.fc_backend.specs.Messages.{first_brought}

-- the worker still has its own track and each track that it had, and may begin tracks as before.
-- Each job's track that it has is right for its job. It has produced no further job. If its entries
-- for jobs had keys from that of the first job on, they still do.
pub record KeepsRightJobs (first_job : ℕ) (before after : TrackedLog) : Type 0 where
  pub who : after.who ≡ before.who
  pub own : HasOwnTrack first_job after.who after.tracks
  pub kept : (k : ℕ) → HasKey k before.tracks.own → HasKey k after.tracks.own
  pub may_begin : after.tracks.may_begin ≡ before.tracks.may_begin
  pub right : HasRightJobs first_job after.tracks
  pub none : (first : ℕ) → brought_in first after ≡ brought_in first before
  pub from : FilesFrom (first_brought first_job) before → FilesFrom (first_brought first_job) after
