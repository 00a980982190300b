-- The tracks of the thread that produces a server's jobs: each is right, and their keys are in
-- order.
use Rattle.std.specs.Prelude.{◌≡◌, ℕ, ◌+◌, [], length}
use Rattle.fc_book.specs.Tracks.{entries_of, without_first}
use Rattle.fc_ticket.specs.declared.job.Job.{Job}
use Rattle.fc_linear.specs.Parts.{HaveNextNumbers}
use Rattle.fc_filed.specs.Threads.{HasJobFirst, HasOwnTrack, key_of_first}
use Rattle.fc_backend.specs.RightTracks.{HasRightJobs, FilesFrom, brought_in}
use Rattle.fc_backend.specs.Logs.{TrackedLog}
use Rattle.fc_backend.specs.Messages.{IsNewJob, first_brought, first_tracked}

-- each job's track that the thread has is right for its job. The thread has produced its jobs in
-- the order of their keys. Its calls for jobs are on tracks from that of the server's first job on.
pub record HasRightOrder (first_job : ℕ) (log : TrackedLog) : Type 0 where
  pub own : HasOwnTrack first_job log.who log.tracks
  pub right : HasRightJobs first_job log.tracks
  pub numbered : HaveNextNumbers 0 (brought_in (first_brought first_job) log)
  pub from : FilesFrom (first_brought first_job) log

-- the key of the track of the next job that the thread produces.
abbrev pub next_brought : ℕ → TrackedLog → ℕ
next_brought first_job log = first_brought first_job + length (brought_in (first_brought first_job) log)

-- the thread may produce a job: its first track is the next job's, and has no entry. The second
-- track is another job's, or the thread's empty one. The next track to begin has the key after the
-- first one's.
pub record MayProduce (first_job upcoming : ℕ) (log : TrackedLog) : Type 0 where
  pub order : HasRightOrder first_job log
  pub key : key_of_first log.tracks.own ≡ next_brought first_job log
  pub empty : entries_of log.tracks.own ≡ []
  pub rest : HasJobFirst first_job (without_first log.tracks)
  pub next : upcoming ≡ next_brought first_job log + 1

-- the thread has produced this job, whose track is first, and has filed nothing for it since.
pub record HasProduced (first_job upcoming : ℕ) (job : Job) (log : TrackedLog) : Type 0 where
  pub order : HasRightOrder first_job log
  pub new : IsNewJob first_job (first_tracked job log)
  pub rest : HasJobFirst first_job (without_first log.tracks)
  pub next : upcoming ≡ next_brought first_job log

-- the thread has sent or ended each job that it produced. The track of the next job hasn't begun.
pub record HasDispatched (first_job upcoming : ℕ) (log : TrackedLog) : Type 0 where
  pub order : HasRightOrder first_job log
  pub first : HasJobFirst first_job log.tracks
  pub next : upcoming ≡ next_brought first_job log

-- the thread's tracks are right, and it has produced no job.
pub record IsRightWorker (first_job : ℕ) (log : TrackedLog) : Type 0 where
  pub order : HasRightOrder first_job log
  pub none : brought_in (first_brought first_job) log ≡ []
