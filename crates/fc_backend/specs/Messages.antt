-- Messages to workers: each has a job and the job's track.
use Rattle.std.specs.Prelude.{◌≡◌, ℕ, ◌+◌, ◌-◌, ◌≤◌, [], ◌∷◌, Some}
use Rattle.fc_book.specs.declared.view.BookView.{BookView}
use Rattle.fc_book.specs.Tracks.{merged_with, own_view, first_own, without_first}
use Rattle.fc_ticket.specs.declared.job.Job.{Job}
use Rattle.fc_linear.specs.Operations.{job_brought}
use Rattle.fc_filed.specs.declared.entry.FiledEntry.{FiledEntry}
use Rattle.fc_backend.specs.Logs.{TrackedLog}

-- a job, and the tracks of its message.
pub record TrackedJob : Type 0 where
  pub job : Job
  pub tracks : BookView FiledEntry

-- the key of the track of the first job that a server produces. `first_job` is the first key after
-- those of the threads' own tracks. The keys from `first_job` to this one belong to empty tracks,
-- one for each thread.
abbrev pub first_brought : ℕ → ℕ
first_brought first_job = first_job + (first_job - 10)

-- the message's only track is the job's. It has one entry: the call that produced the job.
pub record IsNewJob (first_job : ℕ) (m : TrackedJob) : Type 0 where
  pub key : ℕ
  pub entry : FiledEntry
  pub above : first_brought first_job ≤ key
  pub produced : job_brought entry.operation ≡ Some m.job
  pub tracks : m.tracks ≡ own_view key (entry ∷ [])

-- the log after these tracks are moved to it: they are first.
abbrev pub with_tracks : BookView FiledEntry → TrackedLog → TrackedLog
with_tracks v log = record log { tracks = merged_with log.tracks v }

-- the log after the track with this key begins: it is first, and has no entry.
abbrev pub with_new_track : ℕ → TrackedLog → TrackedLog
with_new_track key log = with_tracks (own_view key []) log

-- the job with the first track of the log.
abbrev pub first_tracked : Job → TrackedLog → TrackedJob
first_tracked job log = record { job = job; tracks = first_own log.tracks }

-- the log after its first track is moved to a message.
abbrev pub without_job : TrackedLog → TrackedLog
without_job log = record log { tracks = without_first log.tracks }
