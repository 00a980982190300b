-- The tracks of jobs in the logs of threads: when they are right, and which thread produced the
-- jobs. The number of a job is its key minus that of the first job.
use Rattle.std.specs.Prelude.{◌≡◌, ◌≢◌, ℕ, ◌+◌, ◌≤◌, true, List, [], None, length}
use Rattle.std.specs.List.{All, Any}
use Rattle.fc_book.specs.declared.view.BookView.{BookView}
use Rattle.fc_book.specs.Tracks.{HasKey, entries_at}
use Rattle.fc_calls.specs.Logged.{FiresTimer}
use Rattle.fc_linear.specs.Operations.{LogEntry, Logged}
use Rattle.fc_linear.specs.Parts.{HaveNextNumbers, bringing}
use Rattle.fc_filed.specs.declared.entry.FiledEntry.{FiledEntry}
use Rattle.fc_filed.specs.Books.{IsRightForJob}
use Rattle.fc_filed.specs.Entries.{is_of_job, log_of}
use Rattle.fc_backend.specs.Logs.{TrackedLog}

-- the calls that a thread filed, oldest first: the entries on its own track.
abbrev pub filed_in : TrackedLog → List FiledEntry
filed_in log = entries_at log.who log.tracks.own

-- each job's track that the owner has is right for its job.
abbrev pub HasRightJobs : ℕ → BookView FiledEntry → Type 0
HasRightJobs first_job v = (k : ℕ) → first_job ≤ k → HasKey k v.own → IsRightForJob first_job (entries_at k v.own)

-- a call for a job is filed on a track with a key from `first` on.
abbrev pub IsFrom : ℕ → FiledEntry → Type 0
IsFrom first e = is_of_job e.operation ≡ true → first ≤ e.job

-- each call for a job that the thread filed is on such a track.
abbrev pub FilesFrom : ℕ → TrackedLog → Type 0
FilesFrom first log = All (IsFrom first) (filed_in log)

-- the thread's entries that produce a job; the first job's track has this key.
abbrev pub brought_in : ℕ → TrackedLog → List LogEntry
brought_in first log = bringing (log_of first (filed_in log))

-- the thread with key `dispatcher` produced its jobs in the order of their keys, from `first` on.
-- Any other thread has produced none.
pub record BringsInOrder (first dispatcher : ℕ) (log : TrackedLog) : Type 0 where
  pub own : log.who ≡ dispatcher → HaveNextNumbers 0 (brought_in first log)
  pub none : log.who ≢ dispatcher → brought_in first log ≡ []

-- the tracks of jobs in these logs are right. Each is right for its job, and no call is filed on
-- one with a key below `first`. One thread has produced all jobs, in the order of their keys.
pub record HaveRightTracks (first : ℕ) (logs : List TrackedLog) : Type 0 where
  pub above : 10 + length logs ≤ first
  pub jobs : All (λ (log : TrackedLog). HasRightJobs (10 + length logs) log.tracks) logs
  pub from : All (FilesFrom first) logs
  pub dispatcher : ℕ
  pub has_log : Any (λ (log : TrackedLog). log.who ≡ dispatcher) logs
  pub brought : All (BringsInOrder first dispatcher) logs

-- the entry of a timer that fired at time 0: the call is by thread 10, and the job has this key.
abbrev pub timer_entry : ℕ → ℕ → FiledEntry
timer_entry job slot = record { who = 10; job = job; operation = Logged (FiresTimer slot 0); save = None }
