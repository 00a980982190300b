-- The ghost view of a worker context, and what its calls add to the worker's tracks.
use Rattle.std.specs.Prelude.{◌≡◌, ℕ, Option}
use Rattle.coap_msg.specs.declared.types.Emission.{Emission}
use Rattle.fc_ticket.specs.declared.job.Job.{Job}
use Rattle.fc_core.specs.Stage.{Stage}
use Rattle.fc_calls.specs.Logged.{LoggedCall}
use Rattle.fc_filed.specs.JobTracks.{FilesForJob}
use Rattle.fc_backend.specs.declared.call_log.CallLog.{CallLog}
use Rattle.fc_backend.specs.Called.{BenchCall, WireCall}
use Rattle.fc_backend.specs.Filed.{FilesEach, HasSameTracks}
use Rattle.fc_backend.specs.Logs.{IsUnfiled, TrackedLog}

-- the ghost view of a worker context: how a worker's tallies are read, and which calls were made.
-- The calls without a log are those of the backend that change nothing, and those for random words.
-- Each logged call leads from one state of the worker's log to the next. These are the other calls
-- of the backend, those for times, those of the gate by a job's number or by an answered job and
-- its reply, and those of the transmitter.
pub record WorkerView (T : Type 0) : Type 1 where
  pub changes : T → ℕ → ℕ
  pub ended : T → ℕ
  pub bench : BenchCall → Type 0
  pub logged : LoggedCall → TrackedLog → TrackedLog → Type 0
  pub time : ℕ → TrackedLog → TrackedLog → Type 0
  pub random : ℕ → Type 0
  pub between : ℕ → TrackedLog → TrackedLog → Type 0
  pub after_answer : Job → Option Emission → TrackedLog → TrackedLog → Type 0
  pub wire : WireCall → TrackedLog → TrackedLog → Type 0

-- the calls for times, and those of the gate and of the transmitter, are not filed.
abbrev pub worker_view : {T : Type 0} → (T → ℕ → ℕ) → (T → ℕ) → (BenchCall → Type 0) → (LoggedCall → TrackedLog → TrackedLog → Type 0) → (ℕ → CallLog → CallLog → Type 0)
    → (ℕ → Type 0) → (ℕ → CallLog → CallLog → Type 0) → (Job → Option Emission → CallLog → CallLog → Type 0) → (WireCall → CallLog → CallLog → Type 0) → WorkerView T
worker_view changes ended bench logged time random gate answered wire = record
    { changes = changes; ended = ended; bench = bench; logged = logged; time = λ now. IsUnfiled (time now); random = random; between = λ number. IsUnfiled (gate number); after_answer = λ job sent. IsUnfiled (answered job sent); wire = λ call. IsUnfiled (wire call) }

-- each logged call is filed. The calls for times, and those of the gate and of the transmitter, are
-- not.
pub record FilesCalls {T : Type 0} (s : WorkerView T) : Type 0 where
  pub logged : FilesEach s.logged
  pub time : (now : ℕ) (before after : TrackedLog) → s.time now before after → HasSameTracks before after
  pub between : (number : ℕ) (before after : TrackedLog) → s.between number before after → HasSameTracks before after
  pub after_answer : (job : Job) (sent : Option Emission) (before after : TrackedLog) → s.after_answer job sent before after → HasSameTracks before after
  pub wire : (call : WireCall) (before after : TrackedLog) → s.wire call before after → HasSameTracks before after

-- the worker has filed operations of the job whose track is first, and nothing else. They lead the
-- job from one stage to another.
pub record HasFiledFor (first_job : ℕ) (job : Job) (s t : Stage) (before after : TrackedLog) : Type 0 where
  pub who : after.who ≡ before.who
  pub files : FilesForJob first_job before.who job s t before.tracks after.tracks
