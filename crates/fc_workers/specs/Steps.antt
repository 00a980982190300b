-- One step of a job, in the form of the worker's loop invariant.
use Rattle.std.specs.Prelude.{◌≡◌, ℕ, ◌+◌, ◌*◌, ◌-◌, ◌<◌, ◌≤◌, List, [], ◌∷◌, ◌++◌, length, None}
use Rattle.fc_ticket.specs.declared.job.Ask.{Ask}
use Rattle.fc_ticket.specs.declared.job.Ask.TheVariants.{Run}
use Rattle.fc_ticket.specs.declared.job.Job.{Job}
use Rattle.fc_core.specs.Stage.{Stage}
use Rattle.fc_core.specs.Stage.{ToMatch, ToTake, ToCommit, ToInstall, ToRemove, ToDescribe, ToList, ToRaise, ToAnswer, ToTell, Gone}
use Rattle.fc_front.specs.Contents.{IsOf}
use Rattle.fc_core.specs.Stages.{snapshots}
use Rattle.fc_core.specs.Steps.{Call, next_stage}
use Rattle.fc_backend.specs.Statistics.{Share}
use Rattle.fc_backend.specs.Logs.{TrackedLog}
use Rattle.fc_calls.specs.Logged.{LoggedCall, LooksAt}
use Rattle.fc_workers.specs.Views.{WorkerView}
use Rattle.fc_workers.specs.Work.{AreCalls, HasCounted, IsCallAt, stage_after, snapshots_made, total}

-- the job requests a run.
abbrev pub AsksRun : Ask → Type 0
AsksRun (Run request) = Unit {0}
AsksRun other = ⊥

-- a request for a run, without ETags. Its first step is a snapshot.
pub record IsPlainRun (job : Job) : Type 0 where
  pub request : job.turn ≡ None
  pub run : AsksRun job.ask
  pub no_etags : job.etags.items ≡ []

-- the stage of a request's job that hasn't ended. A job whose next step is a snapshot may take one
-- more. A ticket or an answer belongs to the job. A job that lists head words has at least one left
-- to read.
abbrev pub IsReady : Job → Stage → Type 0
IsReady job (ToTake n) = n < snapshots
IsReady job (ToCommit n t) = (n ≤ snapshots) × (t.origin ≡ job.origin)
IsReady job ToMatch = Unit {0}
IsReady job ToInstall = Unit {0}
IsReady job ToRemove = Unit {0}
IsReady job ToDescribe = Unit {0}
IsReady job (ToList seen) = length seen.items < 64
IsReady job (ToRaise word content) = IsOf job content
IsReady job (ToAnswer content) = IsOf job content
IsReady job (ToTell turn needs) = ⊥
IsReady job Gone = ⊥

-- an upper bound on the number of calls that a job at this stage still makes.
abbrev pub calls_left : Stage → ℕ
calls_left (ToTake n) = 2 * (snapshots - n) + 2
calls_left (ToCommit n t) = 2 * (snapshots - n) + 3
calls_left ToMatch = 2 * snapshots + 3
calls_left ToInstall = 2
calls_left ToRemove = 2
calls_left ToDescribe = 1
calls_left (ToList seen) = 64 - length seen.items
calls_left (ToRaise word content) = 1
calls_left other = 0

-- an upper bound on the number of snapshots that led to this stage.
abbrev pub taken_at : Stage → ℕ
taken_at ToMatch = 0
taken_at (ToTake n) = n
taken_at (ToCommit n t) = n
taken_at other = snapshots

-- the new stage can follow a call that takes this number of snapshots at the old stage. The job is
-- ready for the new stage, and has fewer calls left.
pub record Follows (job : Job) (old : Stage) (takes : ℕ) (new : Stage) : Type 0 where
  pub ready : IsReady job new
  pub fewer : calls_left new < calls_left old
  pub few : taken_at old + takes ≤ taken_at new

-- one call for the job with this number leads from the old stage and statistics to the new ones.
pub record IsStep {T : Type 0} (s : WorkerView T) (number : ℕ) (job : Job) (old new : Stage) (before after : Share T) : Type 0 where
  pub call : Call
  pub is : IsCallAt s number job old call before.log after.log
  pub next : new ≡ next_stage call
  pub follows : Follows job old (snapshots_made call) new
  pub counted : HasCounted s job.origin.slot (call ∷ []) before after

-- calls for the job with this number led it from its first stage to this stage, and the worker from
-- the statistics `before` to `now`.
pub record Walked {T : Type 0} (s : WorkerView T) (number : ℕ) (job : Job) (stage : Stage) (before now : Share T) : Type 0 where
  pub calls : List Call
  pub are : AreCalls s number job calls before.log now.log
  pub stands : stage ≡ stage_after job calls
  pub ready : IsReady job stage
  pub few : total snapshots_made calls ≤ taken_at stage
  pub counted : HasCounted s job.origin.slot calls before now

-- the job's next step is a snapshot.
abbrev pub IsToTake : Stage → Type 0
IsToTake (ToTake n) = Unit {0}
IsToTake other = ⊥

-- the job's next step is a commit.
abbrev pub IsToCommit : Stage → Type 0
IsToCommit (ToCommit n t) = Unit {0}
IsToCommit other = ⊥

-- a snapshot led to this stage: the job's next step is the commit of a ticket whose program's cost
-- is below this number of steps, or an answer.
abbrev pub IsCheapAt : ℕ → Stage → Type 0
IsCheapAt least (ToCommit n t) = t.found.program.cost < least
IsCheapAt least (ToAnswer content) = Unit {0}
IsCheapAt least other = ⊥

-- the job's next step is an answer that belongs to the job.
abbrev pub IsToAnswer : Job → Stage → Type 0
IsToAnswer job (ToAnswer content) = IsOf job content
IsToAnswer job other = ⊥

-- these words were read in order: those of slot n and of the slots after it. The log has no other
-- call.
abbrev pub AreSeen : (LoggedCall → TrackedLog → TrackedLog → Type 0) → ℕ → List ℕ → TrackedLog → TrackedLog → Type 0
AreSeen Logged n [] before after = after ≡ before
AreSeen Logged n (word ∷ words) before after = (next : TrackedLog) × Logged (LooksAt n word) before next × AreSeen Logged (n + 1) words next after

-- `words` has the head words of all slots. Those in `seen` were read before, and the others, at
-- least one, are read now.
pub record ListsOn (Logged : LoggedCall → TrackedLog → TrackedLog → Type 0) (seen words : List ℕ) (before after : TrackedLog) : Type 0 where
  pub more : List ℕ
  pub looks : AreSeen Logged (length seen) more before after
  pub some : 0 < length more
  pub are : words ≡ seen ++ more
  pub all : length words ≡ 64
