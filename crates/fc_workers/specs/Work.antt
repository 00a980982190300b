-- The effect of a job on a server that other jobs change too: a list of calls, the newest first.
-- Each call is the one that the job's stage needs, with a result that some slot gives. Each call
-- continues the worker's log from its state after the call before. So the log has no other calls.
use Rattle.std.specs.Prelude.{◌≡◌, ◌⊎◌, ℕ, ◌+◌, ◌<◌, ◌≤◌, true, List, [], ◌∷◌, length, Option, Some, None}
use Rattle.coap_msg.specs.declared.types.Emission.{Emission}
use Rattle.fc_isa.specs.declared.rule.Fault.{Fault}
use Rattle.fc_kinds.specs.Meaning.{Program}
use Rattle.fc_verify.specs.Accepted.{Accepts}
use Rattle.fc_verify.specs.Judged.{judged}
use Rattle.fc_verify.specs.Refusals.{IsRefusal}
use Rattle.fc_verify.specs.declared.refusal.Refusal.TheVariants.{Broken, NoMemory}
use Rattle.fc_observe.specs.declared.entry.Turn.{Turn}
use Rattle.fc_ticket.specs.declared.job.Job.{Job}
use Rattle.fc_registry.specs.declared.commit.Committed.{Committed}
use Rattle.fc_ticket.specs.Taken.{Taken}
use Rattle.fc_registry.specs.Calls.{commit_of, turn_of, wants}
use Rattle.fc_ticket.specs.Runs.{run_of, initial_vars_of}
use Rattle.fc_registry.specs.Changes.{Committed as Wrote, Installed, Removed}
use Rattle.fc_ticket.specs.Tickets.{Ticket}
use Rattle.fc_core.specs.Stage.{Stage}
use Rattle.fc_core.specs.Stage.{ToAnswer, ToCommit, ToRemove}
use Rattle.fc_front.specs.Contents.{Content, IsOf}
use Rattle.fc_front.specs.Ends.{refused}
use Rattle.fc_core.specs.Fits.{IsSafe}
use Rattle.fc_core.specs.Stages.{asked_stage, image_of, snapshots}
use Rattle.fc_core.specs.Steps.{Call, Matches, Lists, Takes, Commits, Installs, Rejects, Refuses, RefusesChange, Removes, Describes, Raises, called_at, next_stage}
use Rattle.fc_backend.specs.Answers.{IsSnapshotWith, IsSomeCommit, IsSomeInstall, IsSomeReceipt, IsSomeRemoval, AreTallied, HasRisen, commit_overtakings, snapshot_refusals}
use Rattle.fc_calls.specs.Kept.{commit_changes, install_changes, removal_changes}
use Rattle.fc_backend.specs.Logs.{FilesRefusal, TrackedLog}
use Rattle.fc_calls.specs.Logged.{CommitsRun, InstallsProgram, LooksAt, RaisesWord, RemovesProgram, TellsReceipt}
use Rattle.fc_linear.specs.Operations.{RefusesInstall, RejectsImage}
use Rattle.fc_backend.specs.Called.{EndsJob, RefusesSave}
use Rattle.fc_workers.specs.Views.{WorkerView}
use Rattle.fc_backend.specs.Filed.{HasFiled}
use Rattle.fc_workers.specs.Outgoing.{GivesAnswer, IsSent, IsTurnReply}
use Rattle.fc_backend.specs.Statistics.{Share}

-- ---- counts of calls

abbrev pub snapshots_made : Call → ℕ
snapshots_made (Takes count taken) = 1
snapshots_made other = 0

-- the number of changes that a call makes to the job's slot.
abbrev pub change_by : Call → ℕ
change_by (Commits count t committed) = commit_changes committed
change_by (Installs p initial answer) = install_changes answer
change_by (Removes removal) = removal_changes removal
change_by other = 0

-- the number of refused allocations, and of changes that can't be saved, in a call.
abbrev pub refusal_by : Call → ℕ
refusal_by (Takes count taken) = snapshot_refusals taken
refusal_by Refuses = 1
refusal_by (RefusesChange at) = 1
refusal_by other = 0

abbrev pub overtaking_by : Call → ℕ
overtaking_by (Commits count t committed) = commit_overtakings committed
overtaking_by other = 0

-- the sum of a count over these calls.
abbrev pub total : (Call → ℕ) → List Call → ℕ
total by [] = 0
total by (call ∷ calls) = total by calls + by call

-- the stage of a job after these calls.
abbrev pub stage_after : Job → List Call → Stage
stage_after job [] = asked_stage job
stage_after job (call ∷ calls) = next_stage call

module _ {T : Type 0} (s : WorkerView T) where
  -- ---- calls

  -- the gate let the job with this number through, then the time was requested, and then the run of
  -- the ticket was committed at that time.
  pub record IsCommitted (number : ℕ) (t : Ticket) (committed : Committed) (before after : TrackedLog) : Type 0 where
    pub passed : TrackedLog
    pub gate : s.between number before passed
    pub now : ℕ
    pub asked : TrackedLog
    pub time : s.time now passed asked
    pub commits : s.logged (CommitsRun now (run_of t) t committed) asked after
    pub commit : IsSomeCommit (run_of t) t committed

  -- the run of a ticket wants to write. The gate let the job with this number through, and then the
  -- time was requested. The commit can't be saved, and this is filed with its update.
  pub record IsCommitRefused (number : ℕ) (job : Job) (t : Ticket) (before after : TrackedLog) : Type 0 where
    pub passed : TrackedLog
    pub gate : s.between number before passed
    pub now : ℕ
    pub asked : TrackedLog
    pub time : s.time now passed asked
    pub wants : wants t ≡ true
    pub refuses : s.bench (RefusesSave t.origin.slot (Wrote (commit_of t)))
    pub filed : FilesRefusal job.origin.slot (Wrote (commit_of t)) [] asked after

  -- the change that the job would make at this stage can't be saved. This is filed with its update.
  abbrev pub IsChangeRefused : ℕ → Job → Stage → TrackedLog → TrackedLog → Type 0
  IsChangeRefused number job (ToCommit count t) before after = IsCommitRefused number job t before after
  IsChangeRefused number job ToRemove before after = s.bench (RefusesSave job.origin.slot Removed) × FilesRefusal job.origin.slot Removed [] before after
  IsChangeRefused number job other before after = ⊥

  -- the install of this program can't be saved. This is filed with its update, which has the job's
  -- image.
  abbrev pub IsInstallUnsaved : Job → Program → TrackedLog → TrackedLog → Type 0
  IsInstallUnsaved job p before after =
      let change = Installed p (initial_vars_of job.ask) in
      (judged (image_of job.ask) ≡ Accepts p) × s.bench (RefusesSave job.origin.slot change) × FilesRefusal job.origin.slot change (image_of job.ask) before after

  -- the program of the job's image isn't installed: memory is refused, or the install can't be
  -- saved. This is filed.
  abbrev pub IsInstallRefused : Job → TrackedLog → TrackedLog → Type 0
  IsInstallRefused job before after = (IsRefusal (image_of job.ask) NoMemory × HasFiled (RefusesInstall job) before after)
      ⊎ ((p : Program) × IsInstallUnsaved job p before after)

  -- a call for the job with this number leads from the log `before` to the log `after`. A match
  -- reads the head word of the job's slot, for the request's ETags. A list reads the head word of
  -- the next slot. A raise publishes the head word of the job's slot. An installed program is safe.
  -- A rejection and a refused install are those of the job's image, and are filed. So is the
  -- refusal of any other change. The result of any other call is that of some slot. Answers, losses
  -- and the calls of a lease are no such calls.
  abbrev pub IsCallOf : ℕ → Job → Call → TrackedLog → TrackedLog → Type 0
  IsCallOf number job (Matches serials word) before after = (serials ≡ job.etags.items) × s.logged (LooksAt job.origin.slot word) before after
  IsCallOf number job (Lists seen word) before after = s.logged (LooksAt (length seen.items) word) before after
  IsCallOf number job (Takes count taken) before after = IsSnapshotWith s.logged job taken before after
  IsCallOf number job (Commits count t committed) before after = IsCommitted number t committed before after
  IsCallOf number job (Installs p initial answer) before after =
      (judged (image_of job.ask) ≡ Accepts p) × IsSafe p × (initial ≡ initial_vars_of job.ask) × s.logged (InstallsProgram job p answer) before after × IsSomeInstall initial p answer
  IsCallOf number job (Rejects content) before after =
      ((f : Fault) × IsRefusal (image_of job.ask) (Broken f) × (content ≡ refused (Broken f))) × HasFiled (RejectsImage job content) before after
  IsCallOf number job Refuses before after = IsInstallRefused job before after
  IsCallOf number job (RefusesChange at) before after = IsChangeRefused number job at before after
  IsCallOf number job (Removes removal) before after = s.logged (RemovesProgram job removal) before after × IsSomeRemoval removal
  IsCallOf number job (Describes receipt) before after = s.logged (TellsReceipt job receipt) before after × IsSomeReceipt receipt
  IsCallOf number job (Raises word content) before after = s.logged (RaisesWord job.origin.slot word) before after
  IsCallOf number job other before after = ⊥

  -- the call is the one that the stage needs, and it is a call for the job with this number.
  abbrev pub IsCallAt : ℕ → Job → Stage → Call → TrackedLog → TrackedLog → Type 0
  IsCallAt number job stage call before after = (stage ≡ called_at call) × IsCallOf number job call before after

  -- each call is the one that the stage after the earlier calls needs. From `before` to `after`,
  -- the log has only these calls.
  unfoldable pub AreCalls : ℕ → Job → List Call → TrackedLog → TrackedLog → Type 0
  AreCalls number job [] before after = after ≡ before
  AreCalls number job (call ∷ calls) before after =
      (now : TrackedLog) × AreCalls number job calls before now × IsCallAt number job (stage_after job calls) call now after

  -- the worker's statistics have risen by the counts of these calls, for a job of slot n.
  pub record HasCounted (n : ℕ) (calls : List Call) (before after : Share T) : Type 0 where
    pub tallies : AreTallied (s.changes before.tallies) (s.changes after.tallies) n (total change_by calls)
    pub refusals : HasRisen before.refusals (total refusal_by calls) after.refusals
    pub overtakings : HasRisen before.overtakings (total overtaking_by calls) after.overtakings
    pub got : after.got ≡ before.got
    pub sent : after.sent ≡ before.sent
    pub failed : after.failed ≡ before.failed

  -- ---- jobs

  -- calls led the job from its first stage to this answer, which belongs to the job. At most eight
  -- of them took a snapshot, and the statistics count them all.
  pub record IsWorkedOff (number : ℕ) (job : Job) (content : Content) (before after : Share T) : Type 0 where
    pub calls : List Call
    pub are : AreCalls number job calls before.log after.log
    pub ends : stage_after job calls ≡ ToAnswer content
    pub few : total snapshots_made calls ≤ snapshots
    pub own : IsOf job content
    pub counted : HasCounted job.origin.slot calls before after

  -- the job was run up to this stage, and is to be answered next.
  abbrev pub IsWorkedTo : ℕ → Job → Stage → Share T → Share T → Type 0
  IsWorkedTo number job stage before after = (content : Content) × (stage ≡ ToAnswer content) × IsWorkedOff number job content before after

  -- the worker's counts of changes and replies are unchanged, and the worker received no further
  -- job.
  pub record HasSameTallies (before after : Share T) : Type 0 where
    pub tallies : (shard : ℕ) → shard < 8 → s.changes after.tallies shard ≡ s.changes before.tallies shard
    pub got : after.got ≡ before.got
    pub sent : after.sent ≡ before.sent
    pub failed : after.failed ≡ before.failed

  -- a request's job was run to some answer, and then answered once with that answer. This reply, or
  -- nothing, is to be sent for the job.
  pub record IsRequestWorked (number : ℕ) (job : Job) (before after : Share T) (reply : Option Emission) : Type 0 where
    pub content : Content
    pub log : TrackedLog
    pub worked : IsWorkedOff number job content before (record after { log = log })
    pub answered : GivesAnswer s job content reply log after.log

  -- a lease's job took one snapshot, and then the lease's observer was notified of the snapshot
  -- once. This reply, or nothing, is to be sent for the job. The job changes no slot.
  pub record IsTurnWorked (job : Job) (turn : Turn) (before after : Share T) (reply : Option Emission) : Type 0 where
    pub taken : Taken
    pub log : TrackedLog
    pub snapshot : IsSnapshotWith s.logged job taken before.log log
    pub told : IsTurnReply s turn taken reply log after.log
    pub kept : HasSameTallies before after

  abbrev pub IsWorkedAs : Option ℕ → ℕ → Job → Share T → Share T → Option Emission → Type 0
  IsWorkedAs None number job before after reply = IsRequestWorked number job before after reply
  IsWorkedAs (Some turn) number job before after reply = IsTurnWorked job (turn_of job turn) before after reply

  -- the job with this number, a request's or a lease's, was run. This reply, or nothing, is to be
  -- sent for it.
  abbrev pub IsWorked : ℕ → Job → Share T → Share T → Option Emission → Type 0
  IsWorked number job before after reply = IsWorkedAs job.turn number job before after reply

  -- the reply, if there is one, was sent once and counted. The last call reported to the
  -- transmitter, once, that the job has ended.
  pub record IsFinished (number : ℕ) (reply : Option Emission) (before after : Share T) : Type 0 where
    pub log : TrackedLog
    pub sent : IsSent s number reply before (record after { log = log })
    pub over : s.wire (EndsJob number) log after.log

  -- the job was run, and then finished with its reply, if it has one. The log has no other call.
  pub record IsReplied (number : ℕ) (job : Job) (before after : Share T) : Type 0 where
    pub reply : Option Emission
    pub share : Share T
    pub worked : IsWorked number job before share reply
    pub finished : IsFinished number reply share after
