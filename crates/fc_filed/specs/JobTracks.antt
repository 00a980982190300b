-- The track of a job: the operations that led the job from the call that produced it to a stage.
use Rattle.std.specs.Prelude.{◌≡◌, ◌≢◌, ℕ, ◌≤◌, List, [], ◌∷◌, ◌++◌, Some}
use Rattle.std.specs.List.{All}
use Rattle.fc_ticket.specs.declared.job.Job.{Job}
use Rattle.fc_book.specs.declared.view.BookView.{BookView}
use Rattle.fc_book.specs.Tracks.{HasKey, entries_at, entries_of}
use Rattle.fc_core.specs.Stage.{Stage}
use Rattle.fc_core.specs.Stages.{first_stage}
use Rattle.fc_linear.specs.Operations.{StageMoves, job_brought}
use Rattle.fc_filed.specs.declared.entry.FiledEntry.{FiledEntry}
use Rattle.fc_filed.specs.Threads.{key_of_first}

-- the operations of these entries, in order, lead the job from one stage to another.
abbrev pub LeadJob : Job → List FiledEntry → Stage → Stage → Type 0
LeadJob job [] s t = t ≡ s
LeadJob job (e ∷ es) s t = (m : Stage) × StageMoves e.operation job s m × LeadJob job es m t

-- the first of these entries produces the job, and the others lead the job from its first stage to
-- this one.
abbrev pub HasLedJob : Job → Stage → List FiledEntry → Type 0
HasLedJob job stage [] = ⊥
HasLedJob job stage (e ∷ es) = (job_brought e.operation ≡ Some job) × LeadJob job es (first_stage job) stage

-- the owner's first track is the job's, and the job is at this stage.
pub record HasJobAt (first_job : ℕ) (job : Job) (stage : Stage) (v : BookView FiledEntry) : Type 0 where
  pub key : first_job ≤ key_of_first v.own
  pub led : HasLedJob job stage (entries_of v.own)

-- thread `who` filed operations of the job whose track is first, and nothing else. They lead the
-- job from one stage to another. Each has the key of the job's track. They are the last entries on
-- the tracks of the job and of the thread. The tracks of other jobs are unchanged, and the owner
-- has no other tracks than before.
pub record FilesForJob (first_job who : ℕ) (job : Job) (s t : Stage) (before after : BookView FiledEntry) : Type 0 where
  pub entries : List FiledEntry
  pub led : LeadJob job entries s t
  pub keyed : All (λ (e : FiledEntry). e.job ≡ key_of_first before.own) entries
  pub first : key_of_first after.own ≡ key_of_first before.own
  pub track : entries_of after.own ≡ entries_of before.own ++ entries
  pub thread : entries_at who after.own ≡ entries_at who before.own ++ entries
  pub others : (k : ℕ) → first_job ≤ k → k ≢ key_of_first before.own → entries_at k after.own ≡ entries_at k before.own
  pub none_gained : (k : ℕ) → HasKey k after.own → HasKey k before.own
  pub kept : (k : ℕ) → HasKey k before.own → HasKey k after.own
  pub begins : (after.may_begin ≡ before.may_begin) × (after.next ≡ before.next)
