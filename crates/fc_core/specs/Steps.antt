-- A job's transitions by its calls. Each call has its result, and the data of the stage that needs
-- it.
use Rattle.std.specs.Prelude.{ℕ, Option, Some, None, List, [], ◌∷◌, ◌++◌, if◌then◌else◌}
use Rattle.arrayvec.specs.ArrayVec.{ArrayVec}
use Rattle.fc_kinds.specs.Meaning.{Program}
use Rattle.fc_observe.specs.declared.entry.Turn.{Turn}
use Rattle.fc_registry.specs.declared.commit.Committed.{Committed}
use Rattle.fc_registry.specs.declared.commit.Committed.TheVariants.{Done}
use Rattle.fc_ticket.specs.declared.job.InitialVars.{InitialVars}
use Rattle.fc_ticket.specs.declared.receipt.Receipt.{Receipt}
use Rattle.fc_registry.specs.declared.shard.Made.{Made}
use Rattle.fc_registry.specs.declared.shard.Made.TheVariants.{Raised}
use Rattle.fc_registry.specs.declared.shard.Removal.{Removal}
use Rattle.fc_registry.specs.declared.shard.Removal.TheVariants as removals
use Rattle.fc_ticket.specs.Taken.{Taken}
use Rattle.fc_registry.specs.Calls.{commit_of}
use Rattle.fc_ticket.specs.Runs.{receipt_of}
use Rattle.fc_registry.specs.Changes.{Change, Committed as Wrote, Installed, Removed}
use Rattle.fc_ticket.specs.Tickets.{Ticket}
use Rattle.fc_front.specs.Contents.{Content, Unavailable}
use Rattle.fc_core.specs.Stage.{Stage}
use Rattle.fc_core.specs.Stage.{ToMatch, ToTake, ToCommit, ToInstall, ToRemove, ToDescribe, ToList, ToRaise, ToAnswer, ToTell, Gone}
use Rattle.fc_core.specs.TurnStage.{TurnStage}
use Rattle.fc_core.specs.TurnStage as turns
use Rattle.fc_core.specs.Stages.{after_commit, listed, made, matched, removed, receipt_content, took, turn_took, with_id}

-- a call for a job, with its result.
pub data Call : Type 0 where
  -- read the head word of the job's slot; `serials` are the job's ETags.
  Matches : (serials : List ℕ) (word : ℕ) → Call
  -- read the head word of the slot after those whose words were read.
  Lists : (seen : ArrayVec ℕ) (word : ℕ) → Call
  Takes : (count : ℕ) (taken : Taken) → Call
  Commits : (count : ℕ) (ticket : Ticket) (committed : Committed) → Call
  Installs : (program : Program) (initial : InitialVars) (answer : Made) → Call
  -- no install, since the image breaks a rule; this is the job's answer.
  Rejects : (content : Content) → Call
  -- no install, since memory was refused or the store refused the save.
  Refuses : Call
  Removes : (removal : Removal) → Call
  -- no change of the job's slot: the store refuses to save the job's change at stage `at`.
  RefusesChange : (at : Stage) → Call
  Describes : (receipt : Option Receipt) → Call
  -- raise the head word of the job's slot; `content` is the answer that the job gives then.
  Raises : (word : ℕ) (content : Content) → Call
  Answers : (content : Content) → Call
  -- take the snapshot of a lease.
  TakesTurn : (turn : Turn) (taken : Taken) → Call
  -- draw a message ID for a lease; `free` is `None` if none is available.
  Draws : (turn : Turn) (found : Option Ticket) (free : Option ℕ) → Call
  Notes : (turn : Turn) (found : Option Ticket) (id : ℕ) → Call
  -- release a lease, whatever the lease needs.
  GivesUp : (turn : Turn) (needs : TurnStage) → Call
  -- lose the job's worker, whatever the job needs.
  Loses : (needs : Stage) → Call

-- the stage that needs the call.
abbrev pub called_at : Call → Stage
called_at (Matches serials word) = ToMatch
called_at (Lists seen word) = ToList seen
called_at (Takes count taken) = ToTake count
called_at (Commits count ticket committed) = ToCommit count ticket
called_at (Installs program initial answer) = ToInstall
called_at (Rejects content) = ToInstall
called_at Refuses = ToInstall
called_at (Removes removal) = ToRemove
called_at (RefusesChange at) = at
called_at (Describes receipt) = ToDescribe
called_at (Raises word content) = ToRaise word content
called_at (Answers content) = ToAnswer content
called_at (TakesTurn turn taken) = ToTell turn turns.ToTake
called_at (Draws turn found free) = ToTell turn (turns.ToDraw found)
called_at (Notes turn found id) = ToTell turn (turns.ToNote found id)
called_at (GivesUp turn needs) = ToTell turn needs
called_at (Loses needs) = needs

-- the stage of the job after the call, by the call's result.
abbrev pub next_stage : Call → Stage
next_stage (Matches serials word) = matched word serials
next_stage (Lists seen word) = listed (seen.items ++ word ∷ [])
next_stage (Takes count taken) = took count taken
next_stage (Commits count ticket committed) = after_commit count ticket committed
next_stage (Installs program initial answer) = made (receipt_of program 0) answer
next_stage (Rejects content) = ToAnswer content
next_stage Refuses = ToAnswer Unavailable
next_stage (Removes removal) = removed removal
next_stage (RefusesChange at) = ToAnswer Unavailable
next_stage (Describes receipt) = ToAnswer (receipt_content receipt)
next_stage (Raises word content) = ToAnswer content
next_stage (TakesTurn turn taken) = turn_took turn taken
next_stage (Draws turn found free) = ToTell turn (with_id found free)
next_stage other = Gone

-- the change of the job's slot, by the call's result.
abbrev pub changes_of_call : Call → List Change
changes_of_call (Commits count t (Done m)) = if m.changed then Wrote (commit_of t) ∷ [] else []
changes_of_call (Installs p initial (Raised serial created)) = Installed p initial ∷ []
changes_of_call (Removes (removals.Removed serial)) = Removed ∷ []
changes_of_call other = []

-- the head word that the call raises for the job's slot, if any.
abbrev pub word_of_call : Call → Option ℕ
word_of_call (Raises word content) = Some word
word_of_call other = None
