-- The stage of a job: its next action.
use Rattle.std.specs.Prelude.{ℕ}
use Rattle.arrayvec.specs.ArrayVec.{ArrayVec}
use Rattle.fc_observe.specs.declared.entry.Turn.{Turn}
use Rattle.fc_ticket.specs.Tickets.{Ticket}
use Rattle.fc_front.specs.Contents.{Content}
use Rattle.fc_core.specs.TurnStage.{TurnStage}

pub data Stage : Type 0 where
  -- read the head word of the job's slot, which may answer the job without a run.
  ToMatch : Stage
  -- take a snapshot; `count` is the number of snapshots before it.
  ToTake : (count : ℕ) → Stage
  -- commit this ticket's run; `count` is the number of snapshots so far.
  ToCommit : (count : ℕ) (ticket : Ticket) → Stage
  -- install the program of the job's image.
  ToInstall : Stage
  -- remove the program of the job's slot.
  ToRemove : Stage
  -- read the receipt of the program of the job's slot.
  ToDescribe : Stage
  -- read the next slot's head word; `seen` has the words of the slots before it.
  ToList : (seen : ArrayVec ℕ) → Stage
  -- raise the head word of the job's slot to this word, then send this answer.
  ToRaise : (word : ℕ) (content : Content) → Stage
  -- send this answer.
  ToAnswer : (content : Content) → Stage
  -- notify the observer that has this lease; `needs` is the lease's next action.
  ToTell : (turn : Turn) (needs : TurnStage) → Stage
  -- nothing: the job was answered, released or lost, or it never arrived.
  Gone : Stage
