-- The calls that threads make of a server, each with its arguments and its result.
use Rattle.std.specs.Prelude.{ℕ, Bool, List, Option}
use Rattle.coap_msg.specs.declared.types.Emission.{Emission}
use Rattle.coap_msg.specs.declared.types.Endpoint.{Endpoint}
use Rattle.fc_front.specs.declared.by_value.Delivered.{Delivered}
use Rattle.fc_front.specs.Contents.{Content}
use Rattle.fc_kinds.specs.Meaning.{Program}
use Rattle.fc_machine.specs.Ran.{Ran}
use Rattle.fc_observe.specs.declared.entry.Turn.{Turn}
use Rattle.fc_observe.specs.declared.observers.Ticked.{Ticked}
use Rattle.fc_registry.specs.declared.commit.Committed.{Committed}
use Rattle.fc_ticket.specs.declared.job.Job.{Job}
use Rattle.fc_ticket.specs.declared.note.Noted.{Noted}
use Rattle.fc_ticket.specs.declared.note.Notification.{Notification}
use Rattle.fc_ticket.specs.declared.receipt.Receipt.{Receipt}
use Rattle.fc_registry.specs.declared.shard.Made.{Made}
use Rattle.fc_registry.specs.declared.shard.Removal.{Removal}
use Rattle.fc_ticket.specs.Taken.{Taken}
use Rattle.fc_ticket.specs.Tickets.{Ticket}

-- a call that may change something, or whose result is soon out of date.
pub data LoggedCall : Type 0 where
  -- a datagram is handled at this time, with this result.
  HandlesDatagram : (now : ℕ) (from : Endpoint) (bytes : List ℕ) (brings : Delivered) → LoggedCall
  -- the front is advanced to this time.
  AdvancesFront : (now : ℕ) → LoggedCall
  -- the timer of a slot fires at this time.
  FiresTimer : (slot now : ℕ) → LoggedCall
  -- a message ID is drawn at this time, or none is available.
  DrawsId : (now : ℕ) (id : Option ℕ) → LoggedCall
  -- a job is answered at this time, and this emission, or nothing, is to be sent.
  AnswersRequest : (now : ℕ) (job : Job) (content : Content) (sent : Option Emission) → LoggedCall
  -- the receipt of the program in a job's slot is read.
  TellsReceipt : (job : Job) (receipt : Option Receipt) → LoggedCall
  -- the cost of the program in a slot is read, or the slot is empty.
  ReadsCost : (slot : ℕ) (cost : Option ℕ) → LoggedCall
  -- the device returns these readings.
  GivesReadings : (readings : List ℕ) → LoggedCall
  -- the head word of a slot is read.
  LooksAt : (slot word : ℕ) → LoggedCall
  -- a job takes a snapshot of its slot, with these readings.
  TakesForJob : (job : Job) (readings : List ℕ) (taken : Taken) → LoggedCall
  -- a ticket's run is committed at this time.
  CommitsRun : (now : ℕ) (ran : Ran) (ticket : Ticket) (committed : Committed) → LoggedCall
  -- a program is installed in the slot of a job.
  InstallsProgram : (job : Job) (program : Program) (made : Made) → LoggedCall
  -- the program in a job's slot is removed.
  RemovesProgram : (job : Job) (removal : Removal) → LoggedCall
  -- a shard is passed a Reset message, or an Acknowledgement, with this endpoint and message ID.
  HandsSignal : (shard : ℕ) (from : Endpoint) (id : ℕ) (reset : Bool) → LoggedCall
  -- a shard that is idle at this time is advanced to it.
  AdvancesIdle : (shard now : ℕ) → LoggedCall
  -- a shard that is idle at this time is skipped: it isn't called.
  SkipsIdle : (shard now : ℕ) → LoggedCall
  -- a shard is advanced to this time, with this result.
  AdvancesShard : (shard now : ℕ) (ticked : Ticked) → LoggedCall
  -- a shard is asked at this time for its next lease, with this result.
  GivesTurn : (shard now : ℕ) (turn : Option Job) → LoggedCall
  -- the observer of a lease is notified at this time, with this message ID.
  NotesTurn : (turn : Turn) (id now random : ℕ) (told : Notification) (noted : Noted) → LoggedCall
  -- a lease is released at this time.
  GivesUpTurn : (turn : Turn) (now : ℕ) → LoggedCall
  -- the head word of a slot is raised to this word.
  RaisesWord : (slot word : ℕ) → LoggedCall
