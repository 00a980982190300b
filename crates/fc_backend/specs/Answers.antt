-- Possible results of calls, and counts of the results. A definition states that some front, shard
-- or slot gives the result. It doesn't state which one, since other jobs change the server between
-- two calls of a job.
use Rattle.std.specs.Prelude.{◌≡◌, ◌⊎◌, ℕ, ◌+◌, ◌%◌, ◌<◌, ◌==◌, if◌then◌else◌, Bool, List, Option, Some, None, max, min}
use Rattle.coap_msg.specs.declared.types.Emission.{Emission}
use Rattle.coap_msg.specs.declared.types.Endpoint.{Endpoint}
use Rattle.fc_front.specs.declared.by_value.Answered.{Answered}
use Rattle.fc_front.specs.declared.by_value.Delivered.{Delivered}
use Rattle.fc_front.specs.Answering.{AnswersIn, emission_of}
use Rattle.fc_front.specs.Contents.{Content}
use Rattle.fc_front.specs.Exchanges.{FrontState, advanced}
use Rattle.fc_front.specs.Ids.{free_id}
use Rattle.fc_front.specs.Receiving.{delivered}
use Rattle.fc_kinds.specs.Meaning.{Program}
use Rattle.fc_machine.specs.Ran.{Ran}
use Rattle.fc_observe.specs.declared.entry.Turn.{Turn}
use Rattle.fc_observe.specs.declared.observers.Ticked.{Ticked}
use Rattle.fc_observe.specs.Observers.{ObserverList}
use Rattle.fc_ticket.specs.declared.job.Job.{Job}
use Rattle.fc_ticket.specs.declared.job.InitialVars.{InitialVars}
use Rattle.fc_ticket.specs.Taken.{Taken}
use Rattle.fc_ticket.specs.Taken.{Refused, Stale}
use Rattle.fc_registry.specs.declared.shard.Made.{Made}
use Rattle.fc_registry.specs.declared.commit.Committed.{Committed}
use Rattle.fc_registry.specs.declared.commit.Committed.TheVariants.{Overtaken}
use Rattle.fc_ticket.specs.declared.note.Noted.{Noted}
use Rattle.fc_ticket.specs.declared.note.Notification.{Notification}
use Rattle.fc_ticket.specs.Notes.{IsNoted}
use Rattle.fc_registry.specs.Slots.{Shard, Slot}
use Rattle.fc_ticket.specs.Tickets.{Ticket}
use Rattle.fc_registry.specs.Turns.{due_job}
use Rattle.fc_registry.specs.Watches.{due_place, at_time, is_idle, overdue_place, ticked_in}
use Rattle.fc_ticket.specs.declared.receipt.Receipt.{Receipt}
use Rattle.fc_registry.specs.declared.shard.Removal.{Removal}
use Rattle.fc_registry.specs.Calls.{IsSnapshot, IsCommit, install_in, receipt_at, remove_from}
use Rattle.fc_backend.specs.Logs.{TrackedLog}
use Rattle.fc_calls.specs.Logged.{GivesReadings, LoggedCall, TakesForJob}
use Rattle.fc_ticket.specs.declared.note.Noted.TheVariants.{Send}

-- the result of a delivery at this time to some front.
pub record IsSomeDelivery (now : ℕ) (to : Endpoint) (bytes : List ℕ) (brings : Delivered) : Type 0 where
  pub front : FrontState
  pub is : brings ≡ delivered (advanced front now) to bytes

-- some front draws this message ID at this time, or has no message ID available.
pub record IsSomeDraw (now : ℕ) (id : Option ℕ) : Type 0 where
  pub front : FrontState
  pub is : id ≡ free_id (advanced front now).ids (advanced front now).now

-- some front that answers the job with this content at this time sends this emission, or nothing.
pub record IsSomeAnswer (now : ℕ) (job : Job) (content : Content) (sent : Option Emission) : Type 0 where
  pub front : FrontState
  pub answered : Answered
  pub answers : AnswersIn (advanced front now) job content answered
  pub sent_is : sent ≡ emission_of answered

-- the result of a snapshot that is taken for the job, with these readings, of some slot with some
-- observers, at some time.
pub record IsSomeSnapshot (job : Job) (readings : List ℕ) (taken : Taken) : Type 0 where
  pub slot : Slot
  pub now : ℕ
  pub watch : ObserverList
  pub snapshot : IsSnapshot job readings slot now watch taken

-- the backend returned readings, and the next call in the log took a snapshot for the job with
-- these readings. The snapshot has this result.
pub record IsSnapshotWith (Logged : LoggedCall → TrackedLog → TrackedLog → Type 0) (job : Job) (taken : Taken) (before after : TrackedLog) : Type 0 where
  pub readings : List ℕ
  pub log : TrackedLog
  pub given : Logged (GivesReadings readings) before log
  pub takes : Logged (TakesForJob job readings taken) log after
  pub is : IsSomeSnapshot job readings taken

-- some shard grants this lease at this time, or grants none.
pub record IsSomeTurn (now : ℕ) (job : Option Job) : Type 0 where
  pub shard : Shard
  pub job_is : job ≡ due_job (due_place (at_time shard now)) (at_time shard now)

-- the result of a tick of some shard at this time: the shard retransmits a notification, removes an
-- observer, or does nothing.
pub record IsSomeTick (now : ℕ) (ticked : Ticked) : Type 0 where
  pub shard : Shard
  pub ticked_is : ticked ≡ ticked_in (overdue_place (at_time shard now)) (at_time shard now)

-- whether some shard is idle at this time.
pub record IsSomeIdle (now : ℕ) (idle : Bool) : Type 0 where
  pub shard : Shard
  pub idle_is : idle ≡ is_idle (at_time shard now)

-- the result of a notification for this lease with this message ID, at some serial of the lease's
-- slot and with some observers. The time of the notification is this time, or a later one that was
-- passed to the lease's shard before.
pub record IsSomeNote (now : ℕ) (told : Notification) (turn : Turn) (id : ℕ) (noted : Noted) : Type 0 where
  pub before : ℕ
  pub serial : ℕ
  pub watch : ObserverList
  pub note : IsNoted told turn id (max before now) serial watch noted

-- the result of a commit of this run with this ticket, at some slot with some observers.
pub record IsSomeCommit (ran : Ran) (t : Ticket) (committed : Committed) : Type 0 where
  pub slot : Slot
  pub watch : ObserverList
  pub after : Slot
  pub commit : IsCommit ran t slot watch committed after

-- the result of an install of the program at some slot.
pub record IsSomeInstall (initial : InitialVars) (p : Program) (made : Made) : Type 0 where
  pub slot : Slot
  pub made_is : made ≡ (install_in slot p initial).answer

-- the result of a removal from some slot.
pub record IsSomeRemoval (removal : Removal) : Type 0 where
  pub slot : Slot
  pub removal_is : removal ≡ (remove_from slot).answer

-- the receipt of some slot's program, or none if the slot is empty.
pub record IsSomeReceipt (receipt : Option Receipt) : Type 0 where
  pub slot : Slot
  pub receipt_is : receipt ≡ receipt_at slot.present

-- the number of changes that a result reports, or none without a result.
abbrev pub changes_if : {A : Type 0} → (A → ℕ) → Option A → ℕ
changes_if changes None = 0
changes_if changes (Some answer) = changes answer

-- the number of conflicts that a commit's result reports.
abbrev pub commit_overtakings : Committed → ℕ
commit_overtakings Overtaken = 1
commit_overtakings other = 0

-- the number of refused allocations that a snapshot's result reports.
abbrev pub snapshot_refusals : Taken → ℕ
snapshot_refusals Refused = 1
snapshot_refusals other = 0

-- the tally of slot n's shard has risen by this number of changes, and the tallies of the other
-- shards are unchanged.
abbrev pub AreTallied : (ℕ → ℕ) → (ℕ → ℕ) → ℕ → ℕ → Type 0
AreTallied before after n changes = (shard : ℕ) → shard < 8 → after shard ≡ before shard + (if shard == n % 8 then changes else 0)

-- a count in 64 bits, which stops at 2^64 - 1.
abbrev pub saturated : ℕ → ℕ
saturated count = min count 18446744073709551615

-- the number of ended jobs after a snapshot with this result: a stale snapshot ends one more job.
abbrev pub ended_by : Taken → ℕ → ℕ
ended_by Stale ended = saturated (ended + 1)
ended_by other ended = ended

-- a count in 64 bits has risen by n, or has stopped at 2^64 - 1.
abbrev pub HasRisen : ℕ → ℕ → ℕ → Type 0
HasRisen before n after = saturated after ≡ saturated (before + n)

-- ---- replies

-- some front's answer to some job.
pub record IsAnswer (emission : Emission) : Type 0 where
  pub now : ℕ
  pub job : Job
  pub content : Content
  pub answer : IsSomeAnswer now job content (Some emission)

-- some shard's notification to the observer of some lease.
pub record IsNote (emission : Emission) : Type 0 where
  pub now : ℕ
  pub told : Notification
  pub turn : Turn
  pub id : ℕ
  pub note : IsSomeNote now told turn id (Send emission)

-- an emission that a worker may send.
abbrev pub GoesOut : Emission → Type 0
GoesOut emission = IsAnswer emission ⊎ IsNote emission
