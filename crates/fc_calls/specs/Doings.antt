-- The effect of each call of a shard: the shard before, the result, and the shard after. The same
-- for each call of a front.
use Rattle.std.specs.Prelude.{◌≡◌, ℕ, Bool, false, if◌then◌else◌, List, Option, Some, None}
use Rattle.coap_msg.specs.declared.types.Emission.{Emission}
use Rattle.coap_msg.specs.declared.types.Endpoint.{Endpoint}
use Rattle.fc_front.specs.declared.by_value.Answered.{Answered}
use Rattle.fc_front.specs.declared.by_value.Delivered.{Delivered}
use Rattle.fc_front.specs.Answering.{AnswersIn, after_answered, emission_of}
use Rattle.fc_front.specs.Contents.{Content}
use Rattle.fc_front.specs.Exchanges.{FrontState, advanced}
use Rattle.fc_front.specs.Gauges.{gauges_at}
use Rattle.fc_front.specs.declared.gauges.FrontGauges.{FrontGauges}
use Rattle.fc_front.specs.Ids.{drawn_for, free_id}
use Rattle.fc_front.specs.Receiving.{after_delivered, delivered}
use Rattle.fc_kinds.specs.Meaning.{Program}
use Rattle.fc_machine.specs.Ran.{Ran}
use Rattle.fc_observe.specs.declared.entry.Turn.{Turn}
use Rattle.fc_observe.specs.declared.observers.Ticked.{Ticked}
use Rattle.fc_registry.specs.declared.commit.Committed.{Committed}
use Rattle.fc_ticket.specs.declared.job.Job.{Job}
use Rattle.fc_ticket.specs.declared.note.Noted.{Noted}
use Rattle.fc_ticket.specs.declared.note.Notification.{Notification}
use Rattle.fc_ticket.specs.declared.note.Notification.TheVariants as tells
use Rattle.fc_ticket.specs.declared.receipt.Receipt.{Receipt}
use Rattle.fc_registry.specs.declared.shard.Made.{Made}
use Rattle.fc_registry.specs.declared.shard.Removal.{Removal}
use Rattle.fc_ticket.specs.Taken.{SlotSnapshot, Taken}
use Rattle.fc_registry.specs.Views.{HasSize, taken_with}
use Rattle.fc_registry.specs.declared.shard.Taken as handles
use Rattle.fc_registry.specs.Calls.{CommitsTo, TakesAt, after_snapshot, install_in, receipt_at, remove_from}
use Rattle.fc_ticket.specs.Runs.{run_of, initial_vars_of}
use Rattle.fc_registry.specs.Changes.{after_changes}
use Rattle.fc_registry.specs.Calls.{NotesTo}
use Rattle.fc_ticket.specs.Tickets.{Present, Ticket}
use Rattle.fc_registry.specs.Slots.{Shard, slot_in, with_slot}
use Rattle.fc_registry.specs.Turns.{due_job}
use Rattle.fc_registry.specs.Watches.{StaysIdleUntil, after_due, after_given_up, shard_after_tick, due_place, at_time, is_idle, observer_counts, overdue_place, signal_call, signalled, ticked_in}

-- a run is committed at this time.
abbrev pub CommitsAt : ℕ → Ran → Ticket → Shard → Committed → Shard → Type 0
CommitsAt now ran ticket before committed after = CommitsTo ran ticket before now committed after

-- the first notification that has timed out at this time is retransmitted, or the notification's
-- observer is removed.
abbrev pub TicksAt : ℕ → Shard → Ticked → Shard → Type 0
TicksAt now before ticked after =
    let at = at_time before now in
    (ticked ≡ ticked_in (overdue_place at) at) × (after ≡ shard_after_tick (overdue_place at) at)

-- the clock is advanced to this time if the shard is idle then.
abbrev pub PassesIfIdle : ℕ → Shard → Bool → Shard → Type 0
PassesIfIdle now before idle after =
    let at = at_time before now in
    (idle ≡ is_idle at) × (after ≡ (if idle then at else before))

-- a time is returned before which the shard is idle.
abbrev pub TellsIdleUntil : Shard → ℕ → Shard → Type 0
TellsIdleUntil before until after = StaysIdleUntil until before × (after ≡ before)

-- the numbers of observers of a shard's slots, by place, are returned.
abbrev pub TellsObservers : Shard → List ℕ → Shard → Type 0
TellsObservers before counts after = (counts ≡ observer_counts before) × (after ≡ before)

-- the first observer with a pending notification at this time gets a lease.
abbrev pub GivesTurnAt : ℕ → Shard → Option Job → Shard → Type 0
GivesTurnAt now before job after =
    let at = at_time before now in
    (job ≡ due_job (due_place at) at) × (after ≡ after_due (due_place at) at)

-- a signal reaches the observers of every slot. This definition isn't an abbreviation, so that no
-- proof about another call mistakes that call for a signal.
unfoldable pub HandsOn : Bool → Endpoint → ℕ → Shard → Shard → Type 0
HandsOn reset from id before after = after ≡ signalled (signal_call reset from id) before

-- a lease is released at this time. This isn't an abbreviation either.
unfoldable pub GivesUpAt : ℕ → Turn → Shard → Shard → Type 0
GivesUpAt now turn before after = after ≡ after_given_up turn (at_time before now)

-- a job takes a snapshot of its slot, with these readings.
abbrev pub TakesTo : Job → List ℕ → Shard → Taken → Shard → Type 0
TakesTo job readings before taken after = TakesAt job readings before taken × (after ≡ after_snapshot job before)

-- a job takes a snapshot, which writes its variables over `found`. If the snapshot gives a program,
-- the program has as many variables as were written.
abbrev pub TakesInto : Job → List ℕ → Shard → handles.Taken → SlotSnapshot → Shard → Type 0
TakesInto job readings before taken found after = TakesTo job readings before (taken_with taken found) after × HasSize taken found

-- a program is installed in the slot of a job; the job determines the variables that the install
-- leaves.
abbrev pub InstallsTo : Job → Program → Shard → Made → Shard → Type 0
InstallsTo job program before made after =
    let slot = job.origin.slot in
    let called = install_in (slot_in before slot) program (initial_vars_of job.ask) in
    (made ≡ called.answer) × (after ≡ with_slot before slot (after_changes (slot_in before slot) called.changes))

-- the program in a job's slot is removed.
abbrev pub RemovesFrom : Job → Shard → Removal → Shard → Type 0
RemovesFrom job before removal after =
    let slot = job.origin.slot in
    let called = remove_from (slot_in before slot) in
    (removal ≡ called.answer) × (after ≡ with_slot before slot (after_changes (slot_in before slot) called.changes))

-- the receipt of the program in a job's slot is read.
abbrev pub DescribesTo : Job → Shard → Option Receipt → Shard → Type 0
DescribesTo job before receipt after = (receipt ≡ receipt_at (slot_in before job.origin.slot).present) × (after ≡ before)

-- the cost of the program in a slot, in steps; an empty slot has none.
abbrev pub cost_at : Option Present → Option ℕ
cost_at None = None
cost_at (Some p) = Some p.program.cost

-- the cost of the program in a slot is found.
abbrev pub FindsCost : ℕ → Shard → Option ℕ → Shard → Type 0
FindsCost slot before cost after = (cost ≡ cost_at (slot_in before slot).present) × (after ≡ before)

-- the observer of a lease is notified at this time, with this message ID.
abbrev pub NotesAt : Turn → ℕ → ℕ → ℕ → Notification → Shard → Noted → Shard → Type 0
NotesAt turn id now random told before noted after = NotesTo told turn id random before now noted after

-- the notification comes from the run of the snapshot's ticket, or says that the slot was empty.
abbrev pub SaysFound : Notification → Option Ticket → Type 0
SaysFound (tells.Ran outcome ticket) found = (found ≡ Some ticket.now) × (outcome.now ≡ run_of ticket.now)
SaysFound tells.Gone found = found ≡ None

-- ---- the front

-- a datagram is handled at this time, with this result.
abbrev pub HandlesAt : ℕ → Endpoint → List ℕ → Delivered → FrontState → FrontState → Type 0
HandlesAt now from bytes brings before after =
    let at = advanced before now in
    (brings ≡ delivered at from bytes) × (after ≡ after_delivered at from bytes)

-- a front is advanced to this time. This isn't an abbreviation, so that no other call of a front
-- counts as this one.
unfoldable pub AdvancesTo : ℕ → FrontState → FrontState → Type 0
AdvancesTo now before after = after ≡ advanced before now

-- the gauges of a front at this time are returned.
abbrev pub TellsGauges : ℕ → FrontState → FrontGauges → FrontState → Type 0
TellsGauges now before gauges after = (gauges ≡ gauges_at now before) × (after ≡ before)

-- the timer of a slot fires at this time. The timer's job depends on the slot alone.
unfoldable pub FiresAt : ℕ → FrontState → FrontState → Type 0
FiresAt now before after = after ≡ advanced before now

-- a message ID is drawn at this time, or none is available.
abbrev pub DrawsAt : ℕ → Option ℕ → FrontState → FrontState → Type 0
DrawsAt now id before after =
    let at = advanced before now in
    (id ≡ free_id at.ids at.now) × (after ≡ record at { ids = drawn_for false at.ids at.now })

-- a job is answered at this time, and this emission, or nothing, is to be sent.
pub record AnswersAt (now : ℕ) (job : Job) (content : Content) (sent : Option Emission) (before after : FrontState) : Type 0 where
  pub answered : Answered
  pub answers : AnswersIn (advanced before now) job content answered
  pub sent_is : sent ≡ emission_of answered
  pub after_is : after ≡ after_answered job sent (advanced before now)
