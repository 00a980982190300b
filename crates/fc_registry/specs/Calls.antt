-- The results of a shard's calls, and the changes that these calls make. One function for each call
-- determines both from the slot that the call finds.
use Rattle.std.specs.Prelude.{◌≡◌, ℕ, ◌+◌, ◌/◌, ◌==◌, ◌&&◌, ◌<◌, ◌≤◌, Bool, true, false, if◌then◌else◌, nat_lt, List, [], ◌∷◌, ◌++◌, Option, Some, None, is_none, is_some, max}
use Rattle.fc_help.specs.declared.request.Method.{Method}
use Rattle.fc_help.specs.declared.request.Method.TheVariants.{Get, Post}
use Rattle.fc_kinds.specs.Meaning.{Program}
use Rattle.fc_machine.specs.Ran.{Ran, meaning_of}
use Rattle.fc_observe.specs.declared.entry.Turn.{Turn}
use Rattle.fc_observe.specs.Calls.{ObserverCall, Advance, MarkMissing}
use Rattle.fc_observe.specs.Observers.{ObserverList, list_at_time, entry_out}
use Rattle.fc_ticket.specs.declared.job.Job.{Job}
use Rattle.fc_ticket.specs.declared.job.InitialVars.{InitialVars}
use Rattle.fc_ticket.specs.Notes.{IsNoted, note_calls, sent_of, ticket_told}
use Rattle.fc_ticket.specs.declared.note.Noted.{Noted}
use Rattle.fc_ticket.specs.declared.note.Notification.{Notification}
use Rattle.fc_ticket.specs.Runs.{meaning_at, run_of, ticket_of, receipt_of, IsRunOf}
use Rattle.fc_ticket.specs.Registrations.{is_observed, observe_calls}
use Rattle.fc_ticket.specs.Taken.{Taken, Given, Missing, Stale, Refused}
use Rattle.fc_registry.specs.declared.shard.Made.{Made}
use Rattle.fc_registry.specs.declared.shard.Made.TheVariants.{Raised, AtEnd}
use Rattle.fc_registry.specs.declared.shard.Removal.{Removal}
use Rattle.fc_registry.specs.declared.shard.Removal.TheVariants as removals
use Rattle.fc_ticket.specs.declared.receipt.Receipt.{Receipt}
use Rattle.fc_registry.specs.declared.commit.CommitOutcome.{CommitOutcome}
use Rattle.fc_registry.specs.declared.commit.CommitOutcome.TheVariants.{Writes, Keeps, Overtakes, Ends}
use Rattle.fc_registry.specs.declared.commit.Committed.{Committed}
use Rattle.fc_registry.specs.declared.commit.Committed.TheVariants.{Done, Overtaken, Ended, Stranger}
use Rattle.fc_registry.specs.Slots.{Slot, Shard, Mark, slot_in, with_slot, last_serial}
use Rattle.fc_ticket.specs.Tickets.{Present, Ticket}
use Rattle.fc_registry.specs.Changes.{Change, Installed, Committed as Wrote, Removed, Commit, after_changes}
use Rattle.fc_registry.specs.Record.{code_class}
use Rattle.fc_registry.specs.Watches.{at_time, watch_at, with_calls}

-- ---- snapshots

-- the readings that a snapshot keeps; none if there is no memory for a ticket.
abbrev pub readings_if : Bool → List ℕ → Option (List ℕ)
readings_if true readings = Some readings
readings_if false readings = None

-- the result of a snapshot: a ticket of the slot's contents, if there is memory for one. An empty
-- slot needs no memory.
abbrev pub snapshot : Option (List ℕ) → Job → ℕ → Option Present → Taken
snapshot kept job serial None = Missing
snapshot (Some readings) job serial (Some found) = Given (ticket_of job readings serial found)
snapshot None job serial (Some found) = Refused

-- the lease with this number, of an observer of a job's slot.
abbrev pub turn_of : Job → ℕ → Turn
turn_of job number = record { slot = job.origin.slot; number = number }

-- the result of a lease's snapshot. It is stale if the lease isn't active, whatever the slot's
-- contents.
abbrev pub turn_snapshot : Bool → Option (List ℕ) → Job → ℕ → Option Present → Taken
turn_snapshot true kept job serial present = snapshot kept job serial present
turn_snapshot false kept job serial present = Stale

-- the call that marks a lease as missing. The lease is active, and its snapshot finds the slot
-- empty.
abbrev pub mark_missing_calls : Bool → Turn → Option Present → List ObserverCall
mark_missing_calls true turn None = MarkMissing turn ∷ []
mark_missing_calls out turn present = []

-- whether the lease is active at this time.
abbrev pub is_out_at : Turn → ℕ → ObserverList → Bool
is_out_at turn at w = is_some (entry_out turn (list_at_time at w))

-- the calls of a lease's snapshot on the observers, the newest first.
abbrev pub turn_calls : Turn → ℕ → Option Present → ObserverList → List ObserverCall
turn_calls turn at present w = mark_missing_calls (is_out_at turn at w) turn present ++ Advance at ∷ []

-- the result of the snapshot of a slot with these observers, at this time. It is for a request, or
-- for the lease with this number.
abbrev pub snapshot_by : Option ℕ → Option (List ℕ) → Job → Slot → ℕ → ObserverList → Taken
snapshot_by None kept job slot at w = snapshot kept job slot.serial slot.present
snapshot_by (Some number) kept job slot at w = turn_snapshot (is_out_at (turn_of job number) at w) kept job slot.serial slot.present

-- the calls of that snapshot on the observers, the newest first.
abbrev pub snapshot_calls_by : Option ℕ → Job → Slot → ℕ → ObserverList → List ObserverCall
snapshot_calls_by None job slot at w = []
snapshot_calls_by (Some number) job slot at w = turn_calls (turn_of job number) at slot.present w

-- the result of a job's snapshot, for a request or a lease.
abbrev pub snapshot_at : Option (List ℕ) → Job → Slot → ℕ → ObserverList → Taken
snapshot_at kept job slot at w = snapshot_by job.turn kept job slot at w

-- the calls of a job's snapshot on the observers, the newest first.
abbrev pub snapshot_calls : Job → Slot → ℕ → ObserverList → List ObserverCall
snapshot_calls job slot at w = snapshot_calls_by job.turn job slot at w

-- the result of a request's snapshot of a slot, with memory for a ticket or without.
abbrev pub IsFinding : Job → List ℕ → Slot → Taken → Type 0
IsFinding job readings slot taken = (memory : Bool) × (taken ≡ snapshot (readings_if memory readings) job slot.serial slot.present)

-- the result of a lease's snapshot of a slot, with memory or without; it is stale if the lease
-- isn't active.
abbrev pub IsTurnSnapshot : Turn → ℕ → ObserverList → Job → List ℕ → Slot → Taken → Type 0
IsTurnSnapshot turn at w job readings slot taken = (memory : Bool) × (taken ≡ turn_snapshot (is_out_at turn at w) (readings_if memory readings) job slot.serial slot.present)

-- the result of a snapshot for the job of a request or a lease, with memory or without.
abbrev pub IsSnapshot : Job → List ℕ → Slot → ℕ → ObserverList → Taken → Type 0
IsSnapshot job readings slot at w taken = (memory : Bool) × (taken ≡ snapshot_at (readings_if memory readings) job slot at w)

-- the result of a job's snapshot at a shard, with these readings, of the job's slot and its
-- observers.
abbrev pub TakesAt : Job → List ℕ → Shard → Taken → Type 0
TakesAt job readings shard taken = IsSnapshot job readings (slot_in shard job.origin.slot) shard.now (watch_at shard (job.origin.slot / 8)) taken

-- the shard after a job's snapshot.
abbrev pub after_snapshot : Job → Shard → Shard
after_snapshot job shard = with_calls (snapshot_calls job (slot_in shard job.origin.slot) shard.now (watch_at shard (job.origin.slot / 8))) job.origin.slot shard

-- the result of a call, and the changes that it makes.
pub record Called (A : Type 0) : Type 0 where
  pub answer : A
  pub changes : List Change

-- ---- install

-- an install changes a slot that is below the last serial. The install's result has the new serial,
-- and whether the slot was empty.
abbrev pub put_by : Bool → Slot → Program → InitialVars → Called Made
put_by true slot p initial = record { answer = Raised (slot.serial + 1) (is_none slot.present); changes = Installed p initial ∷ [] }
put_by false slot p initial = record { answer = AtEnd; changes = [] }

-- the install of a program in a slot.
abbrev pub install_in : Slot → Program → InitialVars → Called Made
install_in slot p initial = put_by (nat_lt slot.serial last_serial) slot p initial

-- ---- remove

-- the removal of a program changes a slot that is below the last serial, and the result has the new
-- serial. The removal from an empty slot changes nothing.
abbrev pub clear_by : Bool → ℕ → Option Present → Called Removal
clear_by below serial None = record { answer = removals.Absent; changes = [] }
clear_by true serial (Some p) = record { answer = removals.Removed (serial + 1); changes = Removed ∷ [] }
clear_by false serial (Some p) = record { answer = removals.AtEnd; changes = [] }

-- the removal of a slot's program.
abbrev pub remove_from : Slot → Called Removal
remove_from slot = clear_by (nat_lt slot.serial last_serial) slot.serial slot.present

-- ---- receipt

-- the receipt of the program in a slot.
abbrev pub receipt_at : Option Present → Option Receipt
receipt_at None = None
receipt_at (Some p) = Some (receipt_of p.program p.version)

-- ---- the meaning of a ticket's run

-- whether the request is a POST.
abbrev pub is_post : Method → Bool
is_post Get = false
is_post Post = true

-- whether a run wants to write: it answers a POST with a code of class 2.
abbrev pub wants_by : Ran → Bool
wants_by ran = is_post ran.input.request.method && (code_class (meaning_of ran).code == 2)

-- whether the ticket's run wants to write.
abbrev pub wants : Ticket → Bool
wants t = wants_by (run_of t)

-- ---- commit

-- the slot is still as the ticket's snapshot found it.
pub record IsCurrent (t : Ticket) (slot : Slot) : Type 0 where
  pub serial : slot.serial ≡ t.serial
  pub present : slot.present ≡ Some t.found

-- the outcome of a commit of the ticket's run at this slot.
abbrev pub ComesTo : Ticket → Slot → CommitOutcome → Type 0
ComesTo t slot Keeps = wants t ≡ false
ComesTo t slot Overtakes = (wants t ≡ true) × (IsCurrent t slot → ⊥)
ComesTo t slot Ends = (wants t ≡ true) × IsCurrent t slot × (last_serial ≤ slot.serial)
ComesTo t slot Writes = (wants t ≡ true) × IsCurrent t slot × (slot.serial < last_serial)

-- the outcome by three tests: the run wants to write, the slot is current, and it is below the last
-- serial.
abbrev pub outcome_by : Bool → Bool → Bool → CommitOutcome
outcome_by false current below = Keeps
outcome_by true false below = Overtakes
outcome_by true true false = Ends
outcome_by true true true = Writes

-- the outcome by the serials of the ticket and of the slot.
abbrev pub outcome : Ticket → Slot → CommitOutcome
outcome t slot = outcome_by (wants t) (slot.serial == t.serial) (nat_lt slot.serial last_serial)

-- the slot may have given the ticket. The slot's serial isn't below the ticket's. If both serials
-- are equal, the slot has the program and the variables that the snapshot found.
pub record HasGiven (slot : Slot) (t : Ticket) : Type 0 where
  pub serial : t.serial ≤ slot.serial
  pub present : t.serial ≡ slot.serial → slot.present ≡ Some t.found

-- the mark of a commit of the ticket's run, at a slot of this serial.
abbrev pub mark_of : Ticket → ℕ → Bool → Bool → Mark
mark_of t serial changed observed = record { origin = t.origin; found = t.serial; serial = serial; changed = changed; observed = observed }

-- the commit of a ticket's run: it leaves just the variables of the run's meaning, and has the
-- notify flag of that meaning.
abbrev pub commit_of : Ticket → Commit
commit_of t = record { request = t.request; readings = t.readings; before = t.found.vars; after = (meaning_at t).vars; notice = (meaning_at t).notice }

-- the result and the changes of a commit, at a slot of this serial and with these observers.
abbrev pub commits : CommitOutcome → Ticket → ℕ → ObserverList → Called Committed
commits Writes t serial w = record { answer = Done (mark_of t (serial + 1) true false); changes = Wrote (commit_of t) ∷ [] }
commits Keeps t serial w = record { answer = Done (mark_of t serial false (is_observed t w)); changes = [] }
commits Overtakes t serial w = record { answer = Overtaken; changes = [] }
commits Ends t serial w = record { answer = Ended; changes = [] }

-- the calls of a commit on the observers, at this time. A commit that is done and changed nothing
-- may register or remove the client of a GET.
abbrev pub commit_calls : Committed → ℕ → Ticket → List ObserverCall
commit_calls (Done m) now t = if m.changed then [] else observe_calls now t
commit_calls other now t = []

-- the ticket isn't a lease's, and the outcome is that of the ticket's run.
pub record IsOwn (ran : Ran) (t : Ticket) (slot : Slot) : Type 0 where
  pub asked : t.turn ≡ None
  pub run : IsRunOf ran t slot.serial

-- a commit whose outcome belongs to the ticket, and the slot after it.
pub record IsCommitOf (t : Ticket) (slot : Slot) (w : ObserverList) (c : Committed) (after : Slot) : Type 0 where
  pub comes_to : CommitOutcome
  pub is : ComesTo t slot comes_to
  pub answer : c ≡ (commits comes_to t slot.serial w).answer
  pub after_is : after ≡ after_changes slot (commits comes_to t slot.serial w).changes

-- the commit of a run would write. The run is that of the ticket and wants to write, and the slot
-- is as the snapshot found it, below the last serial.
abbrev pub WouldWrite : Ran → Ticket → Slot → Type 0
WouldWrite ran t slot = (wants_by ran ≡ true) × IsOwn ran t slot × ComesTo t slot Writes

-- the outcome doesn't belong to the ticket, and the commit changes nothing.
pub record IsStranger (ran : Ran) (t : Ticket) (slot : Slot) (after : Slot) : Type 0 where
  pub stranger : IsOwn ran t slot → ⊥
  pub after_is : after ≡ slot

-- the outcome belongs to the ticket, and this is the result of its commit.
abbrev pub IsOwnCommit : Ran → Ticket → Slot → ObserverList → Committed → Slot → Type 0
IsOwnCommit ran t slot w c after = IsOwn ran t slot × IsCommitOf t slot w c after

-- the result of a commit at a slot with these observers, and the slot after it.
abbrev pub IsCommit : Ran → Ticket → Slot → ObserverList → Committed → Slot → Type 0
IsCommit ran t slot w Stranger after = IsStranger ran t slot after
IsCommit ran t slot w c after = IsOwnCommit ran t slot w c after

-- the result of a commit at this time. The commit changes only the shard's time, the ticket's slot,
-- and the observers of that slot.
pub record CommitsTo (ran : Ran) (t : Ticket) (old : Shard) (now : ℕ) (c : Committed) (new : Shard) : Type 0 where
  pub after : Slot
  pub commit : IsCommit ran t (slot_in old t.origin.slot) (watch_at old (t.origin.slot / 8)) c after
  pub shard : new ≡ with_calls (commit_calls c (max old.now now) t) t.origin.slot (with_slot (record old { now = max old.now now }) t.origin.slot after)

-- ---- notifications

-- the result of a notification at this time. The notification changes only the shard's time, and
-- the observers of the lease's slot.
pub record NotesTo (told : Notification) (turn : Turn) (id random : ℕ) (old : Shard) (now : ℕ) (noted : Noted) (new : Shard) : Type 0 where
  pub is : IsNoted told turn id (max old.now now) (slot_in old turn.slot).serial (watch_at old (turn.slot / 8)) noted
  pub after : new ≡ with_calls (note_calls turn id random (max old.now now) (ticket_told told) (sent_of noted)) turn.slot (at_time old now)
