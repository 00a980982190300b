-- Contracts of the calls of a server with locks: the effect of each call, on the front or on the
-- shard of an index. The state before a call isn't stated, since other threads change it between
-- two calls.
use Rattle.std.specs.Prelude.{◌≡◌, ℕ, ◌%◌, ◌<◌, ⊤, true, false, List, Option, replicate}
use Rattle.fc_store.specs.declared.store.Store.{Ghosts}
use Rattle.fc_verify.specs.Accepted.{Accepts}
use Rattle.fc_verify.specs.Judged.{judged}
use Rattle.fc_front.specs.Exchanges.{FrontState}
use Rattle.fc_core.specs.Stages.{image_of}
use Rattle.fc_core.specs.Steps.{Commits, Installs, Removes, changes_of_call}
use Rattle.fc_server.specs.States.{ServerState, confirm_after_of}
use Rattle.fc_locked.specs.Fronts.{BeganAt}
use Rattle.fc_backend.specs.declared.call_log.CallLog.{CallLog}
use Rattle.fc_linear.specs.Operations.{Logged}
use Rattle.fc_backend.specs.Logs.{FilesMaybeSaved, IsUnfiled, TrackedLog, with_filed_call, with_filed}
use Rattle.fc_ticket.specs.Runs.{initial_vars_of}
use Rattle.fc_registry.specs.Slots.{Shard}
use Rattle.fc_backend.specs.Called.{BenchCall, CountsObservers, LeavesUnquiet, LooksAhead, ReadsGauges, RefusesSave, FindsSaving}
use Rattle.fc_locked.specs.SharedStores.{HasSaved, LeavesUnsaved, Saving, WithSave}
use Rattle.fc_calls.specs.Logged.{LoggedCall, HandlesDatagram, DrawsId, AnswersRequest, TakesForJob, CommitsRun, InstallsProgram, RemovesProgram, TellsReceipt}
use Rattle.fc_calls.specs.Logged.{GivesReadings, ReadsCost, LooksAt, AdvancesFront, FiresTimer, HandsSignal, AdvancesIdle, SkipsIdle, AdvancesShard, GivesTurn, NotesTurn, GivesUpTurn, RaisesWord}
use Rattle.fc_calls.specs.Kept.{confirm_times}
use Rattle.fc_calls.specs.Doings.{AdvancesTo, AnswersAt, CommitsAt, DescribesTo, DrawsAt, FiresAt, GivesTurnAt, GivesUpAt, HandsOn, HandlesAt, InstallsTo, NotesAt, PassesIfIdle, RemovesFrom, TakesTo, FindsCost, TellsGauges, TellsIdleUntil, TellsObservers, TicksAt}
use Rattle.fc_backend.specs.Filed.{FilesEach, HasFiled, shard_called, HasFiledChange}
use Rattle.fc_store.specs.Recovery.{Save}

-- a call with this effect was made on the shard with this index, 0 to 7, of a server that began so.
pub record IsAsked (first : ServerState) (index : ℕ) (Does : Shard → Shard → Type 0) : Type 0 where
  pub before : Shard
  pub after : Shard
  pub of : index < 8 → before.index ≡ index
  pub confirms : confirm_times before ≡ replicate 8 (confirm_after_of first)
  pub does : Does before after

-- a call with this effect was made on a front that began in this state.
pub record IsFrontAsked (first : FrontState) (Does : FrontState → FrontState → Type 0) : Type 0 where
  pub before : FrontState
  pub after : FrontState
  pub began : ∥ BeganAt first before ∥₁
  pub does : Does before after

-- the peripherals of a server. Its device returned these readings in a call that led the log from
-- one state to the next. Its store saved these changes of a slot, with this result.
pub record Peripherals : Type 1 where
  pub are_readings : List ℕ → CallLog → CallLog → Type 0
  pub saves : Saving

-- the peripherals of a server with this device and this kind of store.
abbrev pub peripherals : (List ℕ → CallLog → CallLog → Type 0) → {S : Type 0} → Ghosts S → Peripherals
peripherals AreReadings g = record { are_readings = AreReadings; saves = HasSaved g }

-- the meaning of an unlogged call of a server that began so: the front, or the shard with this
-- index, was called. Whether a shard is found being saved tells nothing of its state.
abbrev pub IsServerCall : ServerState → Peripherals → BenchCall → Type 0
IsServerCall first io (LeavesUnquiet shard now) = IsAsked first shard (λ before after. PassesIfIdle now before false after)
IsServerCall first io (LooksAhead shard until) = IsAsked first shard (λ before after. TellsIdleUntil before until after)
IsServerCall first io (ReadsGauges now gauges) = IsFrontAsked first.front (λ before after. TellsGauges now before gauges after)
IsServerCall first io (CountsObservers shard counts) = IsAsked first shard (λ before after. TellsObservers before counts after)
IsServerCall first io (RefusesSave slot change) = IsAsked first (slot % 8) (LeavesUnsaved io.saves slot change)
IsServerCall first io (FindsSaving slot) = ⊤

-- a call with this effect was made on such a front, and is filed: it is the last entry on the
-- worker's own track.
abbrev pub IsFrontCall : FrontState → (FrontState → FrontState → Type 0) → LoggedCall → TrackedLog → TrackedLog → Type 0
IsFrontCall first Does call before after = IsFrontAsked first Does × (after ≡ with_filed_call call before)

-- a call with this effect was made on the shard with this index, and is filed: it is the last entry
-- on the worker's own track.
abbrev pub IsShardCall : ServerState → ℕ → (Shard → Shard → Type 0) → LoggedCall → TrackedLog → TrackedLog → Type 0
IsShardCall first index Does call before after = IsAsked first index Does × (after ≡ with_filed_call call before)

-- the same of a call that may change a slot. It is filed with some save or with none, which the
-- shard's track determines.
abbrev pub IsChangeCall : ServerState → ℕ → (Shard → Shard → Type 0) → LoggedCall → TrackedLog → TrackedLog → Type 0
IsChangeCall first index Does call before after = IsAsked first index Does × FilesMaybeSaved (Logged call) before after

-- the meaning of a call in a worker's log. The call got the device's readings, called the front or
-- a shard, skipped a shard, or read or raised a head word. The changes of a slot are saved, and the
-- image of an install with them if the program is that of the job's image. Each call is filed,
-- except the one for readings. A change that is saved is filed with its save.
abbrev pub IsLoggedCall : ServerState → Peripherals → LoggedCall → TrackedLog → TrackedLog → Type 0
IsLoggedCall first io (GivesReadings readings) before after = IsUnfiled (io.are_readings readings) before after
IsLoggedCall first io (TellsReceipt job receipt) before after = IsShardCall first (job.origin.slot % 8) (λ x y. DescribesTo job x receipt y) (TellsReceipt job receipt) before after
IsLoggedCall first io (ReadsCost slot cost) before after = IsShardCall first (slot % 8) (λ x y. FindsCost slot x cost y) (ReadsCost slot cost) before after
IsLoggedCall first io (LooksAt slot word) before after = after ≡ with_filed_call (LooksAt slot word) before
IsLoggedCall first io (HandlesDatagram now from bytes brings) before after = IsFrontCall first.front (HandlesAt now from bytes brings) (HandlesDatagram now from bytes brings) before after
IsLoggedCall first io (AdvancesFront now) before after = IsFrontCall first.front (AdvancesTo now) (AdvancesFront now) before after
IsLoggedCall first io (FiresTimer slot now) before after = IsFrontCall first.front (FiresAt now) (FiresTimer slot now) before after
IsLoggedCall first io (DrawsId now drawn) before after = IsFrontCall first.front (DrawsAt now drawn) (DrawsId now drawn) before after
IsLoggedCall first io (AnswersRequest now job content sent) before after = IsFrontCall first.front (AnswersAt now job content sent) (AnswersRequest now job content sent) before after
IsLoggedCall first io (TakesForJob job readings taken) before after = IsShardCall first (job.origin.slot % 8) (λ x y. TakesTo job readings x taken y) (TakesForJob job readings taken) before after
IsLoggedCall first io (CommitsRun now ran ticket committed) before after =
    IsChangeCall first (ticket.origin.slot % 8) (WithSave io.saves ⊤ ticket.origin.slot (changes_of_call (Commits 0 ticket committed)) (λ x y. CommitsAt now ran ticket x committed y)) (CommitsRun now ran ticket committed) before after
IsLoggedCall first io (InstallsProgram job program made) before after =
    let verified = judged (image_of job.ask) ≡ Accepts program in
    IsChangeCall first (job.origin.slot % 8) (WithSave io.saves verified job.origin.slot (changes_of_call (Installs program (initial_vars_of job.ask) made)) (λ x y. InstallsTo job program x made y)) (InstallsProgram job program made) before after
IsLoggedCall first io (RemovesProgram job removal) before after =
    IsChangeCall first (job.origin.slot % 8) (WithSave io.saves ⊤ job.origin.slot (changes_of_call (Removes removal)) (λ x y. RemovesFrom job x removal y)) (RemovesProgram job removal) before after
IsLoggedCall first io (HandsSignal shard from message reset) before after = IsShardCall first shard (λ x y. HandsOn reset from message x y) (HandsSignal (shard_called shard) from message reset) before after
IsLoggedCall first io (AdvancesIdle shard now) before after = IsShardCall first shard (λ x y. PassesIfIdle now x true y) (AdvancesIdle (shard_called shard) now) before after
IsLoggedCall first io (SkipsIdle shard now) before after = after ≡ with_filed_call (SkipsIdle (shard_called shard) now) before
IsLoggedCall first io (AdvancesShard shard now ticked) before after = IsShardCall first shard (λ x y. TicksAt now x ticked y) (AdvancesShard (shard_called shard) now ticked) before after
IsLoggedCall first io (GivesTurn shard now turn) before after = IsShardCall first shard (λ x y. GivesTurnAt now x turn y) (GivesTurn (shard_called shard) now turn) before after
IsLoggedCall first io (NotesTurn turn message now random told noted) before after = IsShardCall first (turn.slot % 8) (λ x y. NotesAt turn message now random told x noted y) (NotesTurn turn message now random told noted) before after
IsLoggedCall first io (GivesUpTurn turn now) before after = IsShardCall first (turn.slot % 8) (λ x y. GivesUpAt now turn x y) (GivesUpTurn turn now) before after
IsLoggedCall first io (RaisesWord slot word) before after = after ≡ with_filed_call (RaisesWord slot word) before

pub filed_alone : (call : LoggedCall) (before after : TrackedLog) → after ≡ with_filed_call call before → HasFiled (Logged call) before after
filed_alone call before after is = record { who = λ i. (is i).who; tracks = λ i. (is i).tracks }

pub filed_change : (call : LoggedCall) (before after : TrackedLog) (save : Option Save) → after ≡ with_filed save (Logged call) before → HasFiledChange (Logged call) before after
filed_change call before after save is = (save, record { who = λ i. (is i).who; tracks = λ i. (is i).tracks })

-- a server with locks files each of its logged calls.
pub locked_files : (first : ServerState) (io : Peripherals) → FilesEach (IsLoggedCall first io)
locked_files first io (GivesReadings readings) before after is = record { who = λ i. (is.1 i).who; tracks = λ i. (is.1 i).tracks }
locked_files first io (TellsReceipt job receipt) before after is = filed_alone (TellsReceipt job receipt) before after is.1
locked_files first io (ReadsCost slot cost) before after is = filed_alone (ReadsCost slot cost) before after is.1
locked_files first io (LooksAt slot word) before after is = filed_alone (LooksAt slot word) before after is
locked_files first io (HandlesDatagram now from bytes brings) before after is = filed_alone (HandlesDatagram now from bytes brings) before after is.1
locked_files first io (AdvancesFront now) before after is = filed_alone (AdvancesFront now) before after is.1
locked_files first io (FiresTimer slot now) before after is = filed_alone (FiresTimer slot now) before after is.1
locked_files first io (DrawsId now id) before after is = filed_alone (DrawsId now id) before after is.1
locked_files first io (AnswersRequest now job content sent) before after is = filed_alone (AnswersRequest now job content sent) before after is.1
locked_files first io (TakesForJob job readings taken) before after is = filed_alone (TakesForJob job readings taken) before after is.1
locked_files first io (CommitsRun now ran ticket committed) before after is = filed_change (CommitsRun now ran ticket committed) before after is.1.0 is.1.1
locked_files first io (InstallsProgram job program made) before after is = filed_change (InstallsProgram job program made) before after is.1.0 is.1.1
locked_files first io (RemovesProgram job removal) before after is = filed_change (RemovesProgram job removal) before after is.1.0 is.1.1
locked_files first io (HandsSignal shard from id reset) before after is = filed_alone (HandsSignal (shard_called shard) from id reset) before after is.1
locked_files first io (AdvancesIdle shard now) before after is = filed_alone (AdvancesIdle (shard_called shard) now) before after is.1
locked_files first io (SkipsIdle shard now) before after is = filed_alone (SkipsIdle (shard_called shard) now) before after is
locked_files first io (AdvancesShard shard now ticked) before after is = filed_alone (AdvancesShard (shard_called shard) now ticked) before after is.1
locked_files first io (GivesTurn shard now turn) before after is = filed_alone (GivesTurn (shard_called shard) now turn) before after is.1
locked_files first io (NotesTurn turn id now random told noted) before after is = filed_alone (NotesTurn turn id now random told noted) before after is.1
locked_files first io (GivesUpTurn turn now) before after is = filed_alone (GivesUpTurn turn now) before after is.1
locked_files first io (RaisesWord slot word) before after is = filed_alone (RaisesWord slot word) before after is
