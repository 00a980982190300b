-- The calls of a worker as they are filed: what they add to the worker's tracks.
use Rattle.std.specs.Prelude.{◌≡◌, ℕ, Option, None, min}
use Rattle.fc_calls.specs.Logged.{LoggedCall}
use Rattle.fc_calls.specs.Logged.{AdvancesIdle, AdvancesShard, CommitsRun, GivesReadings, GivesTurn}
use Rattle.fc_calls.specs.Logged.{HandsSignal, InstallsProgram, RemovesProgram, SkipsIdle}
use Rattle.fc_linear.specs.Operations.{Logged, Operation}
use Rattle.fc_store.specs.Recovery.{Save}
use Rattle.fc_filed.specs.Threads.{did_with}
use Rattle.fc_backend.specs.Logs.{TrackedLog}

-- ---- one call

-- the worker has filed nothing: its tracks are unchanged.
pub record HasSameTracks (before after : TrackedLog) : Type 0 where
  pub who : after.who ≡ before.who
  pub tracks : after.tracks ≡ before.tracks

-- the worker has filed the operation with this save.
pub record HasFiledWith (save : Option Save) (operation : Operation) (before after : TrackedLog) : Type 0 where
  pub who : after.who ≡ before.who
  pub tracks : after.tracks ≡ did_with save before.who operation before.tracks

-- the worker has filed the operation. It saves nothing.
abbrev pub HasFiled : Operation → TrackedLog → TrackedLog → Type 0
HasFiled operation before after = HasFiledWith None operation before after

-- the worker has filed the operation, with a save or without.
abbrev pub HasFiledChange : Operation → TrackedLog → TrackedLog → Type 0
HasFiledChange operation before after = (save : Option Save) × HasFiledWith save operation before after

-- the index of the shard that is called: an index above 7 counts as 7.
abbrev pub shard_called : ℕ → ℕ
shard_called index = min index 7

-- the call as it is filed: an index of a shard above 7 counts as 7.
abbrev pub filed_call : LoggedCall → LoggedCall
filed_call (HandsSignal shard from id reset) = HandsSignal (shard_called shard) from id reset
filed_call (AdvancesIdle shard now) = AdvancesIdle (shard_called shard) now
filed_call (SkipsIdle shard now) = SkipsIdle (shard_called shard) now
filed_call (AdvancesShard shard now ticked) = AdvancesShard (shard_called shard) now ticked
filed_call (GivesTurn shard now turn) = GivesTurn (shard_called shard) now turn
filed_call other = other

-- the worker has filed the call, a change with its save; a call for readings is not filed.
abbrev pub IsFiledCall : LoggedCall → TrackedLog → TrackedLog → Type 0
IsFiledCall (GivesReadings readings) before after = HasSameTracks before after
IsFiledCall (CommitsRun now ran ticket committed) before after = HasFiledChange (Logged (CommitsRun now ran ticket committed)) before after
IsFiledCall (InstallsProgram job program made) before after = HasFiledChange (Logged (InstallsProgram job program made)) before after
IsFiledCall (RemovesProgram job removal) before after = HasFiledChange (Logged (RemovesProgram job removal)) before after
IsFiledCall call before after = HasFiled (Logged (filed_call call)) before after

-- each call that is logged in this way is filed.
abbrev pub FilesEach : (LoggedCall → TrackedLog → TrackedLog → Type 0) → Type 0
FilesEach Leads = (call : LoggedCall) (before after : TrackedLog) → Leads call before after → IsFiledCall call before after
