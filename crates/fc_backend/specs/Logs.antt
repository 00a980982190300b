-- The log of a worker: that of its calls, and its tracks in the server's book.
use Rattle.std.specs.Prelude.{◌≡◌, ℕ, Bool, false, List, [], Option, Some}
use Rattle.fc_book.specs.declared.view.BookView.{BookView}
use Rattle.fc_calls.specs.Logged.{LoggedCall}
use Rattle.fc_linear.specs.Operations.{FailsToSave, Logged, Operation}
use Rattle.fc_filed.specs.declared.entry.FiledEntry.{FiledEntry}
use Rattle.fc_registry.specs.Changes.{Change}
use Rattle.fc_registry.specs.Slots.{Slot}
use Rattle.fc_store.specs.Recovery.{Save}
use Rattle.fc_filed.specs.Saves.{refused_save, update_of}
use Rattle.fc_filed.specs.Threads.{HasJobFirst, HasOwnTrack, did_by, did_if, did_with}
use Rattle.fc_backend.specs.declared.call_log.CallLog.{CallLog}
use Rattle.fc_book.specs.Tracks.{entries_at}

-- the log of its calls, the key of its own track, and its tracks.
pub record TrackedLog : Type 0 where
  pub calls : CallLog
  pub who : ℕ
  pub tracks : BookView FiledEntry

-- a worker with these tracks may file each call of the front, of a shard and of a head word: the
-- first track is a job's, or the one that the thread has while it has no job. The worker's own
-- track is among them. The worker begins no other track.
pub record MayFileAll (first_job who : ℕ) (v : BookView FiledEntry) : Type 0 where
  pub thread : HasOwnTrack first_job who v
  pub job : HasJobFirst first_job v
  pub begins_none : v.may_begin ≡ false

-- the log after the worker has filed the call: it is the last entry on the worker's own track. The
-- log of its calls is unchanged.
abbrev pub with_filed_call : LoggedCall → TrackedLog → TrackedLog
with_filed_call call log = record log { tracks = did_by log.who (Logged call) log.tracks }

-- the log after the worker has filed the operation with this save.
abbrev pub with_filed : Option Save → Operation → TrackedLog → TrackedLog
with_filed save operation log = record log { tracks = did_with save log.who operation log.tracks }

-- the worker has filed the operation, with a save or without.
abbrev pub FilesMaybeSaved : Operation → TrackedLog → TrackedLog → Type 0
FilesMaybeSaved operation before after = (save : Option Save) × (after ≡ with_filed save operation before)

-- the worker has filed that the store refuses to save the update of this change of slot n. An
-- install's has this image.
abbrev pub FilesRefusal : ℕ → Change → List ℕ → TrackedLog → TrackedLog → Type 0
FilesRefusal n change image before after = (slot : Slot) × (let update = update_of slot n change image in after ≡ with_filed (Some (refused_save update)) (FailsToSave update) before)

-- the log after a call that the worker has filed as this operation, or hasn't filed.
abbrev pub with_filed_if : Bool → Operation → TrackedLog → TrackedLog
with_filed_if files operation log = record log { tracks = did_if files log.who operation log.tracks }

-- a call that led the log of the worker's calls from one state to the next, and is not filed.
abbrev pub IsUnfiled : (CallLog → CallLog → Type 0) → TrackedLog → TrackedLog → Type 0
IsUnfiled Leads before after = Leads before.calls after.calls × (after ≡ record before { calls = after.calls })

-- the thread has filed nothing: each of its tracks is without an entry.
abbrev pub IsNewLog : TrackedLog → Type 0
IsNewLog log = (k : ℕ) → entries_at k log.tracks.own ≡ []
