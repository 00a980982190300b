-- A worker keeps its tracks when a call is filed.
use Rattle.std.proofs.Common.{◌≡◌, ℕ, ◌≤◌, Bool, true, false, List, [], ◌∷◌, Option, None, subst, sym}
use Rattle.fc_book.specs.declared.view.Track.{Track}
use Rattle.fc_book.specs.declared.view.BookView.{BookView}
use Rattle.fc_book.specs.Tracks.{with_entry}
use Rattle.fc_book.proofs.Keys.{keeps-key}
use Rattle.fc_linear.specs.Operations.{Operation}
use Rattle.fc_filed.specs.declared.entry.FiledEntry.{FiledEntry}
use Rattle.fc_filed.specs.Entries.{entry_keys}
use Rattle.fc_store.specs.Recovery.{Save}
use Rattle.fc_filed.specs.Threads.{did_by, did_if, did_with, entry_with, key_of_first}
use Rattle.fc_backend.specs.Logs.{MayFileAll}

first_with : (first_job : ℕ) (e : FiledEntry) (ts : List (Track FiledEntry)) → first_job ≤ key_of_first ts → first_job ≤ key_of_first (with_entry entry_keys e ts)
first_with first_job e [] h = h
first_with first_job e (t ∷ ts) h = h

-- the worker's own track, and the one of its jobs, are still its own after it files an operation
-- with this save.
pub keeps_tracks_with : (first_job who : ℕ) (save : Option Save) (operation : Operation) (before : BookView FiledEntry) {after : BookView FiledEntry} → after ≡ did_with save who operation before
    → MayFileAll first_job who before → MayFileAll first_job who after
keeps_tracks_with first_job who save operation before is h =
    let e = entry_with save who before operation in
    subst (λ (v : BookView FiledEntry). MayFileAll first_job who v) (sym is) (record {
      thread = record { key = h.thread.key; own = keeps-key entry_keys who e before.own h.thread.own };
      job = first_with first_job e before.own h.job;
      begins_none = h.begins_none;
    })

pub keeps_tracks : (first_job who : ℕ) (operation : Operation) (before : BookView FiledEntry) {after : BookView FiledEntry} → after ≡ did_by who operation before
    → MayFileAll first_job who before → MayFileAll first_job who after
keeps_tracks first_job who operation before is h = keeps_tracks_with first_job who None operation before is h

-- the same after a call that is filed or isn't.
pub keeps_tracks_if : (first_job who : ℕ) (files : Bool) (operation : Operation) (before : BookView FiledEntry) {after : BookView FiledEntry} → after ≡ did_if files who operation before
    → MayFileAll first_job who before → MayFileAll first_job who after
keeps_tracks_if first_job who true operation before is h = keeps_tracks first_job who operation before is h
keeps_tracks_if first_job who false operation before is h = subst (λ (v : BookView FiledEntry). MayFileAll first_job who v) (sym is) h
