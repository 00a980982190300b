-- A worker that moves tracks to its log may still file each call.
use Rattle.std.proofs.Common.{◌≡◌, ℕ, ◌≤◌, ◌++◌, Bool, true, false, if◌then◌else◌, [], ◌∷◌, refl, sym, ap, ◌∙◌, subst, arith}
use Rattle.std.specs.Prelude.{◌==◌}
use Rattle.fc_book.specs.declared.view.BookView.{BookView}
use Rattle.fc_book.specs.Tracks.{entries_at, merged_with, own_view}
use Rattle.fc_book.proofs.Owners.{has_right}
use Rattle.fc_filed.specs.declared.entry.FiledEntry.{FiledEntry}
use Rattle.fc_filed.specs.Threads.{key_of_first}
use Rattle.fc_backend.specs.Logs.{IsNewLog, MayFileAll, TrackedLog}
use Rattle.fc_backend.specs.Messages.{IsNewJob, TrackedJob, first_brought, with_new_track}

pub merged_keeps : (first_job who : ℕ) (v w : BookView FiledEntry) → first_job ≤ key_of_first (w.own ++ v.own) → MayFileAll first_job who v → MayFileAll first_job who (merged_with v w)
merged_keeps first_job who v w le h = record {
  thread = record { key = h.thread.key; own = has_right who w.own v.own h.thread.own };
  job = le;
  begins_none = h.begins_none;
}

pub received_keeps : (first_job who : ℕ) (v : BookView FiledEntry) (m : TrackedJob) → IsNewJob first_job m → MayFileAll first_job who v → MayFileAll first_job who (merged_with v m.tracks)
received_keeps first_job who v m new h =
    let above = new.above in
    subst (λ (w : BookView FiledEntry). MayFileAll first_job who (merged_with v w)) (sym new.tracks)
    (merged_keeps first_job who v (own_view new.key (new.entry ∷ [])) (omega (arith, above)) h)

-- the thread may still file each call after the next job's track has begun.
pub begun_keeps : (first_job who : ℕ) (v after w : BookView FiledEntry) (key : ℕ) → after ≡ merged_with v w → w ≡ own_view key [] → first_brought first_job ≤ key → MayFileAll first_job who v → MayFileAll first_job who after
begun_keeps first_job who v after w key is new above h =
    subst (λ (x : BookView FiledEntry). MayFileAll first_job who x) (sym (is ∙ ap (λ (x : BookView FiledEntry). merged_with v x) new)) (merged_keeps first_job who v (own_view key []) (omega (arith, above)) h)

-- nothing is filed on a track that has just begun.
pub new_with : (key : ℕ) (log : TrackedLog) → IsNewLog log → IsNewLog (with_new_track key log)
new_with key log new k = none_of (key == k)
  where
    none_of : (b : Bool) → (if b then [] else entries_at k log.tracks.own) ≡ []
    none_of true = refl
    none_of false = new k
