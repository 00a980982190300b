-- Tracks that are one legal history: each is right by itself.
--
-- The last definitions are those of an owner of all tracks, and of a part that is closed.
use Rattle.std.specs.Prelude.{◌≡◌, ◌⊎◌, ℕ, ◌+◌, ◌<◌, ◌≤◌, List, [], ◌∷◌}
use Rattle.fc_book.specs.declared.view.Track.{Track}
use Rattle.fc_book.specs.declared.view.BookView.{BookView}
use Rattle.fc_book.specs.Tracks.{HasKey, on, part_view, with_part}
use Rattle.fc_registry.specs.Shards.{shard_at}
use Rattle.fc_server.specs.States.{ServerState}
use Rattle.fc_linear.specs.Operations.{FrontDoes, Operation, ShardDoes}
use Rattle.fc_linear.specs.Parts.{HaveNextNumbers, bringing}
use Rattle.fc_filed.specs.declared.entry.FiledEntry.{FiledEntry}
use Rattle.fc_filed.specs.Books.{IsRightForJob}
use Rattle.fc_filed.specs.Entries.{AreKeyed, ChangesWords, OperationsLead, entry_keys, log_of}

-- the parts' tracks lead from one server to another; the jobs' tracks are right for their jobs,
-- which came in the order of their keys.
pub record AreTracksRight (first_job : ℕ) (log : List FiledEntry) (first end : ServerState) : Type 0 where
  pub front : OperationsLead FrontDoes (on entry_keys 0 log) first.front end.front
  pub shards : (i : ℕ) → i < 8 → OperationsLead ShardDoes (on entry_keys (i + 1) log) (shard_at first.shards i) (shard_at end.shards i)
  pub heads : OperationsLead ChangesWords log first.words end.words
  pub jobs : (k : ℕ) → IsRightForJob first_job (on entry_keys (first_job + k) log)
  pub numbered : HaveNextNumbers 0 (bringing (log_of first_job log))
  pub keyed : AreKeyed first_job log

-- one of the tracks has this key, and these entries.
abbrev pub HasTrackOf : ℕ → List FiledEntry → List (Track FiledEntry) → Type 0
HasTrackOf k entries [] = ⊥
HasTrackOf k entries (t ∷ ts) = ((t.key ≡ k) × (t.entries ≡ entries)) ⊎ HasTrackOf k entries ts

-- a part's own track is among these, and leads it from one state to another.
pub record LeadsPart {S : Type 0} (Does : Operation → S → S → Type 0) (k : ℕ) (tracks : List (Track FiledEntry)) (first end : S) : Type 0 where
  pub entries : List FiledEntry
  pub has : HasTrackOf k entries tracks
  pub leads : OperationsLead Does entries first end

-- the owner has the tracks of all parts, and these lead from one server to another. It also has the
-- tracks of all threads. Each job's track that it has is right for its job.
pub record OwnsAll (first_job : ℕ) (v : BookView FiledEntry) (first end : ServerState) : Type 0 where
  pub front : LeadsPart FrontDoes 0 v.own first.front end.front
  pub shards : (i : ℕ) → i < 8 → LeadsPart ShardDoes (i + 1) v.own (shard_at first.shards i) (shard_at end.shards i)
  pub threads : (t : ℕ) → 10 ≤ t → t < first_job → HasKey t v.own
  pub jobs : (k : ℕ) (entries : List FiledEntry) → first_job ≤ k → HasTrackOf k entries v.own → IsRightForJob first_job entries

-- a part is closed. Its entries led it from one state to the other, and its track is now the first
-- of the owner's own.
pub record IsPartClosed {S : Type 0} (Lead : List FiledEntry → S → S → Type 0) (key : ℕ) (first end : S) (before after : BookView FiledEntry) : Type 0 where
  pub entries : List FiledEntry
  pub led : Lead entries first end
  pub closed : after ≡ with_part before (part_view key entries)
