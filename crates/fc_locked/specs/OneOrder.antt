-- The filed calls of a server's threads, in one order.
use Rattle.std.specs.Prelude.{◌≡◌, ◌≢◌, ℕ, ◌+◌, ◌<◌, ◌≤◌, List, [], ◌∷◌, ◌++◌, length, map}
use Rattle.std.specs.List.{All, AllPairs, Any, flat_map}
use Rattle.fc_book.specs.declared.view.BookView.{BookView}
use Rattle.fc_book.specs.Tracks.{AreOn, HasKey, on}
use Rattle.fc_store.specs.declared.store.Store.{Ghosts}
use Rattle.fc_store.specs.Stored.{StoredSlots}
use Rattle.fc_registry.specs.Shards.{shard_at}
use Rattle.fc_server.specs.States.{ServerState}
use Rattle.fc_linear.specs.Operations.{FrontDoes, ShardDoes}
use Rattle.fc_filed.specs.declared.entry.FiledEntry.{FiledEntry}
use Rattle.fc_filed.specs.Books.{IsRightForJob}
use Rattle.fc_filed.specs.Entries.{AreKeyed, ChangesWords, OperationsLead, entries_by, entry_keys, front_entries, shard_entries}
use Rattle.fc_filed.specs.Idle.{AreSkipsIdle}
use Rattle.fc_filed.specs.Recovered.{HaveSavedOrder}
use Rattle.fc_filed.specs.Threads.{HasOwnTrack}
use Rattle.fc_locked.specs.declared.closed.ClosedServer.{ClosedServer}
use Rattle.fc_backend.specs.Logs.{TrackedLog}
use Rattle.fc_backend.specs.Statistics.{Share}
use Rattle.fc_backend.specs.RightTracks.{filed_in}

-- the logs of these workers, and then the log of another thread.
abbrev pub logs_of : {T : Type 0} → List (Share T) → Share T → List TrackedLog
logs_of {T} workers own = map (λ (s : Share T). s.log) workers ++ own.log ∷ []

-- the owner has the tracks of these logs, each of which has its thread's own track.
pub record HasTracksOf (first_job : ℕ) (logs : List TrackedLog) (v : BookView FiledEntry) : Type 0 where
  pub tracks : v.own ≡ flat_map (λ (log : TrackedLog). log.tracks.own) logs
  pub threads : All (λ (log : TrackedLog). HasOwnTrack first_job log.who log.tracks) logs

-- there is one list of calls, in one order. Each log has its thread's track. Its thread has filed
-- exactly the calls in the list that have its key, in that order. No two logs are of the same
-- thread, and each call is by a thread with one of the logs. The calls of the front lead from the
-- server's first front to the closed one, and those of each of the eight shards from the server's
-- first shard of its index to the closed one. The looks at head words and the raises lead the words
-- from the server's first ones to their last values. Each shard that was skipped was idle at that
-- place of the list, after its earlier calls. Each track of a log has exactly the calls with its
-- key. A job's track that no log has is right; the track of a lost message is an example.
pub record HaveOneOrder (first : ServerState) (logs : List TrackedLog) (closed : ClosedServer) : Type 0 where
  pub calls : List FiledEntry
  pub tracks : All (λ (log : TrackedLog). HasKey log.who log.tracks.own) logs
  pub own : All (λ (log : TrackedLog). filed_in log ≡ entries_by log.who calls) logs
  pub apart : AllPairs (λ (one other : TrackedLog). one.who ≢ other.who) logs
  pub callers : All (λ (e : FiledEntry). Any (λ (log : TrackedLog). log.who ≡ e.who) logs) calls
  pub front_led : OperationsLead FrontDoes (front_entries calls) first.front closed.front
  pub shards_led : (i : ℕ) → i < 8 → OperationsLead ShardDoes (shard_entries i calls) (shard_at first.shards i) (shard_at closed.shards i)
  pub words : List ℕ
  pub heads_led : OperationsLead ChangesWords calls first.words words
  pub skips : AreSkipsIdle first calls
  pub keyed : AreKeyed (10 + length logs) calls
  pub tracks_on : All (λ (log : TrackedLog). AreOn entry_keys calls log.tracks.own) logs
  pub lost : (k : ℕ) → 10 + length logs ≤ k → All (λ (log : TrackedLog). HasKey k log.tracks.own → ⊥) logs → IsRightForJob (10 + length logs) (on entry_keys k calls)

-- the saves of the server's store have their place in the one order. `g` has the ghosts of the
-- store's type. The store's first slots are `stored`.
pub record HaveSavedOneOrder {S : Type 0} (g : Ghosts S) (first : ServerState) (stored : StoredSlots) (logs : List TrackedLog) (closed : ClosedServer) : Type 0 where
  pub order : HaveOneOrder first logs closed
  pub saved : HaveSavedOrder g first stored closed.shards order.calls
