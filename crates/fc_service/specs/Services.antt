-- Servers that have run: on one thread, or with workers.
use Rattle.std.specs.Prelude.{◌≡◌, ◌+◌, ◌⊎◌, ⊤, ℕ, List, [], ◌∷◌, ◌++◌, length, map, Bool, false, true, Option, Some, None}
use Rattle.std.specs.Option.{option_to_list}
use Rattle.fc_registry.specs.Slots.{Shard}
use Rattle.fc_filed.specs.declared.entry.FiledEntry.{FiledEntry}
use Rattle.fc_locked.specs.Counts.{Tallies}
use Rattle.fc_workers.specs.declared.dispatcher.Offload.{Offload}
use Rattle.fc_workers.specs.declared.dispatcher.Offload.TheVariants.{ChangesAndExpensive, Expensive}
use Rattle.fc_backend.specs.Statistics.{Share}
use Rattle.fc_jobs.specs.Ends.{Channel}
use Rattle.fc_backend.specs.declared.call_log.CallLog.{CallLog}
use Rattle.fc_workers.specs.Views.{WorkerView}
use Rattle.fc_workers.specs.Deliveries.{Delivery}
use Rattle.fc_locked.specs.LegalOrder.{HaveLegalOrder}
use Rattle.fc_backend.specs.Messages.{TrackedJob}
use Rattle.fc_locked.specs.OneOrder.{logs_of}
use Rattle.fc_locked.specs.SharedStores.{Saving}
use Rattle.fc_locked.specs.declared.closed.ClosedServer.{ClosedServer}
use Rattle.fc_server.specs.States.{ServerState}
use Rattle.fc_record.specs.ProgramRequests.{Requested}
use Rattle.fc_record.specs.Recording.{Recording, recorded_calls}
use Rattle.fc_record.specs.declared.report.Report.{Report}
use Rattle.fc_host.specs.Sockets.{Incoming, IsHanded, Receive}
use Rattle.fc_host.specs.declared.timer.Timer.{Timer}
use Rattle.fc_service.specs.SingleThread.{ReadiesRecorded}
use Rattle.fc_host.specs.Clocks.{AreReadAt}
use Rattle.fc_pool.specs.Counting.{both_replies, replies_by, replies_of}
use Rattle.fc_pool.specs.Pooled.{AreSharesAt, PooledIngress, IsNew, offload_where, locked_view, pooled_calls}
use Rattle.fc_config.specs.declared.options.Extent.{Extent}
use Rattle.fc_pool.specs.declared.replies.Replies.{Replies}
use Rattle.fc_receive.specs.Rounds.{HasReceivedWith, HasRun, HasRunReported, HasRunTimed, Round, RoundCalls}

-- ---- a server on one thread

-- a server that started in this state has run on one thread, with these sensors, until this number
-- of datagrams was received. Each program change that it answered was recorded, once.
pub record HasServed (sensors : List ℕ → Type 0) (e : RoundCalls) (Recorded : Requested → CallLog → CallLog → Type 0) (limit : ℕ) (start : ServerState) (before after : Option (List Receive)) (replies : Replies) : Type 0 where
  pub first : Recording
  pub last : Recording
  pub begins : first.alone.engine ≡ start
  pub run : HasRun (ReadiesRecorded sensors) (recorded_calls Recorded) e limit before after first last replies

-- the same, and its counts were reported with this period, in milliseconds.
pub record HasServedReported (every : ℕ) (Reported : Report → CallLog → CallLog → Type 0) (sensors : List ℕ → Type 0) (e : RoundCalls) (Recorded : Requested → CallLog → CallLog → Type 0) (limit : ℕ) (start : ServerState) (before after : Option (List Receive)) (replies : Replies) : Type 0 where
  pub first : Recording
  pub last : Recording
  pub begins : first.alone.engine ≡ start
  pub run : HasRunReported every Reported (ReadiesRecorded sensors) (recorded_calls Recorded) e limit before after first last replies

-- the same with these timers, and with a period of reports or without one.
pub record HasServedTimed (timers : List Timer) (every : Option ℕ) (Reported : Report → CallLog → CallLog → Type 0) (sensors : List ℕ → Type 0) (e : RoundCalls) (Recorded : Requested → CallLog → CallLog → Type 0) (limit : ℕ) (start : ServerState) (before after : Option (List Receive)) (replies : Replies) : Type 0 where
  pub first : Recording
  pub last : Recording
  pub begins : first.alone.engine ≡ start
  pub run : HasRunTimed timers every Reported (ReadiesRecorded sensors) (recorded_calls Recorded) e limit before after first last replies

-- the same with timers or without, and with a period of reports, in milliseconds, or without one.
abbrev pub HasServedBy : List Timer → Option ℕ → (Report → CallLog → CallLog → Type 0) → (List ℕ → Type 0) → RoundCalls → (Requested → CallLog → CallLog → Type 0) → ℕ → ServerState → Option (List Receive) → Option (List Receive) → Replies → Type 0
HasServedBy [] None Reported sensors e Recorded limit start before after replies = HasServed sensors e Recorded limit start before after replies
HasServedBy [] (Some every) Reported sensors e Recorded limit start before after replies = HasServedReported every Reported sensors e Recorded limit start before after replies
HasServedBy (t ∷ ts) every Reported sensors e Recorded limit start before after replies = HasServedTimed (t ∷ ts) every Reported sensors e Recorded limit start before after replies

-- ---- a server with workers

-- the delivery of a received datagram at this time.
abbrev pub delivery_at : ℕ → Incoming → Delivery
delivery_at now incoming = record { now = now; from = incoming.from; bytes = incoming.bytes }

-- the deliveries of rounds, the oldest first: each received datagram, at the time of its round.
abbrev pub deliveries_of : List Round → List Delivery
deliveries_of [] = []
deliveries_of (r ∷ rs) = deliveries_of rs ++ map (delivery_at r.now) (option_to_list r.received)

-- the calls of a server with workers that started in this state. Its programs read the clock and
-- these sensors, its store saves changes in this way, and its replies are passed to the sink. Each
-- program change that is answered is recorded, once.
abbrev pub served_view : (List ℕ → Type 0) → RoundCalls → (Requested → CallLog → CallLog → Type 0) → Saving → ServerState → WorkerView Tallies
served_view sensors e Recorded Saves start = locked_view start (AreReadAt e.time sensors) Saves e.time (λ random. ⊤) (IsHanded e.went) Recorded

-- the dispatch policy of a server. Runs of 6,000 steps and more may be sent to the workers. If the
-- store is persistent, so may jobs that may change a slot, and jobs that a save would hold up.
abbrev pub offload_of : (persistent : Bool) → Offload
offload_of true = ChangesAndExpensive 6000
offload_of false = Expensive 6000

-- this number of datagrams was received, each in a round of one dispatcher, which began new. Jobs
-- may be sent to the workers by the dispatch policy, or no job if no worker was started. The
-- replies are those of the rounds, of the jobs of this number of workers, and of the dispatcher's
-- jobs. The calls that the workers and the dispatcher filed have one order, from the state in which
-- the server started to a closed server. It legally continues each history that leaves this state
-- without jobs. The store's saves have their place in the order (`Kept`).
pub record HasServedPooled (s : WorkerView Tallies) (timers : List Timer) (every : Option ℕ) (Reported : Report → CallLog → CallLog → Type 0) (e : RoundCalls) (workers limit : ℕ) (persistent : Bool) (start : ServerState) (Kept : List Shard → List FiledEntry → Type 0) (before after : Option (List Receive)) (replies : Replies) : Type 0 where
  pub channel : Channel TrackedJob
  pub first : PooledIngress Tallies
  pub last : PooledIngress Tallies
  pub has_workers : Bool
  pub new : IsNew (10 + (workers + 1)) channel (offload_where has_workers (offload_of persistent)) first
  pub at_once : Replies
  pub run : HasReceivedWith timers every Reported (λ now old new. new ≡ old) (pooled_calls s) e limit before after first last at_once
  pub shares : List (Share Tallies)
  pub worked : AreSharesAt s (10 + (workers + 1)) channel shares
  pub count : length shares ≡ workers
  pub all : replies ≡ both_replies at_once (both_replies (replies_of shares) (replies_by last.done.share))
  pub closed : ClosedServer
  pub order : HaveLegalOrder start (logs_of shares last.done.share) closed
  pub saved : Kept closed.shards order.order.calls

-- ---- a server with this number of workers

-- a server runs all jobs on the receiving thread: it has one worker, and its store isn't
-- persistent.
abbrev pub IsOneThread : (workers : ℕ) → (persistent : Bool) → Type 0
IsOneThread workers persistent = (workers ≡ 1) × (persistent ≡ false)

-- a server that started in this state has run on the receiving thread, or with its workers, which
-- saved changes in this way, and whose saves have their place in the order of the calls.
abbrev pub IsServed : List Timer → (List ℕ → Type 0) → RoundCalls → (Requested → CallLog → CallLog → Type 0) → Option ℕ → (Report → CallLog → CallLog → Type 0) → Extent → Saving → (persistent : Bool) → (start : ServerState) → (List Shard → List FiledEntry → Type 0) → Option (List Receive) → Option (List Receive) → Replies → Type 0
IsServed timers sensors e Recorded every Reported extent Saves persistent start Kept before after replies =
    (IsOneThread extent.workers persistent × HasServedBy timers every Reported sensors e Recorded extent.limit start before after replies)
    ⊎ ((IsOneThread extent.workers persistent → ⊥) × HasServedPooled (served_view sensors e Recorded Saves start) timers every Reported e extent.workers extent.limit persistent start Kept before after replies)
