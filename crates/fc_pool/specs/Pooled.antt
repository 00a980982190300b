-- Effects of a pool's dispatcher and of its driver.
use Rattle.std.specs.Prelude.{◌≡◌, ◌⊎◌, ◌+◌, ◌<◌, ⊤, ℕ, Bool, List, [], Option, length, slice_index, slice_index_or, None, Some, true, false}
use Rattle.std.specs.List.{All}
use Rattle.std.specs.Borrow.{Bor}
use Rattle.coap_msg.specs.declared.types.Emission.{Emission}
use Rattle.coap_msg.specs.declared.types.Endpoint.{Endpoint}
use Rattle.fc_front.specs.declared.front.Handled.{Handled}
use Rattle.fc_observe.specs.declared.observers.Ticked.{Ticked}
use Rattle.fc_registry.specs.Slots.{Shard}
use Rattle.fc_ticket.specs.declared.job.Job.{Job}
use Rattle.fc_server.specs.Notified.{Notified, is_given, notification_in}
use Rattle.fc_backend.specs.Answers.{IsSomeTick}
use Rattle.fc_locked.specs.Asked.{IsLoggedCall, IsServerCall, Peripherals}
use Rattle.fc_locked.specs.SharedStores.{Saving}
use Rattle.fc_calls.specs.Logged.{AdvancesFront, AdvancesShard, LoggedCall}
use Rattle.fc_backend.specs.Called.{BenchCall, CountsObservers, LooksAhead, ReadsGauges, WireCall}
use Rattle.fc_workers.specs.Views.{WorkerView, worker_view}
use Rattle.fc_locked.specs.Counts.{Tallies}
use Rattle.fc_workers.specs.Dispatch.{HasCalled, IsAdvancedOrSkipped, IsTakenIn, IsTimerFired, IsTurnAsked}
use Rattle.fc_backend.specs.Statistics.{new_share, Share}
use Rattle.fc_workers.specs.Shares.{AreSharesOf}
use Rattle.fc_jobs.specs.Ends.{Channel, nothing_got, nothing_sent}
use Rattle.fc_backend.specs.declared.call_log.CallLog.{CallLog}
use Rattle.fc_locked.specs.declared.closed.ClosedServer.{ClosedServer}
use Rattle.fc_backend.specs.Logs.{TrackedLog, IsNewLog}
use Rattle.fc_filed.specs.declared.entry.FiledEntry.{FiledEntry}
use Rattle.fc_filed.specs.Threads.{HasJobFirst, HasOwnTrack}
use Rattle.fc_locked.specs.LegalOrder.{HaveLegalOrder}
use Rattle.fc_backend.specs.Messages.{TrackedJob}
use Rattle.fc_locked.specs.OneOrder.{logs_of}
use Rattle.fc_workers.specs.Workers.{Dispatched, WorkerSeed}
use Rattle.fc_workers.specs.declared.dispatcher.Offload.{Offload}
use Rattle.fc_workers.specs.declared.dispatcher.Offload.TheVariants.{Never}
use Rattle.fc_pool.specs.Counting.{both_replies, replies_by, replies_of}
use Rattle.fc_pool.specs.declared.replies.Replies.{Replies}
use Rattle.fc_server.specs.Ingresses.{IngressCalls, never}
use Rattle.fc_server.specs.declared.engine.FireOutcome.{FireOutcome}
use Rattle.fc_server.specs.declared.engine.FireOutcome.TheVariants as fired
use Rattle.fc_server.specs.declared.gauges.Gauges.{Gauges}
use Rattle.fc_server.specs.States.{ServerState}
use Rattle.fc_record.specs.ProgramRequests.{Requested}
use Rattle.fc_record.specs.Recording.{IsRecorded}

-- the view of a dispatcher: its dispatch policy, and the effects of its calls.
pub record PooledIngress (T : Type 0) : Type 0 where
  pub offload : Offload
  pub done : Dispatched T

-- the dispatch policy if workers were started; `Never` if they weren't.
abbrev pub offload_where : Bool → Offload → Offload
offload_where true offload = offload
offload_where false offload = Never

-- a dispatcher with this policy that has sent nothing by this channel, and done nothing. Its log
-- is new, and has the dispatcher's own track, so that each call it files is an entry of that track.
-- The first of its tracks is a job's, so a job that is sent leaves the own track here.
pub record IsNew {T : Type 0} (first_job : ℕ) (channel : Channel TrackedJob) (offload : Offload) (d : PooledIngress T) : Type 0 where
  pub offload_is : d.offload ≡ offload
  pub tallies : T
  pub log : TrackedLog
  pub new_log : IsNewLog log
  pub own : HasOwnTrack first_job log.who log.tracks
  pub job : HasJobFirst first_job log.tracks
  pub done : d.done ≡ record { sent = nothing_sent channel; share = new_share (nothing_got channel) tallies log }

module _ {T : Type 0} (s : WorkerView T) where
  abbrev pub HandlesPooled : ℕ → Endpoint → Bor (List ℕ) → PooledIngress T → PooledIngress T → Handled → Emission → Type 0
  HandlesPooled now from bytes old new handled reply = IsTakenIn s old.offload now from bytes.now handled reply old.done new.done × (new.offload ≡ old.offload)

  abbrev pub PassesPooled : ℕ → PooledIngress T → PooledIngress T → Type 0
  PassesPooled now old new =
      s.logged (AdvancesFront now) old.done.share.log new.done.share.log × HasCalled old.done new.done × (new.offload ≡ old.offload)

  -- the timer's job went to the workers under this number, or was run here.
  abbrev pub FiresPooled : ℕ → ℕ → PooledIngress T → PooledIngress T → FireOutcome → Type 0
  FiresPooled slot now old new (fired.Sent number) = IsTimerFired s old.offload slot now (Some number) old.done new.done × (new.offload ≡ old.offload)
  FiresPooled slot now old new fired.Ended = IsTimerFired s old.offload slot now None old.done new.done × (new.offload ≡ old.offload)
  FiresPooled slot now old new fired.Refused = ⊥

  abbrev pub ResendsPooled : ℕ → ℕ → PooledIngress T → PooledIngress T → Ticked → Type 0
  ResendsPooled shard now old new ticked =
      IsSomeTick now ticked × s.logged (AdvancesShard shard now ticked) old.done.share.log new.done.share.log × HasCalled old.done new.done × (new.offload ≡ old.offload)

  -- an idle shard was advanced, or was skipped.
  abbrev pub PassesOverPooled : ℕ → ℕ → PooledIngress T → PooledIngress T → Type 0
  PassesOverPooled shard now old new = IsAdvancedOrSkipped s shard now old.done new.done × (new.offload ≡ old.offload)

  abbrev pub NotifiesPooled : ℕ → ℕ → PooledIngress T → PooledIngress T → Notified → Type 0
  NotifiesPooled shard now old new told =
      IsTurnAsked s old.offload shard now (is_given told) old.done new.done × (notification_in told ≡ None) × (new.offload ≡ old.offload)

  -- a shard returned a time until which it is idle, or nothing is known of the shard.
  abbrev pub StaysIdlePooled : ℕ → PooledIngress T → ℕ → Type 0
  StaysIdlePooled shard now until = (until ≡ 0) ⊎ s.bench (LooksAhead shard until)

  -- the front returned these gauges, and each shard these numbers of observers. This number of jobs
  -- was sent to workers.
  pub record TellsGaugesPooled (now : ℕ) (state : PooledIngress T) (gauges : Gauges) : Type 0 where
    pub front : s.bench (ReadsGauges now gauges.front)
    pub observers : (shard : ℕ) → shard < 8 → s.bench (CountsObservers shard (slice_index_or gauges.observers.shards shard []))
    pub offloaded : gauges.offloaded ≡ length state.done.sent.sent

  abbrev pub pooled_calls : IngressCalls (PooledIngress T)
  pooled_calls = record {
    handles = HandlesPooled;
    passes = PassesPooled;
    fires = FiresPooled;
    is_first_due = λ now due. due ≡ never;
    resends = ResendsPooled;
    passes_over = PassesOverPooled;
    notifies = NotifiesPooled;
    stays_idle = StaysIdlePooled;
    tells_gauges = TellsGaugesPooled;
  }

  -- these are the shares of as many workers. They got exactly the jobs of this channel that they
  -- ran and ended, each with a new log of its own.
  pub record AreSharesAt (first_job : ℕ) (channel : Channel TrackedJob) (shares : List (Share T)) : Type 0 where
    pub seats : List (WorkerSeed T)
    pub new : All (λ (seat : WorkerSeed T). seat.got ≡ nothing_got channel) seats
    pub new_logs : All (λ (seat : WorkerSeed T). IsNewLog seat.log) seats
    pub worked : AreSharesOf first_job s seats shares

  -- a driver fed a new dispatcher of this channel and policy, and returned this. The dispatcher has
  -- this share in the end.
  pub record DrivesTo {F X : Type 0} (first_job : ℕ) (Drives : IngressCalls (PooledIngress T) → F → PooledIngress T → PooledIngress T → X → Type 0) (channel : Channel TrackedJob) (offload : Offload) (driver : F) (given : X) (own : Share T) : Type 0 where
    pub first : PooledIngress T
    pub last : PooledIngress T
    pub new : IsNew first_job channel offload first
    pub drives : Drives pooled_calls driver first last given
    pub own_is : own ≡ last.done.share

  -- the driver fed the dispatcher in this way, and the workers of its channel have these shares in
  -- the end.
  pub record IsFed {F X : Type 0} (first_job : ℕ) (Drives : IngressCalls (PooledIngress T) → F → PooledIngress T → PooledIngress T → X → Type 0) (offload : Offload) (driver : F) (given : X) (own : Share T) (shares : List (Share T)) : Type 0 where
    pub channel : Channel TrackedJob
    pub fed : DrivesTo first_job Drives channel offload driver given own
    pub shares_are : AreSharesAt first_job channel shares

  -- the driver fed the dispatcher in this way, with this number of workers. The replies are those
  -- of the dispatcher's own jobs and of the workers'. The calls that the workers and the dispatcher
  -- filed have one order, from the server's first state to the closed server. It legally continues
  -- each history that leaves this state without jobs. The store's saves have their place in the
  -- order (`Kept`).
  pub record IsFedBeside {F X : Type 0} (Drives : IngressCalls (PooledIngress T) → F → PooledIngress T → PooledIngress T → X → Type 0) (first : ServerState) (Kept : List Shard → List FiledEntry → Type 0) (offload : Offload) (workers : ℕ) (driver : F) (given : X) (replies : Replies) (closed : ClosedServer) : Type 0 where
    pub own : Share T
    pub shares : List (Share T)
    pub fed : IsFed (10 + (workers + 1)) Drives offload driver given own shares
    pub count : length shares ≡ workers
    pub counted : replies ≡ both_replies (replies_of shares) (replies_by own)
    pub order : HaveLegalOrder first (logs_of shares own) closed
    pub saved : Kept closed.shards order.order.calls

-- a worker context whose gate makes no call before a commit.
abbrev pub open_view : {T : Type 0} → (T → ℕ → ℕ) → (T → ℕ) → (BenchCall → Type 0) → (LoggedCall → TrackedLog → TrackedLog → Type 0)
    → (IsTime : ℕ → CallLog → CallLog → Type 0) → (IsRandom : ℕ → Type 0) → (Job → Option Emission → CallLog → CallLog → Type 0) → (WireCall → CallLog → CallLog → Type 0) → WorkerView T
open_view changes ended bench logged time random answered wire = worker_view changes ended bench logged time random (λ number before after. after ≡ before) answered wire

-- the context of a server with locks that began in this way. Its parameters are the readings of its
-- device, the saves of its store, its times and random words, and the calls of its transmitter and
-- its recorder of changes.
abbrev pub locked_view : ServerState → (AreReadings : List ℕ → CallLog → CallLog → Type 0) → Saving → (IsTime : ℕ → CallLog → CallLog → Type 0) → (IsRandom : ℕ → Type 0)
    → (WireCall → CallLog → CallLog → Type 0) → (Requested → CallLog → CallLog → Type 0) → WorkerView Tallies
locked_view first AreReadings Saves IsTime IsRandom Wired Recorded =
    let io : Peripherals = record { are_readings = AreReadings; saves = Saves } in
    open_view (λ t. slice_index t.changes) (λ t. t.ended) (IsServerCall first io) (IsLoggedCall first io) IsTime IsRandom (IsRecorded Recorded) Wired
