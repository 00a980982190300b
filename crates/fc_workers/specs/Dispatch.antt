-- The effect of a dispatcher on its jobs: each goes to a worker, or the dispatcher runs it.
use Rattle.std.specs.Prelude.{◌≡◌, ◌≢◌, ◌⊎◌, ◌+◌, ◌&&◌, ◌<◌, ◌≤◌, ℕ, zero, suc, Bool, true, false, if◌then◌else◌, List, [], Option, Some, None, is_none, length}
use Rattle.coap_msg.specs.declared.types.Emission.{Emission}
use Rattle.coap_msg.specs.declared.types.Endpoint.{Endpoint}
use Rattle.fc_book.specs.Tracks.{first_own}
use Rattle.fc_front.specs.declared.by_value.Delivered.{Delivered}
use Rattle.fc_front.specs.declared.by_value.Delivered.TheVariants.{Job as Brings, Signal}
use Rattle.fc_front.specs.declared.front.Handled.{Handled}
use Rattle.fc_front.specs.Receiving.{handled}
use Rattle.fc_front.specs.Timers.{timer_job}
use Rattle.fc_jobs.specs.Ends.{with_sent}
use Rattle.fc_registry.specs.Calls.{is_post}
use Rattle.fc_ticket.specs.declared.job.Ask.{Ask}
use Rattle.fc_ticket.specs.declared.job.Ask.TheVariants.{Run, Install, Remove, Describe}
use Rattle.fc_ticket.specs.declared.job.Job.{Job}
use Rattle.fc_workers.specs.declared.dispatcher.Offload.{Offload}
use Rattle.fc_workers.specs.declared.dispatcher.Offload.TheVariants.{Expensive, ChangesAndExpensive, Never}
use Rattle.fc_backend.specs.Logs.{TrackedLog}
use Rattle.fc_backend.specs.Answers.{IsSomeDelivery, IsSomeIdle, IsSomeTurn, saturated}
use Rattle.fc_calls.specs.Logged.{AdvancesIdle, FiresTimer, GivesReadings, GivesTurn, HandsSignal, HandlesDatagram, ReadsCost, SkipsIdle}
use Rattle.fc_backend.specs.Called.{FindsSaving}
use Rattle.fc_workers.specs.Views.{WorkerView}
use Rattle.fc_backend.specs.Messages.{first_tracked, with_new_track, without_job}
use Rattle.fc_workers.specs.Steps.{AsksRun, IsPlainRun}
use Rattle.fc_workers.specs.Work.{IsReplied}
use Rattle.fc_workers.specs.Workers.{Dispatched}

-- a dispatcher as contracts see it: its policy and its record.
pub record SeenDispatcher (T : Type 0) : Type 0 where
  pub offload : Offload
  pub done : Dispatched T

-- the number of a job that isn't sent to the workers.
abbrev pub unsent : ℕ
unsent = 18446744073709551615

-- a dispatcher whose log is in this state.
abbrev pub logged_at : {T : Type 0} → TrackedLog → Dispatched T → Dispatched T
logged_at log done = record done { share = record done.share { log = log } }

-- the dispatcher after it sent this job to the workers, with the first of its tracks.
abbrev pub job_sent : {T : Type 0} → Job → Dispatched T → Dispatched T
job_sent job done = record done {
  sent = with_sent done.sent (first_tracked job done.share.log);
  share = record done.share { log = without_job done.share.log };
}

-- the track of the dispatcher's next job has begun, and is first. Its key is above that of the
-- dispatcher's own track.
abbrev pub HasBegunNext : {T : Type 0} → Dispatched T → Dispatched T → Type 0
HasBegunNext before after = (key : ℕ) × (before.share.log.who < key) × (after ≡ logged_at (with_new_track key before.share.log) before)

-- this was done, and then the track of the dispatcher's next job has begun.
abbrev pub WithNext : {T : Type 0} → (Dispatched T → Dispatched T → Type 0) → Dispatched T → Dispatched T → Type 0
WithNext {T} Does before after = (done : Dispatched T) × Does before done × HasBegunNext done after

-- the dispatcher has only made calls: nothing but its log differs.
abbrev pub HasCalled : {T : Type 0} → Dispatched T → Dispatched T → Type 0
HasCalled before after = after ≡ logged_at after.share.log before

-- whether the action may change the job's slot: an install, a removal, or a run for a POST.
abbrev pub requests_change : Ask → Bool
requests_change (Run request) = is_post request.method
requests_change (Install body initial) = true
requests_change Remove = true
requests_change other = false

-- whether the job may change its slot. The job of a lease changes none.
abbrev pub may_change_slot : Job → Bool
may_change_slot job = is_none job.turn && requests_change job.ask

-- the least cost of an expensive program, if the policy sends the job for no other program.
abbrev pub least_cost : Offload → Job → Option ℕ
least_cost (Expensive least) job = Some least
least_cost (ChangesAndExpensive least) job = if may_change_slot job then None else Some least
least_cost other job = None

-- the action reads the job's slot under the lock of its shard: a run, or a program's description.
abbrev pub ReadsSlot : Ask → Type 0
ReadsSlot (Run request) = Unit {0}
ReadsSlot Describe = Unit {0}
ReadsSlot other = ⊥

-- the job is no run, or it has ETags, so that it may need none.
abbrev pub MayNeedNoRun : Job → Type 0
MayNeedNoRun job = (AsksRun job.ask → ⊥) ⊎ (job.etags.items ≢ [])

-- the cost is below this number of steps, or the slot is empty.
abbrev pub IsBelow : ℕ → Option ℕ → Type 0
IsBelow least None = Unit {0}
IsBelow least (Some cost) = cost < least

module _ {T : Type 0} (s : WorkerView T) where
  -- readings were requested for a snapshot, or weren't.
  abbrev pub MayHaveReadings : Job → TrackedLog → TrackedLog → Type 0
  MayHaveReadings job before after = (after ≡ before) ⊎ (IsPlainRun job × ((readings : List ℕ) × s.logged (GivesReadings readings) before after))

  -- the cost of a run was read in the job's slot. For a request without ETags, readings may have
  -- been requested before, for a snapshot that wasn't taken. The log has no other call.
  pub record HasReadCost (job : Job) (cost : Option ℕ) (before after : TrackedLog) : Type 0 where
    pub asks : AsksRun job.ask
    pub log : TrackedLog
    pub readings : MayHaveReadings job before log
    pub read : s.logged (ReadsCost job.origin.slot cost) log after

  -- if there is a least cost, the cost in the job's slot was read, and is this number of steps or
  -- more. Otherwise nothing was read.
  abbrev pub HasLeastCost : Option ℕ → Job → TrackedLog → TrackedLog → Type 0
  HasLeastCost None job before after = after ≡ before
  HasLeastCost (Some least) job before after = (cost : ℕ) × (least ≤ cost) × HasReadCost job (Some cost) before after

  -- the job reads its slot, and a change of the slot's shard was found being saved. Nothing else
  -- was read.
  abbrev pub IsHeldUp : Job → TrackedLog → TrackedLog → Type 0
  IsHeldUp job before after = ReadsSlot job.ask × s.bench (FindsSaving job.origin.slot) × (after ≡ before)

  -- the job may go to workers: by the cost that was read in its slot, or whatever the cost is. If
  -- changes go, a job that a save holds up may go too.
  abbrev pub MayGo : Offload → Job → TrackedLog → TrackedLog → Type 0
  MayGo Never job before after = ⊥
  MayGo (ChangesAndExpensive least) job before after =
      IsHeldUp job before after ⊎ HasLeastCost (least_cost (ChangesAndExpensive least) job) job before after
  MayGo offload job before after = HasLeastCost (least_cost offload job) job before after

  -- the job is no run, or its ETags may match; or the cost in its slot was read, and is below this
  -- number of steps. An empty slot has no cost.
  abbrev pub IsFoundCheap : ℕ → Job → TrackedLog → TrackedLog → Type 0
  IsFoundCheap least job before after =
      (MayNeedNoRun job × (after ≡ before)) ⊎ ((cost : Option ℕ) × IsBelow least cost × HasReadCost job cost before after)

  -- if there is a least cost, the cost in the job's slot may have been read.
  abbrev pub MayHaveReadCost : Option ℕ → Job → TrackedLog → TrackedLog → Type 0
  MayHaveReadCost None job before after = after ≡ before
  MayHaveReadCost (Some least) job before after = (after ≡ before) ⊎ ((cost : Option ℕ) × HasReadCost job cost before after)

  -- a job that may go was sent to the workers with its track, under the next number. The dispatcher
  -- has filed nothing for the job since the job arrived: the first track is unchanged. Nothing but
  -- its log and the sent job differs.
  pub record IsHandedOver (offload : Offload) (job : Job) (before after : Dispatched T) : Type 0 where
    pub log : TrackedLog
    pub may_go : MayGo offload job before.share.log log
    pub track : first_own log.tracks ≡ first_own before.share.log.tracks
    pub sent : after ≡ job_sent job (logged_at log before)

  -- a job was run here and ended. Its reply is sent and counted. The cost in the job's slot may
  -- have been read first, which files nothing for the job.
  pub record IsWorkedHere (offload : Offload) (job : Job) (before after : Dispatched T) : Type 0 where
    pub sent : after.sent ≡ before.sent
    pub log : TrackedLog
    pub stays : MayHaveReadCost (least_cost offload job) job before.share.log log
    pub track : first_own log.tracks ≡ first_own before.share.log.tracks
    pub worked : IsReplied s unsent job (record before.share { log = log }) after.share
    pub ends : s.ended after.share.tallies ≡ saturated (s.ended before.share.tallies + 1)

  -- the job went to the workers, as the policy allows, or was run here.
  abbrev pub IsSentOrWorked : Offload → Job → Dispatched T → Dispatched T → Type 0
  IsSentOrWorked offload job before after = IsHandedOver offload job before after ⊎ IsWorkedHere offload job before after

  -- the job went to the workers or was run here, and then the track of the next job has begun.
  abbrev pub IsDispatched : Offload → Job → Dispatched T → Dispatched T → Type 0
  IsDispatched offload job = WithNext (IsSentOrWorked offload job)

  -- a Reset message or an Acknowledgement was passed once to each of the first n shards, in order.
  unfoldable pub AreSignalled : ℕ → Endpoint → ℕ → Bool → TrackedLog → TrackedLog → Type 0
  AreSignalled zero from id reset before after = after ≡ before
  AreSignalled (suc n) from id reset before after = (log : TrackedLog) × AreSignalled n from id reset before log × s.logged (HandsSignal n from id reset) log after

  -- the job that results from a delivery is dispatched, and a signal reaches the observers of all
  -- shards; otherwise nothing is done.
  abbrev pub IsDone : Offload → Endpoint → Delivered → Dispatched T → Dispatched T → Type 0
  IsDone offload from (Brings job) before after = IsDispatched offload job before after
  IsDone offload from (Signal id reset) before after = AreSignalled 8 from id reset before.share.log after.share.log × HasCalled before after
  IsDone offload from other before after = after ≡ before

  -- the result of a delivery at this time is that of some front, and the result is processed.
  pub record IsTakenIn (offload : Offload) (now : ℕ) (from : Endpoint) (bytes : List ℕ) (result : Handled) (reply : Emission)
      (before after : Dispatched T) : Type 0 where
    pub job : Job
    pub log : TrackedLog
    pub handles : s.logged (HandlesDatagram now from bytes (handled result job reply)) before.share.log log
    pub delivery : IsSomeDelivery now from bytes (handled result job reply)
    pub done : IsDone offload from (handled result job reply) (logged_at log before) after

  -- the job went to the workers under this number, as the policy allows; or without a number, it
  -- was run here.
  abbrev pub IsDispatchedUnder : Offload → Job → Option ℕ → Dispatched T → Dispatched T → Type 0
  IsDispatchedUnder offload job (Some number) before after = (number ≡ length before.sent.sent) × WithNext (IsHandedOver offload job) before after
  IsDispatchedUnder offload job None before after = WithNext (IsWorkedHere offload job) before after

  -- the timer of a slot fired at this time, and its job is dispatched: under this number, if it
  -- went to the workers.
  pub record IsTimerFired (offload : Offload) (slot now : ℕ) (number : Option ℕ) (before after : Dispatched T) : Type 0 where
    pub log : TrackedLog
    pub fires : s.logged (FiresTimer slot now) before.share.log log
    pub done : IsDispatchedUnder offload (timer_job slot) number (logged_at log before) after

  -- the job of a lease is dispatched; if no lease was granted, no job is.
  abbrev pub IsTurnDone : Offload → Option Job → Bool → Dispatched T → Dispatched T → Type 0
  IsTurnDone offload (Some job) given before after = (given ≡ true) × IsDispatched offload job before after
  IsTurnDone offload None given before after = (given ≡ false) × (after ≡ before)

  -- a shard granted this lease at this time, or none, as some shard does. The job of the lease is
  -- dispatched.
  pub record IsTurnAsked (offload : Offload) (shard now : ℕ) (given : Bool) (before after : Dispatched T) : Type 0 where
    pub turn : Option Job
    pub log : TrackedLog
    pub asks : s.logged (GivesTurn shard now turn) before.share.log log
    pub turn_is : IsSomeTurn now turn
    pub done : IsTurnDone offload turn given (logged_at log before) after

  -- an idle shard was advanced to this time, with some shard's result, or the shard was skipped.
  abbrev pub IsAdvancedOrSkipped : ℕ → ℕ → Dispatched T → Dispatched T → Type 0
  IsAdvancedOrSkipped shard now before after =
      ((IsSomeIdle now true × s.logged (AdvancesIdle shard now) before.share.log after.share.log) ⊎ s.logged (SkipsIdle shard now) before.share.log after.share.log)
      × HasCalled before after
