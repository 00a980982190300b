-- The effects of a dispatcher's calls on its tracks.
use Rattle.std.proofs.Common.{◌≡◌, ◌∙◌, ℕ, zero, suc, ◌<◌, ◌≤◌, Bool, true, false, List, [], ◌∷◌, length, Option, Some, None, refl, sym, ap, subst, ⊎_elim, inl, inr, arith, length-append}
use Rattle.std.specs.Prelude.{MatchBool, is_some}
use Rattle.coap_msg.specs.declared.types.Endpoint.{Endpoint}
use Rattle.fc_book.specs.Tracks.{first_own}
use Rattle.fc_observe.specs.declared.observers.Ticked.{Ticked}
use Rattle.fc_ticket.specs.declared.job.Job.{Job}
use Rattle.fc_front.specs.Timers.{timer_job}
use Rattle.fc_front.specs.declared.by_value.Delivered.{Delivered}
use Rattle.fc_calls.specs.Logged.{AdvancesFront, AdvancesIdle, AdvancesShard, FiresTimer, GivesReadings, GivesTurn, HandlesDatagram, HandsSignal, ReadsCost, SkipsIdle}
use Rattle.fc_linear.specs.Operations.{Logged, job_in}
use Rattle.fc_backend.specs.Filed.{shard_called, FilesEach}
use Rattle.fc_workers.specs.Views.{WorkerView}
use Rattle.fc_jobs.specs.Ends.{Sent}
use Rattle.fc_workers.specs.Dispatch.{AreSignalled, HasLeastCost, HasReadCost, IsDispatched, IsHandedOver, IsWorkedHere, MayGo, MayHaveReadCost, MayHaveReadings, WithNext, least_cost}
use Rattle.fc_backend.specs.Logs.{TrackedLog}
use Rattle.fc_backend.specs.Messages.{TrackedJob, first_tracked}
use Rattle.fc_workers.specs.Producing.{HasProduced, MayProduce}
use Rattle.fc_workers.specs.Workers.{Dispatched}
use Rattle.fc_workers.specs.declared.dispatcher.Offload.{Offload}
use Rattle.fc_workers.specs.declared.dispatcher.Offload.TheVariants.{ChangesAndExpensive, Never}
use Rattle.fc_workers.proofs.Producing.{has_produced, still_may, still_produced, still_produced_by, track_same}

low_called : (shard : ℕ) → shard_called shard < 8
low_called shard = omega arith

module _ {T : Type 0} (first_job upcoming : ℕ) (w : WorkerView T) (files : FilesEach w.logged) where
  abbrev May : TrackedLog → Type 0
  May log = MayProduce first_job upcoming log

  pub may_tick : (now : ℕ) (before after : TrackedLog) → w.logged (AdvancesFront now) before after → May before → May after
  may_tick now before after is m = still_may first_job (Logged (AdvancesFront now)) before after m.order.own tt (files (AdvancesFront now) before after is) refl upcoming m

  pub may_resend : (shard now : ℕ) (ticked : Ticked) (before after : TrackedLog) → w.logged (AdvancesShard shard now ticked) before after → May before → May after
  may_resend shard now ticked before after is m = still_may first_job (Logged (AdvancesShard (shard_called shard) now ticked)) before after m.order.own (low_called shard) (files (AdvancesShard shard now ticked) before after is) refl upcoming m

  pub may_pass : (shard now : ℕ) (before after : TrackedLog) → w.logged (AdvancesIdle shard now) before after → May before → May after
  may_pass shard now before after is m = still_may first_job (Logged (AdvancesIdle (shard_called shard) now)) before after m.order.own (low_called shard) (files (AdvancesIdle shard now) before after is) refl upcoming m

  pub may_skip : (shard now : ℕ) (before after : TrackedLog) → w.logged (SkipsIdle shard now) before after → May before → May after
  may_skip shard now before after is m = still_may first_job (Logged (SkipsIdle (shard_called shard) now)) before after m.order.own (low_called shard) (files (SkipsIdle shard now) before after is) refl upcoming m

  pub may_signal : (shard : ℕ) (from : Endpoint) (id : ℕ) (reset : Bool) (before after : TrackedLog) → w.logged (HandsSignal shard from id reset) before after → May before → May after
  may_signal shard from id reset before after is m = still_may first_job (Logged (HandsSignal (shard_called shard) from id reset)) before after m.order.own (low_called shard) (files (HandsSignal shard from id reset) before after is) refl upcoming m

  pub may_signals : (n : ℕ) (from : Endpoint) (id : ℕ) (reset : Bool) (before after : TrackedLog) → AreSignalled w n from id reset before after → May before → May after
  unfolding AreSignalled
  may_signals zero from id reset before after is m = subst May (sym is) m
  may_signals (suc n) from id reset before after is m = may_signal n from id reset is.0 after is.2 (may_signals n from id reset before is.0 is.1 m)

  -- a delivery that produces no job, or one.
  pub may_handle : (now : ℕ) (from : Endpoint) (bytes : List ℕ) (brings : Delivered) (before after : TrackedLog) → job_in brings ≡ None → w.logged (HandlesDatagram now from bytes brings) before after → May before → May after
  may_handle now from bytes brings before after none is m = still_may first_job (Logged (HandlesDatagram now from bytes brings)) before after m.order.own tt (files (HandlesDatagram now from bytes brings) before after is) (ap (λ (o : Option Job). is_some o) none) upcoming m

  pub delivered : (now : ℕ) (from : Endpoint) (bytes : List ℕ) (brings : Delivered) (job : Job) (before after : TrackedLog) → job_in brings ≡ Some job → w.logged (HandlesDatagram now from bytes brings) before after → May before → HasProduced first_job upcoming job after
  delivered now from bytes brings job before after some is m = has_produced first_job (Logged (HandlesDatagram now from bytes brings)) before after m.order.own tt (files (HandlesDatagram now from bytes brings) before after is) upcoming job some m

  pub fired : (slot now : ℕ) (before after : TrackedLog) → w.logged (FiresTimer slot now) before after → May before → HasProduced first_job upcoming (timer_job slot) after
  fired slot now before after is m = has_produced first_job (Logged (FiresTimer slot now)) before after m.order.own tt (files (FiresTimer slot now) before after is) upcoming (timer_job slot) refl m

  pub may_ask : (shard now : ℕ) (turn : Option Job) (before after : TrackedLog) → turn ≡ None → w.logged (GivesTurn shard now turn) before after → May before → May after
  may_ask shard now turn before after none is m = still_may first_job (Logged (GivesTurn (shard_called shard) now turn)) before after m.order.own (low_called shard) (files (GivesTurn shard now turn) before after is) (ap (λ (o : Option Job). is_some o) none) upcoming m

  pub leased : (shard now : ℕ) (turn : Option Job) (job : Job) (before after : TrackedLog) → turn ≡ Some job → w.logged (GivesTurn shard now turn) before after → May before → HasProduced first_job upcoming job after
  leased shard now turn job before after some is m = has_produced first_job (Logged (GivesTurn (shard_called shard) now turn)) before after m.order.own (low_called shard) (files (GivesTurn shard now turn) before after is) upcoming job some m

  -- readings are returned for the job, or aren't. Nothing is filed.
  still_read : (job : Job) (before after : TrackedLog) → MayHaveReadings w job before after → HasProduced first_job upcoming job before → HasProduced first_job upcoming job after × (first_own after.tracks ≡ first_own before.tracks)
  still_read job before after (inl is) h = (subst (λ (l : TrackedLog). HasProduced first_job upcoming job l) (sym is) h, ap (λ (l : TrackedLog). first_own l.tracks) is)
  still_read job before after (inr (plain, (readings, given))) h =
      let same = files (GivesReadings readings) before after given in
      (still_produced first_job upcoming job before after same h, ap first_own same.tracks)

  -- the cost in the job's slot is read. The job's track is unchanged.
  pub still_priced : (job : Job) (cost : Option ℕ) (before after : TrackedLog) → HasReadCost w job cost before after → HasProduced first_job upcoming job before → HasProduced first_job upcoming job after × (first_own after.tracks ≡ first_own before.tracks)
  still_priced job cost before after is h =
      let read = still_read job before is.log is.readings h in
      let call = ReadsCost job.origin.slot cost in
      let filed = files call is.log after is.read in (
        still_produced_by first_job (Logged call) is.log after tt filed refl upcoming job read.0,
        track_same first_job (Logged call) is.log after tt filed refl upcoming job read.0 ∙ read.1,
      )

  -- nothing was called.
  still_same : (job : Job) (before after : TrackedLog) → after ≡ before → HasProduced first_job upcoming job before → HasProduced first_job upcoming job after × (first_own after.tracks ≡ first_own before.tracks)
  still_same job before after is h = (subst (λ (l : TrackedLog). HasProduced first_job upcoming job l) (sym is) h, ap (λ (l : TrackedLog). first_own l.tracks) is)

  still_by_cost : (least : Option ℕ) (job : Job) (before after : TrackedLog) → HasLeastCost w least job before after → HasProduced first_job upcoming job before → HasProduced first_job upcoming job after × (first_own after.tracks ≡ first_own before.tracks)
  still_by_cost None job before after is h = still_same job before after is h
  still_by_cost (Some least) job before after is h = still_priced job (Some is.0) before after is.2 h

  pub still_going : (offload : Offload) (job : Job) (before after : TrackedLog) → MayGo w offload job before after → HasProduced first_job upcoming job before → HasProduced first_job upcoming job after × (first_own after.tracks ≡ first_own before.tracks)
  still_going Never job before after is h = absurd is
  still_going (ChangesAndExpensive least) job before after (inl is) h = still_same job before after is.2 h
  still_going (ChangesAndExpensive least) job before after (inr is) h = still_by_cost (least_cost (ChangesAndExpensive least) job) job before after is h
  still_going offload job before after is h = still_by_cost (least_cost offload job) job before after is h

  pub still_staying : (least : Option ℕ) (job : Job) (before after : TrackedLog) → MayHaveReadCost w least job before after → HasProduced first_job upcoming job before → HasProduced first_job upcoming job after × (first_own after.tracks ≡ first_own before.tracks)
  still_staying None job before after is h = still_same job before after is h
  still_staying (Some least) job before after (inl is) h = still_same job before after is h
  still_staying (Some least) job before after (inr is) h = still_priced job is.0 before after is.1 h

  -- the job may go to the workers, or stays here.
  pub still_produced_if : (goes : Bool) (offload : Offload) (job : Job) (before after : TrackedLog) → MatchBool goes (MayGo w offload job before after) (MayHaveReadCost w (least_cost offload job) job before after) → HasProduced first_job upcoming job before
      → HasProduced first_job upcoming job after × (first_own after.tracks ≡ first_own before.tracks)
  still_produced_if true offload job before after is h = still_going offload job before after is h
  still_produced_if false offload job before after is h = still_staying (least_cost offload job) job before after is h

-- the job of a program that was found expensive may go, if the policy has this least cost for it.
pub may_go_by_cost : {T : Type 0} (w : WorkerView T) (offload : Offload) (least : ℕ) (job : Job) (before after : TrackedLog) → least_cost offload job ≡ Some least → HasLeastCost w (Some least) job before after → MayGo w offload job before after
may_go_by_cost w Never least job before after by found = absurd (cc by)
may_go_by_cost w (ChangesAndExpensive most) least job before after by found = inr (subst (λ (o : Option ℕ). HasLeastCost w o job before after) (sym by) found)
may_go_by_cost w offload least job before after by found = subst (λ (o : Option ℕ). HasLeastCost w o job before after) (sym by) found

-- ---- whether a job was sent

module _ {T : Type 0} (w : WorkerView T) (offload : Offload) (job : Job) (before after : Dispatched T) (is : IsDispatched w offload job before after) where
  sent_is : after.sent ≡ is.0.sent
  sent_is = ap (λ (d : Dispatched T). d.sent) is.2.2

  -- if more jobs were sent after it was dispatched, the job was sent.
  pub handed_over : length before.sent.sent < length after.sent.sent → WithNext (IsHandedOver w offload job) before after
  handed_over more = ⊎_elim
      (λ (over : IsHandedOver w offload job before is.0). (is.0, over, is.2))
      (λ (here : IsWorkedHere w offload job before is.0). (let same = ap (λ (x : Sent TrackedJob). length x.sent) (sent_is ∙ here.sent) in absurd (omega (arith, same, more))))
      is.1

  -- otherwise it was run here.
  pub run_here : length after.sent.sent ≤ length before.sent.sent → WithNext (IsWorkedHere w offload job) before after
  run_here none = ⊎_elim
      (λ (over : IsHandedOver w offload job before is.0). (
      let one = ap (λ (x : Sent TrackedJob). length x.sent) (sent_is ∙ ap (λ (d : Dispatched T). d.sent) over.sent) in
      let more = length-append before.sent.sent (record { number = length before.sent.sent; message = first_tracked job over.log } ∷ []) in
      absurd (omega (arith, one, more, none))))
      (λ (here : IsWorkedHere w offload job before is.0). (is.0, here, is.2))
      is.1
