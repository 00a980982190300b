-- Each datagram that a server with workers received is delivered in its one history, in order.
use Rattle.std.proofs.Common.{◌≡◌, ◌∙◌, ◌⊎◌, ℕ, ◌+◌, ◌<◌, Bool, true, false, List, [], ◌∷◌, ◌++◌, append-nil, map, Option, Some, None, refl, sym, ap, subst, ⊎_elim, inl, inr, arith, Bor}
use Rattle.std.specs.Option.{option_to_list}
use Rattle.std.specs.Prelude.{MatchBool, nat_lt}
use Rattle.coap_msg.specs.declared.types.Emission.{Emission}
use Rattle.coap_msg.specs.declared.types.Endpoint.{Endpoint}
use Rattle.fc_calls.specs.Logged.{AdvancesFront, AdvancesIdle, AdvancesShard, SkipsIdle}
use Rattle.fc_front.specs.declared.front.Handled.{Handled}
use Rattle.fc_registry.specs.Slots.{Shard}
use Rattle.fc_filed.specs.declared.entry.FiledEntry.{FiledEntry}
use Rattle.fc_host.specs.Clocks.{AreReadAt}
use Rattle.fc_host.specs.Sockets.{Incoming, Receive}
use Rattle.fc_host.specs.declared.timer.Timer.{Timer}
use Rattle.fc_jobs.specs.Ends.{Channel}
use Rattle.fc_observe.specs.declared.observers.Ticked.{Ticked}
use Rattle.fc_record.specs.ProgramRequests.{Requested}
use Rattle.fc_record.specs.declared.report.Report.{Report}
use Rattle.fc_server.specs.Flushing.{AreStepsBy, Asked, Passed, Resent, FlushingStep}
use Rattle.fc_server.specs.Ingresses.{IngressCalls}
use Rattle.fc_server.specs.Notified.{Notified, is_given}
use Rattle.fc_server.specs.declared.engine.FireOutcome.{FireOutcome}
use Rattle.fc_server.specs.declared.engine.FireOutcome.TheVariants as fired
use Rattle.fc_server.specs.States.{ServerState}
use Rattle.fc_locked.specs.Asked.{Peripherals, locked_files}
use Rattle.fc_workers.specs.Views.{WorkerView, FilesCalls}
use Rattle.fc_locked.specs.Counts.{Tallies}
use Rattle.fc_workers.specs.Deliveries.{Delivery, deliveries_in}
use Rattle.fc_locked.specs.LegalOrder.{HaveLegalOrder}
use Rattle.fc_backend.specs.Logs.{TrackedLog}
use Rattle.fc_backend.specs.Messages.{TrackedJob}
use Rattle.fc_backend.specs.RightTracks.{filed_in}
use Rattle.fc_locked.specs.OneOrder.{logs_of}
use Rattle.fc_backend.specs.Statistics.{Share}
use Rattle.fc_workers.specs.Workers.{Dispatched}
use Rattle.fc_backend.specs.declared.call_log.CallLog.{CallLog}
use Rattle.fc_locked.specs.declared.closed.ClosedServer.{ClosedServer}
use Rattle.fc_locked.specs.SharedStores.{Saving}
use Rattle.fc_workers.specs.declared.dispatcher.Offload.{Offload}
use Rattle.fc_workers.proofs.Deliveries.{Delivers, MayDeliver, both, filed_delivers, taken_in, timer_fired, turn_asked, unchanged}
use Rattle.fc_workers.proofs.Filed.{bench_files}
use Rattle.fc_pool.proofs.OneDispatcher.{dispatcher_delivers}
use Rattle.fc_service.proofs.OneHistory.{AreChained, any_wait}
use Rattle.fc_service.proofs.Unreported.{reported_simulates, rounds_held}
use Rattle.fc_receive.specs.Firing.{AreFired, Firing, FiresOnce, SkipsBeat, fired_calls, firing_from, readies_firing}
use Rattle.fc_pool.specs.Pooled.{AreSharesAt, FiresPooled, IsNew, PassesOverPooled, PooledIngress, offload_where, pooled_calls}
use Rattle.fc_receive.specs.Reporting.{readies_through, reported_calls, reporting_from}
use Rattle.fc_receive.specs.Rounds.{IsReceivedBy, IsRoundBy, Round, RoundCalls}
use Rattle.fc_service.specs.Services.{HasServedPooled, deliveries_of, delivery_at, offload_of, served_view}
use Rattle.fc_pool.specs.declared.replies.Replies.{Replies}

-- ---- rounds of any server

-- these are the deliveries of each call of a server: a datagram is one, and other calls have none.
pub record Counts {S : Type 0} (R : List Delivery → S → S → Type 0)
    (calls : IngressCalls S) : Type 0 where
  pub none : (s : S) → R [] s s
  pub both : (ds es : List Delivery) (x y z : S) → R ds x y → R es y z → R (ds ++ es) x z
  pub handles : (now : ℕ) (from : Endpoint) (bytes : Bor (List ℕ)) (old new : S)
      (handled : Handled) (reply : Emission) → calls.handles now from bytes old new handled reply
      → R (record { now = now; from = from; bytes = bytes.now } ∷ []) old new
  pub passes : (now : ℕ) (old new : S) → calls.passes now old new → R [] old new
  pub fires : (slot now : ℕ) (old new : S) (outcome : FireOutcome)
      → calls.fires slot now old new outcome → R [] old new
  pub resends : (shard now : ℕ) (old new : S) (ticked : Ticked)
      → calls.resends shard now old new ticked → R [] old new
  pub passes_over : (shard now : ℕ) (old new : S) → calls.passes_over shard now old new
      → R [] old new
  pub notifies : (shard now : ℕ) (old new : S) (told : Notified)
      → calls.notifies shard now old new told → R [] old new

module _ {S : Type 0} (R : List Delivery → S → S → Type 0) (calls : IngressCalls S)
    (counts : Counts R calls) where
  pub same : (x y : S) → y ≡ x → R [] x y
  same x y is = subst (λ (s : S). R [] x s) (sym is) (counts.none x)

  stepped : (now : ℕ) (steps : List FlushingStep) (old new : S)
      → AreStepsBy calls now steps old new → R [] old new
  stepped now [] old new is = same old new is
  stepped now (Resent shard ticked ∷ steps) old new w =
      counts.both [] [] old w.0 new (stepped now steps old w.0 w.2)
      (counts.resends shard now w.0 new ticked w.1.1)
  stepped now (Passed shard ∷ steps) old new w =
      counts.both [] [] old w.0 new (stepped now steps old w.0 w.2)
      (counts.passes_over shard now w.0 new w.1.1)
  stepped now (Asked shard told ∷ steps) old new w =
      counts.both [] [] old w.0 new (stepped now steps old w.0 w.2)
      (counts.notifies shard now w.0 new told w.1.1)

  abbrev received_at : ℕ → Option Incoming → List Delivery
  received_at now received = map (delivery_at now) (option_to_list received)

  module _ (Readies : ℕ → S → S → Type 0)
      (readied : (now : ℕ) (old new : S) → Readies now old new → R [] old new) where
    received_is : (now : ℕ) (received : Option Incoming) (old new : S) (sent : Option Emission)
        → IsReceivedBy Readies calls now received old sent new
        → R (received_at now received) old new
    received_is now (Some incoming) old new sent w =
        let at : List ℕ → Delivery =
        λ bytes. record { now = now; from = incoming.from; bytes = bytes } in
        subst (λ (bytes : List ℕ). R (at bytes ∷ []) old new) w.bytes_are
        (counts.handles now incoming.from w.borrow old new w.handled w.reply w.handles)
    received_is now None old new sent w = counts.passes now old new w.0

    round_is : (r : Round) (old new : S) → IsRoundBy Readies calls r old new
        → R (received_at r.now r.received) old new
    round_is r old new w =
        let ds : List Delivery = received_at r.now r.received in
        let received = counts.both [] ds old w.ready w.answered
        (readied r.now old w.ready w.readied)
        (received_is r.now r.received w.ready w.answered r.sent w.carried_out) in
        subst (λ (es : List Delivery). R es old new) (append-nil ds)
        (counts.both ds [] old w.answered new received
        (stepped r.now r.steps w.answered new w.steps))

    pub rounds_are : (rounds : List Round) (old new : S)
        → AreChained (IsRoundBy Readies calls) rounds old new → R (deliveries_of rounds) old new
    rounds_are [] old new is = same old new is
    rounds_are (r ∷ rounds) old new w =
        counts.both (deliveries_of rounds) (received_at r.now r.received) old w.0 new
        (rounds_are rounds old w.0 w.1) (round_is r w.0 new w.2)

  -- ---- timers

  fired_or_not : (early : Bool) (now : ℕ) (t u : Timer) (before after : S)
      → MatchBool early ((u ≡ t) × (after ≡ before))
      (FiresOnce calls now t u before after ⊎ SkipsBeat calls now t u before after)
      → R [] before after
  fired_or_not true now t u before after w = same before after w.1
  fired_or_not false now t u before after (inl w) =
      counts.fires t.slot now before after w.outcome w.fires
  fired_or_not false now t u before after (inr w) = same before after w.unchanged

  all_fired : (now : ℕ) (ts us : List Timer) (before after : S)
      → AreFired calls now ts us before after → R [] before after
  all_fired now [] [] before after is = same before after is
  all_fired now (t ∷ ts) (u ∷ us) before after w =
      counts.both [] [] before w.0 after
      (fired_or_not (nat_lt now t.due) now t u before w.0 w.1) (all_fired now ts us w.0 after w.2)
  all_fired now [] (u ∷ us) before after w = elim w [ ]
  all_fired now (t ∷ ts) [] before after w = elim w [ ]

  abbrev Inside : List Delivery → Firing S → Firing S → Type 0
  Inside ds old new = R ds old.ingress new.ingress

  -- the deliveries of a server with timers are those of the server.
  pub timed_counts : Counts Inside (fired_calls calls)
  timed_counts = record {
    none = λ s. counts.none s.ingress;
    both = λ ds es x y z. counts.both ds es x.ingress y.ingress z.ingress;
    handles = λ now from bytes old new handled reply w.
        counts.both [] (record { now = now; from = from; bytes = bytes.now } ∷ [])
        old.ingress w.0 new.ingress
        (all_fired now old.timers new.timers old.ingress w.0 w.1)
        (counts.handles now from bytes w.0 new.ingress handled reply w.2);
    passes = λ now old new w.
        counts.both [] [] old.ingress w.0 new.ingress
        (all_fired now old.timers new.timers old.ingress w.0 w.1)
        (counts.passes now w.0 new.ingress w.2);
    fires = λ slot now old new outcome w. counts.fires slot now old.ingress new.ingress outcome w.0;
    resends = λ shard now old new ticked w.
        counts.resends shard now old.ingress new.ingress ticked w.0;
    passes_over = λ shard now old new w. counts.passes_over shard now old.ingress new.ingress w.0;
    notifies = λ shard now old new told w.
        counts.notifies shard now old.ingress new.ingress told w.0;
  }

-- ---- a server with workers

-- thread `who` has these deliveries, if it may deliver.
abbrev By : {T : Type 0} → ℕ → List Delivery → PooledIngress T → PooledIngress T → Type 0
By who ds old new = Delivers who ds old.done.share.log new.done.share.log

module _ {T : Type 0} (s : WorkerView T) (files : FilesCalls s) where
  module _ (who : ℕ) where
    abbrev log_in : PooledIngress T → TrackedLog
    log_in d = d.done.share.log

    pooled_fires : (slot now : ℕ) (old new : PooledIngress T) (outcome : FireOutcome)
        → FiresPooled s slot now old new outcome → By who [] old new
    pooled_fires slot now old new (fired.Sent number) w =
        timer_fired who s files old.offload slot now (Some number) old.done new.done w.0
    pooled_fires slot now old new fired.Ended w =
        timer_fired who s files old.offload slot now None old.done new.done w.0
    pooled_fires slot now old new fired.Refused w = absurd w

    pooled_passes_over : (shard now : ℕ) (old new : PooledIngress T)
        → PassesOverPooled s shard now old new → By who [] old new
    pooled_passes_over shard now old new w = ⊎_elim
        (λ advanced. filed_delivers who _ (log_in old) (log_in new)
        (files.logged (AdvancesIdle shard now) (log_in old) (log_in new) advanced.1))
        (λ skipped. filed_delivers who _ (log_in old) (log_in new)
        (files.logged (SkipsIdle shard now) (log_in old) (log_in new) skipped))
        w.0.0

    pub pooled_counts : Counts (By who) (pooled_calls s)
    pooled_counts = record {
      none = λ d. unchanged who (log_in d) (log_in d) refl;
      both = λ ds es x y z. both who ds es (log_in x) (log_in y) (log_in z);
      handles = λ now from bytes old new handled reply w.
          taken_in who s files old.offload now from bytes.now handled reply old.done new.done w.0;
      passes = λ now old new w.
          filed_delivers who _ (log_in old) (log_in new)
          (files.logged (AdvancesFront now) (log_in old) (log_in new) w.0);
      fires = pooled_fires;
      resends = λ shard now old new ticked w.
          filed_delivers who _ (log_in old) (log_in new)
          (files.logged (AdvancesShard shard now ticked) (log_in old) (log_in new) w.1);
      passes_over = pooled_passes_over;
      notifies = λ shard now old new told w.
          turn_asked who s files old.offload shard now (is_given told) old.done new.done w.0;
    }

  -- ---- its one history

  module _ (first_job : ℕ) (channel : Channel TrackedJob) (offload : Offload)
      (first last : PooledIngress T) (new : IsNew first_job channel offload first) where
    abbrev who : ℕ
    who = new.log.who

    -- the entries of this thread.
    abbrev own_in : TrackedLog → List FiledEntry
    own_in log = filed_in (record log { who = who })

    log_is : first.done.share.log ≡ new.log
    log_is = ap (λ (d : Dispatched T). d.share.log) new.done

    may : MayDeliver who first.done.share.log
    may =
        let low = new.own.key.1 in
        let job = new.job in
        subst (λ (log : TrackedLog). MayDeliver who log) (sym log_is) (record {
          thread = record { is = refl; low = new.own.key.0; own = new.own.own };
          first = omega (arith, low, job);
        })

    none : deliveries_in (own_in first.done.share.log) ≡ []
    none = ap (λ (log : TrackedLog). deliveries_in (own_in log)) log_is
        ∙ ap deliveries_in (new.new_log who)

    filed_are : (ds : List Delivery) → By who ds first last
        → deliveries_in (filed_in last.done.share.log) ≡ ds
    filed_are ds by =
        let d = by may in
        ap (λ (n : ℕ). deliveries_in (filed_in (record last.done.share.log { who = n })))
        d.may.thread.is
        ∙ (d.are ∙ ap (λ (es : List Delivery). es ++ ds) none)

    -- the dispatcher's deliveries are those of the one order.
    pub delivered_in_order : (ds : List Delivery) → By who ds first last → (shares : List (Share T))
        → AreSharesAt s first_job channel shares → (begun : ServerState) (closed : ClosedServer)
        (order : HaveLegalOrder begun (logs_of shares last.done.share) closed)
        → deliveries_in order.order.calls ≡ ds
    delivered_in_order ds by shares at begun closed order =
        dispatcher_delivers first_job s files at.seats shares at.new_logs at.worked begun
        last.done.share closed order.order
        ∙ filed_are ds by

-- ---- a server with locks, with timers or without, and with reports or without

abbrev Pool : Type 0
Pool = PooledIngress Tallies

module _ (sensors : List ℕ → Type 0) (e : RoundCalls)
    (Recorded : Requested → CallLog → CallLog → Type 0) (Saves : Saving) (began : ServerState) where
  abbrev view : WorkerView Tallies
  view = served_view sensors e Recorded Saves began

  abbrev peripherals_of : Peripherals
  peripherals_of = record { are_readings = AreReadAt e.time sensors; saves = Saves }

  files : FilesCalls view
  files = bench_files _ _ _ _ _ _ _ _ _ (locked_files began peripherals_of)

  abbrev calls : IngressCalls Pool
  calls = pooled_calls view

  abbrev Ready : ℕ → Pool → Pool → Type 0
  Ready now old new = new ≡ old

  module _ (who : ℕ) where
    ready : (now : ℕ) (old new : Pool) → new ≡ old → By who [] old new
    ready now old new is = same (By who) calls (pooled_counts view files who) old new is

    of_pool : (rounds : List Round) (first last : Pool)
        → AreChained (IsRoundBy Ready calls) rounds first last
        → By who (deliveries_of rounds) first last
    of_pool = rounds_are (By who) calls (pooled_counts view files who) Ready ready

    of_firing : (rounds : List Round) (first last : Firing Pool)
        → AreChained (IsRoundBy (readies_firing Ready) (fired_calls calls)) rounds first last
        → By who (deliveries_of rounds) first.ingress last.ingress
    of_firing = rounds_are (λ ds old new. By who ds old.ingress new.ingress) (fired_calls calls)
        (timed_counts (By who) calls (pooled_counts view files who)) (readies_firing Ready)
        (λ now old new w. ready now old.ingress new.ingress w.0)

  module _ (Reported : Report → CallLog → CallLog → Type 0) (workers limit : ℕ) (persistent : Bool) (start : ServerState) (Kept : List Shard → List FiledEntry → Type 0)
      (before after : Option (List Receive)) (replies : Replies) where
    abbrev Served : List Timer → Option ℕ → Type 0
    Served timers every =
        HasServedPooled view timers every Reported e workers limit persistent start Kept before after replies

    -- the deliveries of the rounds are those of the one order.
    in_order : (timers : List Timer) (every : Option ℕ) (w : Served timers every)
        (ds : List Delivery) (last : Pool) → w.last ≡ last → By w.new.log.who ds w.first last
        → deliveries_in w.order.order.calls ≡ ds
    in_order timers every w ds last is by =
        delivered_in_order view files (10 + (workers + 1)) w.channel
        (offload_where w.has_workers (offload_of persistent)) w.first w.last w.new ds
        (subst (λ (d : Pool). By w.new.log.who ds w.first d) (sym is) by)
        w.shares w.worked start w.closed w.order

    pub untimed : (w : Served [] None)
        → deliveries_in w.order.order.calls ≡ deliveries_of w.run.rounds
    untimed w =
        let rounds = w.run.rounds in
        in_order [] None w (deliveries_of rounds) w.last refl
        (of_pool w.new.log.who rounds w.first w.last
        (any_wait Ready calls rounds w.first w.last w.run.has.are_rounds))

    pub reported : (every : ℕ) (w : Served [] (Some every))
        → deliveries_in w.order.order.calls ≡ deliveries_of w.run.run.rounds
    reported every w =
        let rounds = w.run.run.rounds in
        let last = w.run.reporting in
        in_order [] (Some every) w (deliveries_of rounds) last.ingress w.run.last_is
        (of_pool w.new.log.who rounds w.first last.ingress
        (rounds_held (λ r. r.ingress) (readies_through Ready) Ready (λ now old new x. x.0)
        (reported_calls Reported calls) calls (reported_simulates Reported calls) rounds
        (reporting_from every w.run.log w.first) last w.run.run.has.are_rounds))

    pub timed : (t : Timer) (ts : List Timer) (w : Served (t ∷ ts) None)
        → deliveries_in w.order.order.calls ≡ deliveries_of w.run.run.rounds
    timed t ts w =
        let rounds = w.run.run.rounds in
        let first = firing_from (t ∷ ts) w.first in
        let last = w.run.firing in
        in_order (t ∷ ts) None w (deliveries_of rounds) last.ingress w.run.last_is
        (of_firing w.new.log.who rounds first last
        (any_wait (readies_firing Ready) (fired_calls calls) rounds first last
        w.run.run.has.are_rounds))

    pub timed_reported : (t : Timer) (ts : List Timer) (every : ℕ)
        (w : Served (t ∷ ts) (Some every))
        → deliveries_in w.order.order.calls ≡ deliveries_of w.run.run.run.rounds
    timed_reported t ts every w =
        let rounds = w.run.run.run.rounds in
        let first = firing_from (t ∷ ts) w.first in
        let last = w.run.run.reporting in
        in_order (t ∷ ts) (Some every) w (deliveries_of rounds) last.ingress.ingress
        (w.run.last_is ∙ ap (λ (f : Firing Pool). f.ingress) w.run.run.last_is)
        (of_firing w.new.log.who rounds first last.ingress
        (rounds_held (λ r. r.ingress) (readies_through (readies_firing Ready))
        (readies_firing Ready) (λ now old new x. x.0)
        (reported_calls Reported (fired_calls calls)) (fired_calls calls)
        (reported_simulates Reported (fired_calls calls)) rounds
        (reporting_from every w.run.run.log first) last w.run.run.run.has.are_rounds))
