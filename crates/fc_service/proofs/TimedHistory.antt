-- All rounds of a server on one thread with timers are one history.
use Rattle.std.proofs.Common.{◌≡◌, ◌⊎◌, ℕ, suc, Bool, true, false, List, [], ◌∷◌, ◌++◌, length, map, append-nil, Option, Some, None, ⊎_elim, arith, refl, ap, sym, subst, ◌∙◌}
use Rattle.std.specs.List.{All}
use Rattle.std.specs.Option.{option_to_list}
use Rattle.std.specs.Prelude.{MatchBool, flat_map, if◌then◌else◌, nat_lt}
use Rattle.std.proofs.lemmas.List.{map-append}
use Rattle.coap_msg.specs.declared.types.Emission.{Emission}
use Rattle.fc_core.specs.declared.event.Event.TheVariants.{Fire}
use Rattle.fc_core.specs.declared.stage.Task.{Task}
use Rattle.fc_core.specs.History.{History}
use Rattle.fc_server.specs.Serving.{FiresTimer, Serves, next, run_through}
use Rattle.fc_server.specs.States.{ServerState}
use Rattle.fc_server.specs.declared.engine.FireOutcome.{FireOutcome}
use Rattle.fc_server.specs.declared.engine.FireOutcome.TheVariants.{Ended, Refused, Sent}
use Rattle.fc_server.specs.declared.alone.SingleThread.{SingleThread}
use Rattle.fc_server.specs.Ingresses.{IngressCalls}
use Rattle.fc_server.specs.Flushing.{AreStepsBy, Asked, FlushingStep, Passed, Resent, sent_in_steps}
use Rattle.fc_server.specs.SingleThread.{alone_calls}
use Rattle.fc_host.specs.Sockets.{Incoming, Receive}
use Rattle.fc_host.specs.Timers.{put_off}
use Rattle.fc_host.specs.declared.timer.Timer.{Timer}
use Rattle.fc_record.specs.ProgramRequests.{Requested}
use Rattle.fc_record.specs.Recording.{Recording, recorded_calls}
use Rattle.fc_record.specs.declared.report.Report.{Report}
use Rattle.fc_backend.specs.declared.call_log.CallLog.{CallLog}
use Rattle.fc_receive.specs.Firing.{AreFired, Firing, FiresOnce, SkipsBeat, fired_calls, is_offloaded, readies_firing}
use Rattle.fc_service.specs.Histories.{Arrival, Beat, Datagram, IsOneHistory, Silence, after_beat, arrival_at, beat_at, timed_arrivals_in, timers_after}
use Rattle.fc_receive.specs.Rounds.{IsReceivedBy, IsRoundBy, Round, RoundCalls, sendings_in}
use Rattle.fc_service.specs.Services.{HasServedTimed}
use Rattle.fc_service.specs.SingleThread.{ReadiesRecorded}
use Rattle.fc_receive.specs.Traffic.{Sending}
use Rattle.fc_pool.specs.declared.replies.Replies.{Replies}
use Rattle.fc_service.proofs.OneHistory.{AreChained, any_wait, GoesOn, Leaves, both_go_on, datagram_goes_on, goes_on_as, leaves_first, none_follows, one_follows, one_history, passed_goes_on, run_follows, steps_go_on}

-- no timer has a job at a worker.
abbrev AreFree : List Timer → Type 0
AreFree [] = Unit {0}
AreFree (t ∷ ts) = (t.offloaded ≡ false) × AreFree ts

pub each_free : (ts : List Timer) → All (λ t. t.offloaded ≡ false) ts → AreFree ts
each_free [] h = tt
each_free (t ∷ ts) h = (h 0 t (omega arith), each_free ts (λ k d lt. h (suc k) d (omega (arith, lt))))

free_either : (b : Bool) (now : ℕ) (t : Timer) → t.offloaded ≡ false → (if b then t else put_off now t).offloaded ≡ false
free_either true now t free = free
free_either false now t free = free

stay_free : (now : ℕ) (ts : List Timer) → AreFree ts → AreFree (map (after_beat now) ts)
stay_free now [] free = tt
stay_free now (t ∷ ts) free = (free_either (nat_lt now t.due) now t free.0, stay_free now ts free.1)

-- ---- one timer

-- the job of a timer that fired ran.
ran : (memory : Bool) (now slot : ℕ) (readings : List ℕ) (old new : SingleThread) (h : History) (tasks : List Task) → FiresTimer readings slot now memory old.engine new.engine → Leaves h old tasks
    → GoesOn h (Beat now slot ∷ []) [] new.engine
ran memory now slot readings old new h tasks fires v =
    let fired = next h (Fire slot now) None in
    let r = fires h tasks v in
    record {
      later = run_through readings (length tasks) memory now None fired;
      follows = run_follows h (Beat now slot ∷ []) readings (length tasks) memory now None fired (one_follows h (Fire slot now) None);
      tasks = r.tasks;
      serves = r.serves;
    }

module _ (Recorded : Requested → CallLog → CallLog → Type 0) where
  abbrev Calls : IngressCalls Recording
  Calls = recorded_calls Recorded

  ended : (outcome : FireOutcome) (now slot : ℕ) (old new : Recording) (h : History) (tasks : List Task) → Calls.fires slot now old new outcome → Leaves h old.alone tasks
      → GoesOn h (Beat now slot ∷ []) [] new.alone.engine × (is_offloaded outcome ≡ false)
  ended Ended now slot old new h tasks w v = (ran true now slot old.alone.handed.readings old.alone new.alone h tasks w.0.0 v, refl)
  ended Refused now slot old new h tasks w v = (ran false now slot old.alone.handed.readings old.alone new.alone h tasks w.0.0 v, refl)
  ended (Sent number) now slot old new h tasks w v = absurd w.0

  fires_or_not : (b : Bool) (now : ℕ) (t u : Timer) (old new : Recording) (h : History) (tasks : List Task) → t.offloaded ≡ false
      → MatchBool b ((u ≡ t) × (new ≡ old)) (FiresOnce Calls now t u old new ⊎ SkipsBeat Calls now t u old new) → Leaves h old.alone tasks
      → GoesOn h (if b then [] else Beat now t.slot ∷ []) [] new.alone.engine × (u ≡ (if b then t else put_off now t))
  fires_or_not true now t u old new h tasks free w v =
      (record { later = h; follows = none_follows h; tasks = tasks; serves = subst (λ (r : Recording). Leaves h r.alone tasks) (sym w.1) v }, w.0)
  fires_or_not false now t u old new h tasks free w v =
      ⊎_elim
      (λ (fires : FiresOnce Calls now t u old new).
      let e = ended fires.outcome now t.slot old new h tasks fires.fires v in
      (e.0, fires.next ∙ ap (λ (b : Bool). record (put_off now t) { offloaded = b }) (e.1 ∙ sym free)))
      (λ (skips : SkipsBeat Calls now t u old new). absurd (cc (skips.offloaded, free)))
      w

  -- ---- all timers

  each_goes_on : (now : ℕ) (ts us : List Timer) (old new : Recording) (h : History) (tasks : List Task) → AreFree ts → AreFired Calls now ts us old new → Leaves h old.alone tasks
      → GoesOn h (flat_map (beat_at now) ts) [] new.alone.engine × (us ≡ map (after_beat now) ts)
  each_goes_on now [] [] old new h tasks free is v =
      (record { later = h; follows = none_follows h; tasks = tasks; serves = subst (λ (r : Recording). Leaves h r.alone tasks) (sym is) v }, refl)
  each_goes_on now (t ∷ ts) (u ∷ us) old new h tasks free w v =
      let first = fires_or_not (nat_lt now t.due) now t u old w.0 h tasks free.0 w.1 v in
      let rest = each_goes_on now ts us w.0 new first.0.later first.0.tasks free.1 w.2 first.0.serves in (
        both_go_on h (beat_at now t) (flat_map (beat_at now) ts) [] [] w.0.alone.engine new.alone.engine first.0 rest.0,
        λ i. first.1 i ∷ rest.1 i,
      )
  each_goes_on now [] (u ∷ us) old new h tasks free w v = elim w [ ]
  each_goes_on now (t ∷ ts) [] old new h tasks free w v = elim w [ ]

  -- ---- rounds

  module _ (sensors : List ℕ → Type 0) where
    abbrev Readies : ℕ → Firing Recording → Firing Recording → Type 0
    Readies = readies_firing (ReadiesRecorded sensors)

    untimed_steps : (now : ℕ) (steps : List FlushingStep) (old new : Firing Recording) → AreStepsBy (fired_calls Calls) now steps old new
        → AreStepsBy alone_calls now steps old.ingress.alone new.ingress.alone × (new.timers ≡ old.timers)
    untimed_steps now [] old new is = (ap (λ (f : Firing Recording). f.ingress.alone) is, ap (λ (f : Firing Recording). f.timers) is)
    untimed_steps now (Resent shard ticked ∷ steps) old new w =
        let before = untimed_steps now steps old w.0 w.2 in ((w.0.ingress.alone, (w.1.0, w.1.1.0.0), before.0), w.1.1.1 ∙ before.1)
    untimed_steps now (Passed shard ∷ steps) old new w =
        let before = untimed_steps now steps old w.0 w.2 in ((w.0.ingress.alone, (w.1.0, w.1.1.0.0), before.0), w.1.1.1 ∙ before.1)
    untimed_steps now (Asked shard told ∷ steps) old new w =
        let before = untimed_steps now steps old w.0 w.2 in ((w.0.ingress.alone, (w.1.0, w.1.1.0.0), before.0), w.1.1.1 ∙ before.1)

    abbrev beats : ℕ → Option Incoming → List Timer → List Arrival
    beats now received ts = flat_map (beat_at now) ts ++ arrival_at now received ∷ []

    received_goes_on : (now : ℕ) (received : Option Incoming) (old new : Firing Recording) (sent : Option Emission) (h : History) (tasks : List Task) → AreFree old.timers
        → IsReceivedBy Readies (fired_calls Calls) now received old sent new → Leaves h old.ingress.alone tasks
        → GoesOn h (beats now received old.timers) (option_to_list sent) new.ingress.alone.engine × (new.timers ≡ map (after_beat now) old.timers)
    received_goes_on now (Some incoming) old new sent h tasks free w v =
        let mid = w.handles.0 in
        let fired = each_goes_on now old.timers new.timers old.ingress mid h tasks free w.handles.1 v in
        let handled = datagram_goes_on now incoming mid.alone new.ingress.alone sent fired.0.later fired.0.tasks
        (record { borrow = w.borrow; bytes_are = w.bytes_are; handled = w.handled; reply = w.reply; handles = w.handles.2.0; sent_is = w.sent_is }) fired.0.serves in
        (both_go_on h (flat_map (beat_at now) old.timers) (Datagram now incoming ∷ []) [] (option_to_list sent) mid.alone.engine new.ingress.alone.engine fired.0 handled, fired.1)
    received_goes_on now None old new sent h tasks free w v =
        let mid = w.0.0 in
        let fired = each_goes_on now old.timers new.timers old.ingress mid h tasks free w.0.1 v in
        let passed = passed_goes_on now mid.alone new.ingress.alone sent fired.0.later fired.0.tasks w.0.2.0 w.1 fired.0.serves in
        (both_go_on h (flat_map (beat_at now) old.timers) (Silence now ∷ []) [] (option_to_list sent) mid.alone.engine new.ingress.alone.engine fired.0 passed, fired.1)

    round_goes_on : (r : Round) (old new : Firing Recording) (h : History) (tasks : List Task) → AreFree old.timers → IsRoundBy Readies (fired_calls Calls) r old new → Leaves h old.ingress.alone tasks
        → GoesOn h (beats r.now r.received old.timers) (map (λ s. s.emission) r.sendings) new.ingress.alone.engine × (new.timers ≡ map (after_beat r.now) old.timers)
    round_goes_on r old new h tasks free w v =
        let made : Leaves h w.ready.ingress.alone tasks = subst (λ (s : ServerState). Serves h s tasks) (sym w.readied.0.0.2) v in
        let same = w.readied.1 in
        let received = received_goes_on r.now r.received w.ready w.answered r.sent h tasks (subst AreFree (sym same) free) w.carried_out made in
        let steps = untimed_steps r.now r.steps w.answered new w.steps in
        let came = beats r.now r.received w.ready.timers in
        let all = both_go_on h came [] (option_to_list r.sent) (sent_in_steps r.steps) w.answered.ingress.alone.engine new.ingress.alone.engine received.0
        (steps_go_on r.now r.steps w.answered.ingress.alone new.ingress.alone received.0.later received.0.tasks steps.0 received.0.serves) in (
          goes_on_as _ (beats r.now r.received old.timers) _ (map (λ s. s.emission) r.sendings) (append-nil came ∙ ap (beats r.now r.received) same) (sym w.sent) all,
          steps.1 ∙ (received.1 ∙ ap (map (after_beat r.now)) same),
        )

    pub rounds_go_on : (rounds : List Round) (old new : Firing Recording) (h : History) (tasks : List Task) → AreFree old.timers → AreChained (IsRoundBy Readies (fired_calls Calls)) rounds old new → Leaves h old.ingress.alone tasks
        → GoesOn h (timed_arrivals_in rounds old.timers) (map (λ s. s.emission) (sendings_in rounds)) new.ingress.alone.engine
        × (new.timers ≡ timers_after rounds old.timers) × AreFree new.timers
    rounds_go_on [] old new h tasks free is v = (
      record { later = h; follows = none_follows h; tasks = tasks; serves = subst (λ (f : Firing Recording). Leaves h f.ingress.alone tasks) (sym is) v },
      ap (λ (f : Firing Recording). f.timers) is,
      subst (λ (f : Firing Recording). AreFree f.timers) (sym is) free,
    )
    rounds_go_on (r ∷ rounds) old new h tasks free w v =
        let before = rounds_go_on rounds old w.0 h tasks free w.1 v in
        let round = round_goes_on r w.0 new before.0.later before.0.tasks before.2 w.2 before.0.serves in
        let came = beats r.now r.received w.0.timers in
        let all = both_go_on h (timed_arrivals_in rounds old.timers) came (map (λ s. s.emission) (sendings_in rounds)) (map (λ s. s.emission) r.sendings) w.0.ingress.alone.engine new.ingress.alone.engine before.0 round.0 in (
          goes_on_as _ _ _ (map (λ s. s.emission) (sendings_in rounds ++ r.sendings)) (ap (λ (ts : List Timer). timed_arrivals_in rounds old.timers ++ beats r.now r.received ts) before.1)
              (sym (map-append (λ (s : Sending). s.emission) (sendings_in rounds) r.sendings)) all,
          round.1 ∙ ap (map (after_beat r.now)) before.1,
          subst AreFree (sym round.1) (stay_free r.now w.0.timers before.2),
        )

pub timed_rounds_are_one_history : (sensors : List ℕ → Type 0) (e : RoundCalls) (Reported : Report → CallLog → CallLog → Type 0) (Recorded : Requested → CallLog → CallLog → Type 0) (timers : List Timer) (limit : ℕ) (start : ServerState)
    (before after : Option (List Receive)) (replies : Replies) → All (λ t. t.offloaded ≡ false) timers
    → (w : HasServedTimed timers None Reported sensors e Recorded limit start before after replies)
    → (h : History) → Serves h start [] → IsOneHistory h (timed_arrivals_in w.run.run.rounds timers) (map (λ s. s.emission) (sendings_in w.run.run.rounds)) w.last.alone.engine
timed_rounds_are_one_history sensors e Reported Recorded timers limit start before after replies free w h serves =
    let arrived = timed_arrivals_in w.run.run.rounds timers in
    let emitted = map (λ s. s.emission) (sendings_in w.run.run.rounds) in
    subst (λ (s : Recording). IsOneHistory h arrived emitted s.alone.engine) (sym w.run.last_is)
    (one_history h arrived emitted w.run.firing.ingress.alone.engine
    (rounds_go_on Recorded sensors w.run.run.rounds (record { ingress = w.first; timers = timers }) w.run.firing h [] (each_free timers free) (any_wait _ _ w.run.run.rounds _ w.run.firing w.run.run.has.are_rounds) (leaves_first h start w.first w.begins serves)).0)
