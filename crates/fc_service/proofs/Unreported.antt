-- Rounds of a server that reports its counts are rounds of the server.
use Rattle.std.proofs.Common.{◌≡◌, ℕ, Bool, true, false, List, [], ◌∷◌, Option, Some, None, map, ap, sym, subst, ◌∙◌, Bor}
use Rattle.std.specs.List.{All}
use Rattle.std.specs.Prelude.{MatchBool, nat_lt}
use Rattle.coap_msg.specs.declared.types.Emission.{Emission}
use Rattle.coap_msg.specs.declared.types.Endpoint.{Endpoint}
use Rattle.fc_front.specs.declared.front.Handled.{Handled}
use Rattle.fc_host.specs.Sockets.{Incoming, Receive}
use Rattle.fc_host.specs.declared.timer.Timer.{Timer}
use Rattle.fc_observe.specs.declared.observers.Ticked.{Ticked}
use Rattle.fc_record.specs.ProgramRequests.{Requested}
use Rattle.fc_record.specs.Recording.{Recording, recorded_calls}
use Rattle.fc_record.specs.declared.report.Report.{Report}
use Rattle.fc_server.specs.Flushing.{AreStepsBy, Asked, Passed, Resent, FlushingStep}
use Rattle.fc_server.specs.Ingresses.{IngressCalls}
use Rattle.fc_server.specs.Notified.{Notified}
use Rattle.fc_backend.specs.declared.call_log.CallLog.{CallLog}
use Rattle.fc_core.specs.History.{History}
use Rattle.fc_server.specs.Serving.{Serves}
use Rattle.fc_server.specs.States.{ServerState}
use Rattle.fc_service.proofs.OneHistory.{AreChained, leaves_first, one_history, recorded_go_on}
use Rattle.fc_service.proofs.TimedHistory.{each_free, rounds_go_on}
use Rattle.fc_receive.specs.Firing.{Firing, fired_calls, firing_from, readies_firing}
use Rattle.fc_service.specs.Histories.{IsOneHistory, arrivals_in, timed_arrivals_in}
use Rattle.fc_receive.specs.Reporting.{MakesReport, Reporting, ReportsIfDue, readies_through, reported_calls, reporting_from}
use Rattle.fc_receive.specs.Rounds.{AreRoundsBy, IsReceivedBy, IsRoundBy, Round, RoundCalls, sendings_in}
use Rattle.fc_service.specs.Services.{HasServedReported, HasServedTimed}
use Rattle.fc_service.specs.SingleThread.{ReadiesRecorded}
use Rattle.fc_pool.specs.declared.replies.Replies.{Replies}

-- each call of the holder of a server is a call of the server.
pub record Simulates {H S : Type 0} (held : H → S) (outer : IngressCalls H) (inner : IngressCalls S) : Type 0 where
  pub handles : (now : ℕ) (from : Endpoint) (bytes : Bor (List ℕ)) (old new : H) (handled : Handled) (reply : Emission) → outer.handles now from bytes old new handled reply → inner.handles now from bytes (held old) (held new) handled reply
  pub passes : (now : ℕ) (old new : H) → outer.passes now old new → inner.passes now (held old) (held new)
  pub resends : (shard now : ℕ) (old new : H) (ticked : Ticked) → outer.resends shard now old new ticked → inner.resends shard now (held old) (held new) ticked
  pub passes_over : (shard now : ℕ) (old new : H) → outer.passes_over shard now old new → inner.passes_over shard now (held old) (held new)
  pub notifies : (shard now : ℕ) (old new : H) (told : Notified) → outer.notifies shard now old new told → inner.notifies shard now (held old) (held new) told

-- ---- rounds of the holder are rounds of the server
module _ {H S : Type 0} (held : H → S) (ReadiesIt : ℕ → H → H → Type 0) (Readies : ℕ → S → S → Type 0) (readied : (now : ℕ) (old new : H) → ReadiesIt now old new → Readies now (held old) (held new))
    (outer : IngressCalls H) (inner : IngressCalls S) (simulates : Simulates held outer inner) where
  steps_held : (now : ℕ) (steps : List FlushingStep) (old new : H) → AreStepsBy outer now steps old new → AreStepsBy inner now steps (held old) (held new)
  steps_held now [] old new is = ap held is
  steps_held now (Resent shard ticked ∷ steps) old new w = (held w.0, (w.1.0, simulates.resends shard now w.0 new ticked w.1.1), steps_held now steps old w.0 w.2)
  steps_held now (Passed shard ∷ steps) old new w = (held w.0, (w.1.0, simulates.passes_over shard now w.0 new w.1.1), steps_held now steps old w.0 w.2)
  steps_held now (Asked shard told ∷ steps) old new w = (held w.0, (w.1.0, simulates.notifies shard now w.0 new told w.1.1), steps_held now steps old w.0 w.2)

  received_held : (now : ℕ) (received : Option Incoming) (old new : H) (sent : Option Emission) → IsReceivedBy ReadiesIt outer now received old sent new → IsReceivedBy Readies inner now received (held old) sent (held new)
  received_held now (Some incoming) old new sent w = record {
    borrow = w.borrow;
    bytes_are = w.bytes_are;
    handled = w.handled;
    reply = w.reply;
    handles = simulates.handles now incoming.from w.borrow old new w.handled w.reply w.handles;
    sent_is = w.sent_is;
  }
  received_held now None old new sent w = (simulates.passes now old new w.0, w.1)

  round_held : (r : Round) (old new : H) → IsRoundBy ReadiesIt outer r old new → IsRoundBy Readies inner r (held old) (held new)
  round_held r old new w = record {
    ready = held w.ready;
    readied = readied r.now old w.ready w.readied;
    answered = held w.answered;
    carried_out = received_held r.now r.received w.ready w.answered r.sent w.carried_out;
    steps = steps_held r.now r.steps w.answered new w.steps;
    flushed = w.flushed;
    sent = w.sent;
  }

  pub rounds_held : (rounds : List Round) (old new : H) → AreRoundsBy ReadiesIt outer rounds old new → AreChained (IsRoundBy Readies inner) rounds (held old) (held new)
  rounds_held [] old new is = ap held is
  rounds_held (r ∷ rounds) old new w = (held w.0, rounds_held rounds old w.0 w.1, round_held r w.0 new w.3)

-- ---- a server that reports its counts
module _ {S : Type 0} (Reported : Report → CallLog → CallLog → Type 0) (calls : IngressCalls S) where
  -- a report leaves the server as it is.
  left_by : (early : Bool) (now : ℕ) (old mid : Reporting S) → MatchBool early (mid ≡ old) (MakesReport Reported calls now old mid) → mid.ingress ≡ old.ingress
  left_by true now old mid is = ap (λ (r : Reporting S). r.ingress) is
  left_by false now old mid w = ap (λ (r : Reporting S). r.ingress) w.state

  same_server : (now : ℕ) (old mid : Reporting S) → ReportsIfDue Reported calls now old mid → mid.ingress ≡ old.ingress
  same_server now old mid w = left_by (nat_lt now old.due) now old mid w

  pub reported_simulates : Simulates (λ (r : Reporting S). r.ingress) (reported_calls Reported calls) calls
  reported_simulates = record {
    handles = λ now from bytes old new handled reply w. subst (λ (s : S). calls.handles now from bytes s new.ingress handled reply) (same_server now old w.0 w.1) w.2;
    passes = λ now old new w. subst (λ (s : S). calls.passes now s new.ingress) (same_server now old w.0 w.1) w.2;
    resends = λ shard now old new ticked w. w.0;
    passes_over = λ shard now old new w. w.0;
    notifies = λ shard now old new told w. w.0;
  }

pub reported_rounds : (sensors : List ℕ → Type 0) (e : RoundCalls) (Reported : Report → CallLog → CallLog → Type 0) (Recorded : Requested → CallLog → CallLog → Type 0) (every limit : ℕ) (start : ServerState)
    (before after : Option (List Receive)) (replies : Replies) (w : HasServedReported every Reported sensors e Recorded limit start before after replies)
    → (h : History) → Serves h start [] → IsOneHistory h (arrivals_in w.run.run.rounds) (map (λ s. s.emission) (sendings_in w.run.run.rounds)) w.last.alone.engine
reported_rounds sensors e Reported Recorded every limit start before after replies w h serves =
    let rounds = w.run.run.rounds in
    let emitted = map (λ s. s.emission) (sendings_in rounds) in
    let last = w.run.reporting.ingress in
    let chained = rounds_held (λ r. r.ingress) (readies_through (ReadiesRecorded sensors)) (ReadiesRecorded sensors) (λ now old new w. w.0) _ (recorded_calls Recorded) (reported_simulates Reported (recorded_calls Recorded)) rounds (reporting_from every w.run.log w.first) w.run.reporting w.run.run.has.are_rounds in
    subst (λ (s : Recording). IsOneHistory h (arrivals_in rounds) emitted s.alone.engine) (sym w.run.last_is)
    (one_history h (arrivals_in rounds) emitted last.alone.engine (recorded_go_on sensors Recorded rounds w.first last h [] chained (leaves_first h start w.first w.begins serves)))

-- the same with timers.
pub timed_reported_rounds : (sensors : List ℕ → Type 0) (e : RoundCalls) (Reported : Report → CallLog → CallLog → Type 0) (Recorded : Requested → CallLog → CallLog → Type 0) (timers : List Timer) (every limit : ℕ) (start : ServerState)
    (before after : Option (List Receive)) (replies : Replies) → All (λ t. t.offloaded ≡ false) timers
    → (w : HasServedTimed timers (Some every) Reported sensors e Recorded limit start before after replies)
    → (h : History) → Serves h start [] → IsOneHistory h (timed_arrivals_in w.run.run.run.rounds timers) (map (λ s. s.emission) (sendings_in w.run.run.run.rounds)) w.last.alone.engine
timed_reported_rounds sensors e Reported Recorded timers every limit start before after replies free w h serves =
    let rounds = w.run.run.run.rounds in
    let arrived = timed_arrivals_in rounds timers in
    let emitted = map (λ s. s.emission) (sendings_in rounds) in
    let first = firing_from timers w.first in
    let last = w.run.run.reporting.ingress in
    let chained = rounds_held (λ r. r.ingress) (readies_through (readies_firing (ReadiesRecorded sensors))) (readies_firing (ReadiesRecorded sensors)) (λ now old new w. w.0) _ (fired_calls (recorded_calls Recorded)) (reported_simulates Reported (fired_calls (recorded_calls Recorded))) rounds (reporting_from every w.run.run.log first) w.run.run.reporting w.run.run.run.has.are_rounds in
    subst (λ (s : Recording). IsOneHistory h arrived emitted s.alone.engine) (sym (w.run.last_is ∙ ap (λ (f : Firing Recording). f.ingress) w.run.run.last_is))
    (one_history h arrived emitted last.ingress.alone.engine (rounds_go_on Recorded sensors rounds first last h [] (each_free timers free) chained (leaves_first h start w.first w.begins serves)).0)
