-- A server whose counts are reported.
use Rattle.std.proofs.Common.{◌≡◌, ◌∙◌, ◌/◌, ◌%◌, length, ℕ, ◌+◌, ◌≤◌, Bool, false, List, [], ◌∷◌, Option, ap, refl, subst, sym, Bor}
use Rattle.std.specs.Prelude.{◌==◌, MatchBool}
use Rattle.std.proofs.lemmas.Bool.{le-ltb}
use Rattle.coap_msg.specs.declared.types.Emission.{Emission}
use Rattle.coap_msg.specs.declared.types.Endpoint.{Endpoint}
use Rattle.fc_front.specs.declared.front.Handled.{Handled}
use Rattle.fc_host.specs.Sockets.{Receive}
use Rattle.fc_host.specs.declared.timer.Timer.{Timer}
use Rattle.fc_record.specs.ProgramRequests.{Requested}
use Rattle.fc_record.specs.Recording.{Recording, recorded_calls}
use Rattle.fc_record.specs.Reports.{datagram_counted}
use Rattle.fc_record.specs.declared.report.Report.{Report}
use Rattle.fc_registry.specs.Shards.{shard_at}
use Rattle.fc_registry.specs.Watches.{watch_at}
use Rattle.fc_server.specs.Gauges.{observers_of}
use Rattle.fc_server.specs.Ingresses.{IngressCalls}
use Rattle.fc_server.specs.declared.gauges.Gauges.{Gauges}
use Rattle.fc_server.proofs.Counted.{observers_in}
use Rattle.fc_backend.specs.Answers.{saturated}
use Rattle.fc_backend.specs.declared.call_log.CallLog.{CallLog}
use Rattle.fc_receive.specs.Reporting.{MakesReport, Reporting, ReportsIfDue, reported_calls}
use Rattle.fc_receive.specs.Rounds.{HasReceivedWith, HasRunTimed, RoundCalls}
use Rattle.fc_pool.specs.declared.replies.Replies.{Replies}

module _ {S : Type 0} (Reported : Report → CallLog → CallLog → Type 0) (calls : IngressCalls S) where
  -- a report that was due was made.
  pub made : (now due : ℕ) (inside old : Reporting S) (gauges : Gauges) (log : CallLog) → inside ≡ old → inside.due ≤ now → due ≡ saturated (now + inside.every)
      → calls.tells_gauges now inside.ingress gauges → Reported (record inside.report { gauges = gauges }) inside.log log
      → ReportsIfDue Reported calls now old (record inside { report = record inside.report { gauges = gauges }; due = due; log = log })
  made now due inside old gauges log is le next are w =
      let report : Report = record inside.report { gauges = gauges } in
      let new : Reporting S = record inside { report = report; due = due; log = log } in
      subst (λ (r : Reporting S). ReportsIfDue Reported calls now r new) is
      (subst (λ (b : Bool). MatchBool b (new ≡ inside) (MakesReport Reported calls now inside new)) (sym (le-ltb now inside.due le))
      (record { gauges = gauges; gauges_are = are; log = log; reported = w; state = ap (λ (n : ℕ). record inside { report = report; due = n; log = log }) next }))

  -- a datagram was handled after the report that was due.
  pub handled_after : (now : ℕ) (from : Endpoint) (bytes : Bor (List ℕ)) (inside old mid : Reporting S) (new : S) (report : Report) (handled : Handled) (reply : Emission)
      → inside ≡ mid → ReportsIfDue Reported calls now old mid → calls.handles now from bytes inside.ingress new handled reply → report ≡ datagram_counted handled reply inside.report
      → (reported_calls Reported calls).handles now from bytes old (record inside { ingress = new; report = report }) handled reply
  handled_after now from bytes inside old mid new report handled reply is due handles counted =
      (inside, subst (λ (r : Reporting S). ReportsIfDue Reported calls now old r) (sym is) due, handles, ap (λ (x : Report). record inside { ingress = new; report = x }) counted)

  -- time passed after the report that was due.
  pub passed_after : (now : ℕ) (inside old mid : Reporting S) (new : S) → inside ≡ mid → ReportsIfDue Reported calls now old mid → calls.passes now inside.ingress new
      → (reported_calls Reported calls).passes now old (record inside { ingress = new })
  passed_after now inside old mid new is due passes = (inside, subst (λ (r : Reporting S). ReportsIfDue Reported calls now old r) (sym is) due, passes, refl)

-- a server has run with timers, if there are some.
pub run_with : {S : Type 0} (timers : List Timer) (every : Option ℕ) (Reported : Report → CallLog → CallLog → Type 0) (Readies : ℕ → S → S → Type 0) (calls : IngressCalls S) (e : RoundCalls)
    (limit : ℕ) (before after : Option (List Receive)) (first last : S) (replies : Replies) → (length timers == 0) ≡ false
    → HasRunTimed timers every Reported Readies calls e limit before after first last replies → HasReceivedWith timers every Reported Readies calls e limit before after first last replies
run_with [] every Reported Readies calls e limit before after first last replies some run = absurd (cc some)
run_with (t ∷ ts) every Reported Readies calls e limit before after first last replies some run = run

-- ---- gauges on one thread

-- the observers of a slot of a server on one thread.
pub one_threads_observers : (Recorded : Requested → CallLog → CallLog → Type 0) (now n : ℕ) (s : Recording) (gauges : Gauges) → (recorded_calls Recorded).tells_gauges now s gauges
    → observers_of gauges.observers.shards n ≡ length (watch_at (shard_at s.alone.engine.shards (n % 8)) (n / 8)).held
one_threads_observers Recorded now n s gauges are = ap (λ (g : Gauges). observers_of g.observers.shards n) are ∙ observers_in s.alone.engine.shards n
