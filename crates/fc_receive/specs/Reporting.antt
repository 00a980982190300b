-- Reports of a server's counts, with a period in milliseconds.
use Rattle.std.specs.Prelude.{◌≡◌, ◌+◌, ℕ, nat_lt, min, MatchBool}
use Rattle.fc_server.specs.Ingresses.{IngressCalls}
use Rattle.fc_server.specs.declared.gauges.Gauges.{Gauges}
use Rattle.fc_backend.specs.Answers.{saturated}
use Rattle.fc_backend.specs.declared.call_log.CallLog.{CallLog}
use Rattle.fc_record.specs.Reports.{datagram_counted, lease_counted, nothing_counted, tick_counted}
use Rattle.fc_record.specs.declared.report.Report.{Report}

-- a server whose calls are counted; the period of its reports, in milliseconds, and the time at
-- which the next one is due; and the log of its reports.
pub record Reporting (S : Type 0) : Type 0 where
  pub ingress : S
  pub report : Report
  pub every : ℕ
  pub due : ℕ
  pub log : CallLog

-- reporting begins: nothing was counted, and the first report is due after one period.
abbrev pub reporting_from : {S : Type 0} → ℕ → CallLog → S → Reporting S
reporting_from every log s = record { ingress = s; report = nothing_counted; every = every; due = every; log = log }

module _ {S : Type 0} (Reported : Report → CallLog → CallLog → Type 0) (calls : IngressCalls S) where
  -- the counts so far were reported, once, with the gauges of this time. The next report is due one
  -- period after this time, so a late report delays the next one.
  pub record MakesReport (now : ℕ) (old new : Reporting S) : Type 0 where
    pub gauges : Gauges
    pub gauges_are : calls.tells_gauges now old.ingress gauges
    pub log : CallLog
    pub reported : Reported (record old.report { gauges = gauges }) old.log log
    pub state : new ≡ record old { report = record old.report { gauges = gauges }; due = saturated (now + old.every); log = log }

  -- nothing is reported before the due time.
  abbrev pub ReportsIfDue : ℕ → Reporting S → Reporting S → Type 0
  ReportsIfDue now old new = MatchBool (nat_lt now old.due) (new ≡ old) (MakesReport now old new)

  -- the calls of a server, each counted by its result. If a report is due when a datagram comes, or
  -- when time passes, the report is made before that. A server is idle for no longer than until its
  -- next report is due.
  abbrev pub reported_calls : IngressCalls (Reporting S)
  reported_calls = record {
    handles = λ now from bytes old new handled reply. (mid : Reporting S) × ReportsIfDue now old mid × calls.handles now from bytes mid.ingress new.ingress handled reply
        × (new ≡ record mid { ingress = new.ingress; report = datagram_counted handled reply mid.report });
    passes = λ now old new. (mid : Reporting S) × ReportsIfDue now old mid × calls.passes now mid.ingress new.ingress × (new ≡ record mid { ingress = new.ingress });
    fires = λ slot now old new outcome. calls.fires slot now old.ingress new.ingress outcome × (new ≡ record old { ingress = new.ingress });
    is_first_due = λ now due. calls.is_first_due now.ingress due;
    resends = λ shard now old new ticked. calls.resends shard now old.ingress new.ingress ticked
        × (new ≡ record old { ingress = new.ingress; report = tick_counted ticked old.report });
    passes_over = λ shard now old new. calls.passes_over shard now old.ingress new.ingress × (new ≡ record old { ingress = new.ingress });
    notifies = λ shard now old new told. calls.notifies shard now old.ingress new.ingress told
        × (new ≡ record old { ingress = new.ingress; report = lease_counted told old.report });
    tells_gauges = λ now state gauges. calls.tells_gauges now state.ingress gauges;
    stays_idle = λ shard now until. (own : ℕ) × calls.stays_idle shard now.ingress own × (until ≡ min own now.due);
  }

-- a server was prepared for a round, and its counts and reports are as before.
abbrev pub readies_through : {S : Type 0} → (ℕ → S → S → Type 0) → ℕ → Reporting S → Reporting S → Type 0
readies_through Readies now old new = Readies now old.ingress new.ingress × (new ≡ record old { ingress = new.ingress })
