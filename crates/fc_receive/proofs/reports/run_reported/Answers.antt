use Rattle.std.proofs.Common.{subst}
use Rattle.fc_receive.specs.Reporting.{Reporting, readies_through, reported_calls}
use Rattle.fc_receive.specs.Rounds.{HasRun, round_calls}
use Rattle.fc_receive.proofs.reports.run_reported.Goals as goal

pub returns : goal.returns
returns g c = rw c.in-Some.is (record {
  log = c.new-reporting.result.log;
  reporting = c.run_rounds-given-2.new.ingress;
  run = subst (λ (r : Reporting _). HasRun (readies_through g.P.Preparation.readies) (reported_calls g.Q.Reporter.reported g.N.Ingress.calls)
      (round_calls g.S.Source.received g.M.TimeSource.is_time g.K.Sink.went) c.args.limit (g.S.Source.came c.args.source.now) (g.S.Source.came c.run_rounds-given-2.new.source)
      r c.run_rounds-given-2.new.ingress c.run_rounds-given-2.result) c.new-reporting.ensures c.run_rounds-given-2.ensures;
  last_is = c.into_inner.ensures;
})
