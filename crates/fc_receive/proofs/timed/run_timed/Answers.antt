use Rattle.std.proofs.Common.{◌≡◌, List, false, length, subst, sym, ◌∙◌}
use Rattle.std.specs.Prelude.{◌==◌}
use Rattle.fc_host.specs.declared.timer.Timer.{Timer}
use Rattle.fc_receive.proofs.Reported.{run_with}
use Rattle.fc_receive.specs.Firing.{Firing, fired_calls, readies_firing}
use Rattle.fc_receive.specs.Rounds.{HasReceivedBy, round_calls}
use Rattle.fc_receive.proofs.timed.run_timed.Goals as goal

pub returns : goal.returns
returns g c =
    let e = round_calls g.S.Source.received g.M.TimeSource.is_time g.K.Sink.went in
    run_with c.args.timers.timers.items c.args.reports.now.every g.Q.Reporter.reported g.P.Preparation.readies g.N.Ingress.calls e c.args.limit
    (g.S.Source.came c.args.source.now) (g.S.Source.came c.run_reported-ingress.new.source) c.args.ingress c.into_inner.result c.run_reported-ingress.result.given
    (subst (λ (ts : List Timer). (length ts == 0) ≡ false) c.as_slice.ensures.value (sym c.is_empty.ensures ∙ c.if-is_empty.false))
    (record {
      firing = c.run_reported-ingress.result.ingress;
      run = subst (λ (f : Firing _). HasReceivedBy c.args.reports.now.every g.Q.Reporter.reported (readies_firing g.P.Preparation.readies) (fired_calls g.N.Ingress.calls) e c.args.limit
          (g.S.Source.came c.args.source.now) (g.S.Source.came c.run_reported-ingress.new.source) f c.run_reported-ingress.result.ingress c.run_reported-ingress.result.given) c.new-firing.ensures c.run_reported-ingress.ensures;
      last_is = c.into_inner.ensures;
    })
