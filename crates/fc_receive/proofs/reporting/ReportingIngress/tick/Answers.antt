use Rattle.fc_receive.proofs.Reported.{passed_after}
use Rattle.fc_receive.proofs.reporting.ReportingIngress.tick.Goals as goal

pub returns : goal.returns
returns g c = passed_after g.Q.Reporter.reported g.N.Ingress.calls c.args.now
    (record { ingress = c.self.inside.ingress; report = c.self.inside.report; every = c.self.inside.every; due = c.self.inside.due; log = c.self.inside.log })
    c.args.self.now c.report_if_due.new.self c.tick.new.self c.self.view_is c.report_if_due.ensures c.tick.ensures
