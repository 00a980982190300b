use Rattle.fc_receive.proofs.Reported.{made}
use Rattle.fc_receive.proofs.reporting.Reporting.report_if_due.Goals as goal

pub returns : goal.returns
returns g c = made g.Q.Reporter.reported g.N.Ingress.calls c.args.now c.saturating_add-self-inside.result
    (record { ingress = c.self.inside.ingress; report = c.self.inside.report; every = c.self.inside.every; due = c.self.inside.due; log = c.self.inside.log })
    c.args.self.now c.gauges-self-inside.result c.report.new.log c.self.view_is c.if-now-self.false c.saturating_add-self-inside.ensures c.gauges-self-inside.ensures c.report.ensures
