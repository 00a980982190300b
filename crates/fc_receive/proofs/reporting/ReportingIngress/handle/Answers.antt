use Rattle.fc_receive.proofs.Reported.{handled_after}
use Rattle.fc_receive.proofs.reporting.ReportingIngress.handle.Goals as goal

pub returns : goal.returns
returns g c = handled_after g.Q.Reporter.reported g.N.Ingress.calls c.args.now c.args.from c.args.bytes
    (record { ingress = c.self.inside.ingress; report = c.self.inside.report; every = c.self.inside.every; due = c.self.inside.due; log = c.self.inside.log })
    c.args.self.now c.report_if_due.new.self c.handle-handled.new.self c.count_datagram.new.self c.handle-handled.result c.handle-handled.new.reply
    c.self.view_is c.report_if_due.ensures c.handle-handled.ensures c.count_datagram.ensures
