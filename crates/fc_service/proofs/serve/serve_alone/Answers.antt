use Rattle.std.proofs.Common.{◌∙◌, ap}
use Rattle.fc_server.specs.declared.alone.SingleThread.{SingleThread}
use Rattle.fc_service.proofs.ServedAlone.{served_by}
use Rattle.fc_receive.specs.Rounds.{round_calls}
use Rattle.fc_service.proofs.serve.serve_alone.Goals as goal

pub returns : goal.returns
returns g c =
    served_by c.args.service.timers.items c.args.service.records.now.reports.every g.Q.Reporter.reported g.Z.Sensors.are_sensed
    (round_calls g.S.Source.received g.M.TimeSource.is_time g.K.Sink.went) g.C.Recorder.recorded c.args.service.extent.limit c.args.first
    (g.S.Source.came c.args.source) (g.S.Source.came c.run_timed-last.new.source) c.new-alone.result _ c.run_timed-last.result.given
    (ap (λ (a : SingleThread). a.engine) c.new-alone.ensures ∙ c.in_ok-over.ensures.engine)
    c.run_timed-last.ensures
