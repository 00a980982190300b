use Rattle.fc_server.specs.States.{begin_of, first_server}
use Rattle.fc_service.proofs.OneHistory.{begins_empty}
use Rattle.fc_service.proofs.Unreported.{reported_rounds, timed_reported_rounds}
use Rattle.fc_receive.specs.Rounds.{round_calls}
use Rattle.fc_service.proofs.laws.reported_rounds_are_one_history.Goals as goal

pub returns-clause-untimed : goal.returns-clause-untimed
returns-clause-untimed g c = reported_rounds g.Z.Sensors.are_sensed (round_calls g.S.Source.received g.M.TimeSource.is_time g.K.Sink.went) g.Q.Reporter.reported g.C.Recorder.recorded

pub returns-clause-timed : goal.returns-clause-timed
returns-clause-timed g c = timed_reported_rounds g.Z.Sensors.are_sensed (round_calls g.S.Source.received g.M.TimeSource.is_time g.K.Sink.went) g.Q.Reporter.reported g.C.Recorder.recorded

pub returns-clause-empty_untimed : goal.returns-clause-empty_untimed
returns-clause-empty_untimed g c = λ every limit begin before after replies w.
    reported_rounds g.Z.Sensors.are_sensed (round_calls g.S.Source.received g.M.TimeSource.is_time g.K.Sink.went) g.Q.Reporter.reported g.C.Recorder.recorded
    every limit (first_server begin) before after replies w (begin_of begin) (begins_empty begin)

pub returns-clause-empty_timed : goal.returns-clause-empty_timed
returns-clause-empty_timed g c = λ timers every limit begin before after replies free w.
    timed_reported_rounds g.Z.Sensors.are_sensed (round_calls g.S.Source.received g.M.TimeSource.is_time g.K.Sink.went) g.Q.Reporter.reported g.C.Recorder.recorded
    timers every limit (first_server begin) before after replies free w (begin_of begin) (begins_empty begin)
