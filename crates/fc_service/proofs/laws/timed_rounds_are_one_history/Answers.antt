use Rattle.fc_server.specs.States.{begin_of, first_server}
use Rattle.fc_service.proofs.OneHistory.{begins_empty}
use Rattle.fc_service.proofs.TimedHistory.{timed_rounds_are_one_history}
use Rattle.fc_receive.specs.Rounds.{round_calls}
use Rattle.fc_service.proofs.laws.timed_rounds_are_one_history.Goals as goal

pub returns-clause-any : goal.returns-clause-any
returns-clause-any g c = timed_rounds_are_one_history g.Z.Sensors.are_sensed (round_calls g.S.Source.received g.M.TimeSource.is_time g.K.Sink.went) g.Q.Reporter.reported g.C.Recorder.recorded

pub returns-clause-empty : goal.returns-clause-empty
returns-clause-empty g c = λ timers limit begin before after replies free w.
    timed_rounds_are_one_history g.Z.Sensors.are_sensed (round_calls g.S.Source.received g.M.TimeSource.is_time g.K.Sink.went) g.Q.Reporter.reported g.C.Recorder.recorded
    timers limit (first_server begin) before after replies free w (begin_of begin) (begins_empty begin)
