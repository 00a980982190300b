use Rattle.fc_server.specs.States.{begin_of, first_server}
use Rattle.fc_service.proofs.OneHistory.{begins_empty, rounds_are_one_history}
use Rattle.fc_receive.specs.Rounds.{round_calls}
use Rattle.fc_service.proofs.laws.served_rounds_are_one_history.Goals as goal

pub returns-clause-any : goal.returns-clause-any
returns-clause-any g c = rounds_are_one_history g.Z.Sensors.are_sensed (round_calls g.S.Source.received g.M.TimeSource.is_time g.K.Sink.went) g.C.Recorder.recorded

pub returns-clause-empty : goal.returns-clause-empty
returns-clause-empty g c = λ limit begin before after replies w.
    rounds_are_one_history g.Z.Sensors.are_sensed (round_calls g.S.Source.received g.M.TimeSource.is_time g.K.Sink.went) g.C.Recorder.recorded
    limit (first_server begin) before after replies w (begin_of begin) (begins_empty begin)
