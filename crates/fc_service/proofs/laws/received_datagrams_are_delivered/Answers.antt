use Rattle.fc_filed.specs.Recovered.{HaveSavedOrder}
use Rattle.fc_locked.specs.SharedStores.{HasSaved}
use Rattle.fc_service.proofs.Deliveries.{reported, timed, timed_reported, untimed}
use Rattle.fc_receive.specs.Rounds.{round_calls}
use Rattle.fc_service.proofs.laws.received_datagrams_are_delivered.Goals as goal

pub returns-clause-untimed : goal.returns-clause-untimed
returns-clause-untimed g c = λ first workers limit persistent start stored before after replies w.
    untimed g.Z.Sensors.are_sensed (round_calls g.S.Source.received g.M.TimeSource.is_time g.K.Sink.went) g.C.Recorder.recorded (HasSaved g.P.Store) first g.Q.Reporter.reported workers limit persistent start (HaveSavedOrder g.P.Store start stored) before after replies w

pub returns-clause-reported : goal.returns-clause-reported
returns-clause-reported g c = λ first every workers limit persistent start stored before after replies w.
    reported g.Z.Sensors.are_sensed (round_calls g.S.Source.received g.M.TimeSource.is_time g.K.Sink.went) g.C.Recorder.recorded (HasSaved g.P.Store) first g.Q.Reporter.reported workers limit persistent start (HaveSavedOrder g.P.Store start stored) before after replies every w

pub returns-clause-timed : goal.returns-clause-timed
returns-clause-timed g c = λ first t ts workers limit persistent start stored before after replies w.
    timed g.Z.Sensors.are_sensed (round_calls g.S.Source.received g.M.TimeSource.is_time g.K.Sink.went) g.C.Recorder.recorded (HasSaved g.P.Store) first g.Q.Reporter.reported workers limit persistent start (HaveSavedOrder g.P.Store start stored) before after replies t ts w

pub returns-clause-both : goal.returns-clause-both
returns-clause-both g c = λ first t ts every workers limit persistent start stored before after replies w.
    timed_reported g.Z.Sensors.are_sensed (round_calls g.S.Source.received g.M.TimeSource.is_time g.K.Sink.went) g.C.Recorder.recorded (HasSaved g.P.Store) first g.Q.Reporter.reported workers limit persistent start (HaveSavedOrder g.P.Store start stored) before after replies t ts every w
