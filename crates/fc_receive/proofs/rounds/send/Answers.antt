use Rattle.fc_receive.proofs.Traffic.{one_sent}
use Rattle.fc_receive.proofs.rounds.send.Goals as goal

pub returns : goal.returns
returns g c = one_sent g.K.Sink.went c.args.emission.now c.send-out.result c.args.replied.now
    (record { replies = c.count_if_any.new.self; log = c.send-out.new.log }) c.send-out.ensures c.count_if_any.ensures
