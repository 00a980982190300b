use Rattle.fc_fetch.proofs.Timing.{rests}
use Rattle.fc_fetch.proofs.waits.begin_rest.Goals as goal

pub returns-clause-called : goal.returns-clause-called
returns-clause-called g c =
    rests c.args.limit.seconds c.args.limit.start c.in_ok-now.now c.rest_wait-rest.result (g.P.Peer.called c.args.peer.now) (g.P.Peer.called c.time.new.peer) (g.P.Peer.called c.begin_wait.new.peer)
    c.rest_wait-rest.ensures c.in_ok-now.ensures.called c.in_ok-begin_wait.ensures.called
