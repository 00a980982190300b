use Rattle.std.proofs.Common.{take, arith}
use Rattle.std.proofs.lemmas.Bool.{iff_false}
use Rattle.coap_client.specs.Pings.{IsNoPong}
use Rattle.coap_client.proofs.Pinging.{no_pong, pong}
use Rattle.coap_client.proofs.Transmitting.{ended, flooded, none_come, one_comes, over}
use Rattle.coap_client.proofs.ping.is_rejected.Goals as goal

pub loop-received-init : goal.loop-received-init
loop-received-init g c = none_come (IsNoPong c.args.id) (g.P.Peer.called c.args.peer.now)

pub loop-received-preserved : goal.loop-received-preserved
loop-received-preserved g c =
    one_comes (IsNoPong c.args.id) c.loop-received.received c.in-Some.count c.receive.new.buffer _ (g.P.Peer.called c.args.peer.now) (g.P.Peer.called c.loop-received.peer)
    (g.P.Peer.called c.receive.new.self) (g.P.Peer.called c.receive.new.self) c.in-Some.is c.loop-received.invariant c.in_ok-count.ensures.called
    (no_pong c.args.id _ (g.P.Peer.called c.receive.new.self) (iff_false c.tells_reset.ensures c.if-tells_reset.false))

pub returns-in_default-clause-called : goal.returns-in_default-clause-called
returns-in_default-clause-called g c =
    over (IsNoPong c.args.id) c.loop-received.received c.receive.new.buffer _ (g.P.Peer.called c.args.peer.now) (g.P.Peer.called c.loop-received.peer) (g.P.Peer.called c.receive.new.self)
    c.in_default.is c.loop-received.invariant c.in_ok-count.ensures.called

pub returns-then-tells_reset-clause-called : goal.returns-then-tells_reset-clause-called
returns-then-tells_reset-clause-called g c =
    pong c.args.id (take c.in-Some.count c.receive.new.buffer) (g.P.Peer.called c.args.peer.now) (g.P.Peer.called c.receive.new.self) (c.tells_reset.ensures.0 c.if-tells_reset.true)
    (ended (IsNoPong c.args.id) c.loop-received.received c.in-Some.count c.receive.new.buffer _ (g.P.Peer.called c.args.peer.now) (g.P.Peer.called c.loop-received.peer)
    (g.P.Peer.called c.receive.new.self) c.in-Some.is c.loop-received.invariant c.in_ok-count.ensures.called)

pub returns-clause-called : goal.returns-clause-called
returns-clause-called g c =
    flooded (IsNoPong c.args.id) c.loop-received.received (g.P.Peer.called c.args.peer.now) (g.P.Peer.called c.loop-received.peer)
    (let end = c.loop-received-test.false in omega (arith, end)) c.loop-received.invariant
