use Rattle.std.proofs.Common.{take, arith}
use Rattle.std.proofs.lemmas.Bool.{iff_false}
use Rattle.coap_observer.specs.ObserverCalls.{IsPassedOverLeaving}
use Rattle.coap_observer.proofs.ObserverFailing.{reset_came}
use Rattle.coap_observer.proofs.ObserverCalls.{left, passed_leaving}
use Rattle.coap_client.proofs.Transmitting.{ended, flooded, none_come, one_comes, over}
use Rattle.coap_observer.proofs.observing.is_acknowledged.Goals as goal

pub loop-received-init : goal.loop-received-init
loop-received-init g c = none_come (IsPassedOverLeaving c.args.token.now c.args.id) (g.P.Peer.called c.args.peer.now)

pub loop-received-preserved : goal.loop-received-preserved
loop-received-preserved g c =
    one_comes (IsPassedOverLeaving c.args.token.now c.args.id) c.loop-received.received c.in-Some.count c.receive.new.buffer _ (g.P.Peer.called c.args.peer.now)
    (g.P.Peer.called c.loop-received.peer) (g.P.Peer.called c.receive.new.self) (g.P.Peer.called c.acknowledge_notification.new.peer) c.in-Some.is c.loop-received.invariant
    c.in_ok-count.ensures.called
    (passed_leaving c.args.token.now c.args.id _ (g.P.Peer.called c.receive.new.self) (g.P.Peer.called c.acknowledge_notification.new.peer)
    (iff_false c.tells_acknowledgement.ensures c.if-tells_acknowledgement.false) (iff_false c.tells_reset.ensures c.if-tells_reset.false) c.in_ok-acknowledge_notification.ensures.called)

pub returns-in_default-clause-called : goal.returns-in_default-clause-called
returns-in_default-clause-called g c =
    over (IsPassedOverLeaving c.args.token.now c.args.id) c.loop-received.received c.receive.new.buffer _ (g.P.Peer.called c.args.peer.now) (g.P.Peer.called c.loop-received.peer)
    (g.P.Peer.called c.receive.new.self) c.in_default.is c.loop-received.invariant c.in_ok-count.ensures.called

pub returns-then-tells_acknowledgement-clause-called : goal.returns-then-tells_acknowledgement-clause-called
returns-then-tells_acknowledgement-clause-called g c =
    left c.args.token.now c.args.id (take c.in-Some.count c.receive.new.buffer) (g.P.Peer.called c.args.peer.now) (g.P.Peer.called c.receive.new.self)
    (c.tells_acknowledgement.ensures.0 c.if-tells_acknowledgement.true)
    (ended (IsPassedOverLeaving c.args.token.now c.args.id) c.loop-received.received c.in-Some.count c.receive.new.buffer _ (g.P.Peer.called c.args.peer.now)
    (g.P.Peer.called c.loop-received.peer) (g.P.Peer.called c.receive.new.self) c.in-Some.is c.loop-received.invariant c.in_ok-count.ensures.called)

pub returns-clause-called : goal.returns-clause-called
returns-clause-called g c =
    flooded (IsPassedOverLeaving c.args.token.now c.args.id) c.loop-received.received (g.P.Peer.called c.args.peer.now) (g.P.Peer.called c.loop-received.peer)
    (let end = c.loop-received-test.false in omega (arith, end)) c.loop-received.invariant

pub returns-then-tells_reset-clause-fault : goal.returns-then-tells_reset-clause-fault
returns-then-tells_reset-clause-fault g c =
    reset_came c.args.token.now c.args.id (take c.in-Some.count c.receive.new.buffer) (g.P.Peer.called c.args.peer.now) (g.P.Peer.called c.receive.new.self)
    (c.tells_reset.ensures.0 c.if-tells_reset.true)
    (ended (IsPassedOverLeaving c.args.token.now c.args.id) c.loop-received.received c.in-Some.count c.receive.new.buffer _ (g.P.Peer.called c.args.peer.now)
    (g.P.Peer.called c.loop-received.peer) (g.P.Peer.called c.receive.new.self) c.in-Some.is c.loop-received.invariant c.in_ok-count.ensures.called)
