use Rattle.std.proofs.Common.{take, arith}
use Rattle.std.proofs.lemmas.Bool.{iff_false}
use Rattle.coap_observer.specs.ObserverCalls.{IsNoNotification}
use Rattle.coap_observer.proofs.ObserverCalls.{no_notification, noticed}
use Rattle.coap_client.proofs.Transmitting.{ended, flooded, none_come, one_comes, over}
use Rattle.coap_observer.proofs.observing.handle.Goals as goal

pub loop-init : goal.loop-init
loop-init g c = none_come (IsNoNotification c.args.token.now) (g.P.Peer.called c.args.peer.now)

pub loop-preserved : goal.loop-preserved
loop-preserved g c =
    one_comes (IsNoNotification c.args.token.now) c.loop.counter c.in-Some.count c.receive.new.buffer _ (g.P.Peer.called c.args.peer.now) (g.P.Peer.called c.loop.peer)
    (g.P.Peer.called c.receive.new.self) (g.P.Peer.called c.receive.new.self) c.in-Some.is c.loop.invariant c.in_ok-count.ensures.called
    (no_notification c.args.token.now _ (g.P.Peer.called c.receive.new.self) (iff_false c.tells_notification.ensures c.if-tells_notification.false))

pub returns-in_default-clause-called : goal.returns-in_default-clause-called
returns-in_default-clause-called g c =
    over (IsNoNotification c.args.token.now) c.loop.counter c.receive.new.buffer _ (g.P.Peer.called c.args.peer.now) (g.P.Peer.called c.loop.peer) (g.P.Peer.called c.receive.new.self)
    c.in_default.is c.loop.invariant c.in_ok-count.ensures.called

pub returns-then-tells_notification-clause-called : goal.returns-then-tells_notification-clause-called
returns-then-tells_notification-clause-called g c =
    noticed c.args.token.now (IsNoNotification c.args.token.now) (take c.in-Some.count c.receive.new.buffer) c.in_ok-time.time (g.P.Peer.called c.args.peer.now) (g.P.Peer.called c.receive.new.self)
    (g.P.Peer.called c.acknowledge.new.peer) (g.P.Peer.called c.now.new.self)
    (c.tells_notification.ensures.0 c.if-tells_notification.true)
    (ended (IsNoNotification c.args.token.now) c.loop.counter c.in-Some.count c.receive.new.buffer _ (g.P.Peer.called c.args.peer.now) (g.P.Peer.called c.loop.peer)
    (g.P.Peer.called c.receive.new.self) c.in-Some.is c.loop.invariant c.in_ok-count.ensures.called) c.in_ok-acknowledge.ensures.called c.in_ok-time.ensures.called

pub returns-clause-called : goal.returns-clause-called
returns-clause-called g c =
    flooded (IsNoNotification c.args.token.now) c.loop.counter (g.P.Peer.called c.args.peer.now) (g.P.Peer.called c.loop.peer) (let end = c.loop-test.false in omega (arith, end)) c.loop.invariant
