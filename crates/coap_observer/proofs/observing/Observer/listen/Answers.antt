use Rattle.std.proofs.Common.{◌≤◌, length, take, sym, ◌∙◌, arith}
use Rattle.coap_client.specs.Listening.{IsPassedOver}
use Rattle.coap_observer.specs.Notes.{TellsRequest}
use Rattle.coap_observer.proofs.ObserverCalls.{arrived, passed_quietly}
use Rattle.coap_client.proofs.Failing.{rejection_came}
use Rattle.coap_client.proofs.Transmitting.{acknowledgement_came, answer_came, ended, flooded, none_come, one_comes, over, some_of}
use Rattle.coap_observer.proofs.observing.Observer.listen.Goals as goal

pub loop-received-init : goal.loop-received-init
loop-received-init g c = none_come (IsPassedOver (TellsRequest c.args.self.now.token c.args.own.now c.args.id) c.args.awaited) (g.P.Peer.called c.args.peer.now)

pub loop-received-preserved : goal.loop-received-preserved
loop-received-preserved g c =
    let o = c.args.self.now in
    one_comes (IsPassedOver (TellsRequest o.token c.args.own.now c.args.id) c.args.awaited) c.loop-received.received c.in-Some.count c.receive.new.buffer _ (g.P.Peer.called c.args.peer.now)
    (g.P.Peer.called c.loop-received.peer) (g.P.Peer.called c.receive.new.self) (g.P.Peer.called c.receive.new.self) c.in-Some.is c.loop-received.invariant c.in_ok-count.ensures.called
    (passed_quietly o.token c.args.own.now c.args.id c.args.awaited _ c.handle_datagram-handled.result (g.P.Peer.called c.receive.new.self) c.handle_datagram-handled.ensures (sym c.is_passed_over.ensures ∙ c.if-is_passed_over.true))

pub returns-in_default-clause-called : goal.returns-in_default-clause-called
returns-in_default-clause-called g c =
    over (IsPassedOver (TellsRequest c.args.self.now.token c.args.own.now c.args.id) c.args.awaited) c.loop-received.received c.receive.new.buffer _ (g.P.Peer.called c.args.peer.now)
    (g.P.Peer.called c.loop-received.peer) (g.P.Peer.called c.receive.new.self) c.in_default.is c.loop-received.invariant c.in_ok-count.ensures.called

pub returns-in-Acknowledged-clause-called : goal.returns-in-Acknowledged-clause-called
returns-in-Acknowledged-clause-called g c =
    let tells = TellsRequest c.args.self.now.token c.args.own.now c.args.id in
    acknowledgement_came tells c.args.awaited (take c.in-Some.count c.receive.new.buffer) c.handle_datagram-handled.result (g.P.Peer.called c.args.peer.now) (g.P.Peer.called c.receive.new.self)
    c.handle_datagram-handled.ensures (sym c.is_passed_over.ensures ∙ c.if-is_passed_over.false) c.in-Acknowledged.is
    (ended (IsPassedOver tells c.args.awaited) c.loop-received.received c.in-Some.count c.receive.new.buffer _ (g.P.Peer.called c.args.peer.now) (g.P.Peer.called c.loop-received.peer)
    (g.P.Peer.called c.receive.new.self) c.in-Some.is c.loop-received.invariant c.in_ok-count.ensures.called)

pub returns-in_default-2-clause-listened : goal.returns-in_default-2-clause-listened
returns-in_default-2-clause-listened g c =
    let o = c.args.self.now in
    let came = some_of _ c.in-Some.count (λ n. (n ≤ length c.receive.new.buffer) × g.P.Peer.came (take n c.receive.new.buffer)) c.in-Some.is c.in_ok-count.ensures.came in (
      came.0,
      arrived g.P.Peer.came o.token c.args.own.now c.args.id c.args.awaited _ c.handle_datagram-handled.result came.1 c.handle_datagram-handled.ensures (sym c.is_passed_over.ensures ∙ c.if-is_passed_over.false)
          c.in_default-2.not-Acknowledged c.in_default-2.not-Rejected,
    )

pub returns-in_default-2-clause-called : goal.returns-in_default-2-clause-called
returns-in_default-2-clause-called g c =
    let tells = TellsRequest c.args.self.now.token c.args.own.now c.args.id in
    answer_came tells c.args.awaited (take c.in-Some.count c.receive.new.buffer) c.handle_datagram-handled.result (g.P.Peer.called c.args.peer.now) (g.P.Peer.called c.receive.new.self)
    c.handle_datagram-handled.ensures (sym c.is_passed_over.ensures ∙ c.if-is_passed_over.false) c.in_default-2.not-Acknowledged c.in_default-2.not-Rejected
    (ended (IsPassedOver tells c.args.awaited) c.loop-received.received c.in-Some.count c.receive.new.buffer _ (g.P.Peer.called c.args.peer.now) (g.P.Peer.called c.loop-received.peer)
    (g.P.Peer.called c.receive.new.self) c.in-Some.is c.loop-received.invariant c.in_ok-count.ensures.called)

pub returns-clause-called : goal.returns-clause-called
returns-clause-called g c =
    flooded (IsPassedOver (TellsRequest c.args.self.now.token c.args.own.now c.args.id) c.args.awaited) c.loop-received.received (g.P.Peer.called c.args.peer.now) (g.P.Peer.called c.loop-received.peer)
    (let end = c.loop-received-test.false in omega (arith, end)) c.loop-received.invariant

pub returns-in-Rejected-clause-fault : goal.returns-in-Rejected-clause-fault
returns-in-Rejected-clause-fault g c =
    let tells = TellsRequest c.args.self.now.token c.args.own.now c.args.id in
    rejection_came tells c.args.awaited (take c.in-Some.count c.receive.new.buffer) c.handle_datagram-handled.result (g.P.Peer.called c.args.peer.now) (g.P.Peer.called c.receive.new.self)
    c.handle_datagram-handled.ensures c.in-Rejected.is
    (ended (IsPassedOver tells c.args.awaited) c.loop-received.received c.in-Some.count c.receive.new.buffer _ (g.P.Peer.called c.args.peer.now) (g.P.Peer.called c.loop-received.peer)
    (g.P.Peer.called c.receive.new.self) c.in-Some.is c.loop-received.invariant c.in_ok-count.ensures.called)
