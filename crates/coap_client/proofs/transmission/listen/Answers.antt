use Rattle.std.proofs.Common.{◌≤◌, length, take, sym, ◌∙◌, arith}
use Rattle.coap_client.specs.Handled.{TellsSent}
use Rattle.coap_client.specs.Listening.{IsPassedOver}
use Rattle.coap_client.proofs.Failing.{rejection_came}
use Rattle.coap_client.proofs.Transmitting.{acknowledgement_came, answer_came, awaited_answer, ended_by, flooded, none_come, one_comes, over, passed, some_of}
use Rattle.coap_client.proofs.transmission.listen.Goals as goal

pub loop-received-init : goal.loop-received-init
loop-received-init g c = none_come (IsPassedOver (TellsSent c.args.request.now) c.args.awaited) (g.P.Peer.called c.args.peer.now)

pub loop-received-preserved : goal.loop-received-preserved
loop-received-preserved g c =
    let tells = TellsSent c.args.request.now in
    one_comes (IsPassedOver tells c.args.awaited) c.loop-received.received c.in-Some.count c.receive.new.buffer _ (g.P.Peer.called c.args.peer.now) (g.P.Peer.called c.loop-received.peer)
    (g.P.Peer.called c.receive.new.self) (g.P.Peer.called c.handle_from.new.peer) c.in-Some.is c.loop-received.invariant c.in_ok-count.ensures.called
    (passed tells c.args.awaited _ c.in_ok-handled.handled (g.P.Peer.called c.receive.new.self) (g.P.Peer.called c.handle_from.new.peer) c.in_ok-handled.ensures.handled
    (sym c.is_passed_over.ensures ∙ c.if-is_passed_over.true) c.in_ok-handled.ensures.called)

pub returns-in_default-clause-called : goal.returns-in_default-clause-called
returns-in_default-clause-called g c =
    over (IsPassedOver (TellsSent c.args.request.now) c.args.awaited) c.loop-received.received c.receive.new.buffer _ (g.P.Peer.called c.args.peer.now) (g.P.Peer.called c.loop-received.peer)
    (g.P.Peer.called c.receive.new.self) c.in_default.is c.loop-received.invariant c.in_ok-count.ensures.called

pub returns-in-Acknowledged-clause-called : goal.returns-in-Acknowledged-clause-called
returns-in-Acknowledged-clause-called g c =
    let tells = TellsSent c.args.request.now in
    let ends = sym c.is_passed_over.ensures ∙ c.if-is_passed_over.false in
    acknowledgement_came tells c.args.awaited (take c.in-Some.count c.receive.new.buffer) c.in_ok-handled.handled (g.P.Peer.called c.args.peer.now) (g.P.Peer.called c.handle_from.new.peer)
    c.in_ok-handled.ensures.handled ends c.in-Acknowledged.is
    (ended_by tells c.args.awaited c.loop-received.received c.in-Some.count c.receive.new.buffer _ c.in_ok-handled.handled (g.P.Peer.called c.args.peer.now) (g.P.Peer.called c.loop-received.peer)
    (g.P.Peer.called c.receive.new.self) (g.P.Peer.called c.handle_from.new.peer) c.in-Some.is c.loop-received.invariant c.in_ok-count.ensures.called ends c.in_ok-handled.ensures.called)

pub returns-in_default-2-clause-listened : goal.returns-in_default-2-clause-listened
returns-in_default-2-clause-listened g c =
    let came = some_of _ c.in-Some.count (λ n. (n ≤ length c.receive.new.buffer) × g.P.Peer.came (take n c.receive.new.buffer)) c.in-Some.is c.in_ok-count.ensures.came in (
      came.0,
      awaited_answer g.P.Peer.came c.args.request.now c.args.awaited _ c.in_ok-handled.handled came.1 c.in_ok-handled.ensures.handled (sym c.is_passed_over.ensures ∙ c.if-is_passed_over.false)
          c.in_default-2.not-Acknowledged c.in_default-2.not-Rejected,
    )

pub returns-in_default-2-clause-called : goal.returns-in_default-2-clause-called
returns-in_default-2-clause-called g c =
    let tells = TellsSent c.args.request.now in
    let ends = sym c.is_passed_over.ensures ∙ c.if-is_passed_over.false in
    answer_came tells c.args.awaited (take c.in-Some.count c.receive.new.buffer) c.in_ok-handled.handled (g.P.Peer.called c.args.peer.now) (g.P.Peer.called c.handle_from.new.peer)
    c.in_ok-handled.ensures.handled ends c.in_default-2.not-Acknowledged c.in_default-2.not-Rejected
    (ended_by tells c.args.awaited c.loop-received.received c.in-Some.count c.receive.new.buffer _ c.in_ok-handled.handled (g.P.Peer.called c.args.peer.now) (g.P.Peer.called c.loop-received.peer)
    (g.P.Peer.called c.receive.new.self) (g.P.Peer.called c.handle_from.new.peer) c.in-Some.is c.loop-received.invariant c.in_ok-count.ensures.called ends c.in_ok-handled.ensures.called)

pub returns-clause-called : goal.returns-clause-called
returns-clause-called g c =
    flooded (IsPassedOver (TellsSent c.args.request.now) c.args.awaited) c.loop-received.received (g.P.Peer.called c.args.peer.now) (g.P.Peer.called c.loop-received.peer)
    (let end = c.loop-received-test.false in omega (arith, end)) c.loop-received.invariant

pub returns-in-Rejected-clause-fault : goal.returns-in-Rejected-clause-fault
returns-in-Rejected-clause-fault g c =
    let tells = TellsSent c.args.request.now in
    let ends = sym c.is_passed_over.ensures ∙ c.if-is_passed_over.false in
    rejection_came tells c.args.awaited (take c.in-Some.count c.receive.new.buffer) c.in_ok-handled.handled (g.P.Peer.called c.args.peer.now) (g.P.Peer.called c.handle_from.new.peer)
    c.in_ok-handled.ensures.handled c.in-Rejected.is
    (ended_by tells c.args.awaited c.loop-received.received c.in-Some.count c.receive.new.buffer _ c.in_ok-handled.handled (g.P.Peer.called c.args.peer.now) (g.P.Peer.called c.loop-received.peer)
    (g.P.Peer.called c.receive.new.self) (g.P.Peer.called c.handle_from.new.peer) c.in-Some.is c.loop-received.invariant c.in_ok-count.ensures.called ends c.in_ok-handled.ensures.called)
