use Rattle.std.proofs.Common.{false, true, take, arith, subst}
use Rattle.coap_client.specs.Faults.{IsOfPeer, IsRejectedBy, IsRejection}
use Rattle.coap_observer.specs.Notes.{TellsRequest}
use Rattle.coap_client.specs.Listening.{IsHandled, IsPassedOver}
use Rattle.coap_client.specs.Transmissions.{MakesCalls}
use Rattle.coap_client.proofs.Failing.{of_peer, of_peer_result, raised, rejected, rejected_later}
use Rattle.coap_client.proofs.Transmitting.{again, answered, awaited, in_vain, in_vain_to_the_end}
use Rattle.coap_observer.proofs.observing.Observer.ask.Goals as goal

pub loop-sendings-preserved : goal.loop-sendings-preserved
loop-sendings-preserved g c =
    let tells = TellsRequest c.args.self.now.token c.args.own.now c.args.id in
    let sent = g.P.Peer.called c.send.new.peer in
    let after = g.P.Peer.called c.listen.new.peer in
    in_vain (IsPassedOver tells false) c.args.datagram.now.items c.loop-sendings.sendings (g.P.Peer.called c.args.peer.now) (g.P.Peer.called c.loop-sendings.peer) after
    c.loop-sendings.invariant
    (again _ c.loop-sendings.sendings c.ack_timeout.result _ sent after _ c.ack_timeout.ensures c.in_ok-send.ensures.called
    (subst (λ x. MakesCalls sent after (IsHandled tells false c.listen.new.buffer x)) c.in-Nothing.is c.in_ok-count.ensures.called))

pub returns-in-Answer-clause-called : goal.returns-in-Answer-clause-called
returns-in-Answer-clause-called g c =
    let tells = TellsRequest c.args.self.now.token c.args.own.now c.args.id in
    let sent = g.P.Peer.called c.send.new.peer in
    let after = g.P.Peer.called c.listen.new.peer in
    answered tells c.args.datagram.now.items c.loop-sendings.sendings (take c.in-Answer.count c.listen.new.buffer) (g.P.Peer.called c.args.peer.now)
    (g.P.Peer.called c.loop-sendings.peer) after c.loop-sendings-test.true c.loop-sendings.invariant
    (again _ c.loop-sendings.sendings c.ack_timeout.result _ sent after _ c.ack_timeout.ensures c.in_ok-send.ensures.called
    (subst (λ x. MakesCalls sent after (IsHandled tells false c.listen.new.buffer x)) c.in-Answer.is c.in_ok-count.ensures.called))

pub returns-in-Acknowledged-clause-called : goal.returns-in-Acknowledged-clause-called
returns-in-Acknowledged-clause-called g c =
    let tells = TellsRequest c.args.self.now.token c.args.own.now c.args.id in
    let sent = g.P.Peer.called c.send.new.peer in
    let handled = g.P.Peer.called c.listen.new.peer in
    awaited tells c.args.datagram.now.items c.loop-sendings.sendings c.ack_timeout.result c.await_answer.new.buffer (g.P.Peer.called c.args.peer.now)
    (g.P.Peer.called c.loop-sendings.peer) sent handled (g.P.Peer.called c.begin_wait.new.self) (g.P.Peer.called c.await_answer.new.peer)
    c.loop-sendings-test.true c.loop-sendings.invariant c.ack_timeout.ensures c.in_ok-send.ensures.called
    (subst (λ x. MakesCalls sent handled (IsHandled tells false c.listen.new.buffer x)) c.in-Acknowledged.is c.in_ok-count.ensures.called)
    c.in_ok-begin_wait-in-Acknowledged.ensures.called c.await_answer.result c.await_answer.ensures.called

pub returns-clause-called : goal.returns-clause-called
returns-clause-called g c =
    in_vain_to_the_end (TellsRequest c.args.self.now.token c.args.own.now c.args.id) c.args.datagram.now.items c.loop-sendings.sendings (g.P.Peer.called c.args.peer.now) (g.P.Peer.called c.loop-sendings.peer)
    (let end = c.loop-sendings-test.false in let bound = c.loop-sendings.auto.sendings-end in omega (arith, end, bound)) c.loop-sendings.invariant

pub returns-in_err-count-clause-fault : goal.returns-in_err-count-clause-fault
returns-in_err-count-clause-fault g c =
    let tells = TellsRequest c.args.self.now.token c.args.own.now c.args.id in
    let before = g.P.Peer.called c.args.peer.now in
    let sent = g.P.Peer.called c.send.new.peer in
    let after = g.P.Peer.called c.listen.new.peer in
    let request = c.args.datagram.now.items in
    raised c.from_residual-in_err-count.result c.in_err-count.field-0.0 (IsOfPeer g.P.Peer.is_error (MakesCalls before after (IsRejection true tells request))) c.from_residual-in_err-count.ensures.1
    (of_peer g.P.Peer.is_error (MakesCalls sent after (IsRejectedBy tells false)) _ c.in_err-count.field-0.0
    (λ came. rejected tells request c.loop-sendings.sendings c.ack_timeout.result before (g.P.Peer.called c.loop-sendings.peer) sent after c.loop-sendings-test.true c.loop-sendings.invariant
    c.ack_timeout.ensures c.in_ok-send.ensures.called came) c.in_err-count.ensures.fault)

pub returns-in-Acknowledged-clause-fault : goal.returns-in-Acknowledged-clause-fault
returns-in-Acknowledged-clause-fault g c =
    let tells = TellsRequest c.args.self.now.token c.args.own.now c.args.id in
    let sent = g.P.Peer.called c.send.new.peer in
    let handled = g.P.Peer.called c.listen.new.peer in
    let begun = g.P.Peer.called c.begin_wait.new.self in
    let after = g.P.Peer.called c.await_answer.new.peer in
    of_peer_result g.P.Peer.is_error (MakesCalls begun after (IsRejectedBy tells true)) _ c.await_answer.result
    (λ other. rejected_later tells c.args.datagram.now.items c.loop-sendings.sendings c.ack_timeout.result (g.P.Peer.called c.args.peer.now)
    (g.P.Peer.called c.loop-sendings.peer) sent handled begun after c.loop-sendings-test.true c.loop-sendings.invariant c.ack_timeout.ensures c.in_ok-send.ensures.called
    (subst (λ x. MakesCalls sent handled (IsHandled tells false c.listen.new.buffer x)) c.in-Acknowledged.is c.in_ok-count.ensures.called)
    c.in_ok-begin_wait-in-Acknowledged.ensures.called other) c.await_answer.ensures.fault
