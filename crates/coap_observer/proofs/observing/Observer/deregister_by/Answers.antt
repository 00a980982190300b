use Rattle.std.proofs.Common.{◌+◌, ◌%◌, subst, arith}
use Rattle.coap_observer.specs.ObserverFaults.{IsLeavingFault, IsRejectedLeaving, deregistration_of, leaving_id}
use Rattle.coap_observer.specs.ObserverCalls.{IsAcknowledgedLeaving, IsOverUnlessLeft, IsPassedOverLeaving}
use Rattle.coap_client.specs.Transmissions.{MakesCalls, IsLastSending}
use Rattle.coap_observer.proofs.ObserverFailing.{leaving_of, rejected_leaving, silent_leaving}
use Rattle.coap_client.proofs.Failing.{raised}
use Rattle.coap_client.proofs.Transmitting.{again, in_vain, last_sending}
use Rattle.coap_observer.proofs.observing.Observer.deregister_by.Goals as goal

pub loop-sendings-preserved : goal.loop-sendings-preserved
loop-sendings-preserved g c =
    let token = c.args.self.now.token in
    let id = (c.args.self.now.id + 1) % 65536 in
    let sent = g.P.Peer.called c.send.new.peer in
    let after = g.P.Peer.called c.is_acknowledged.new.peer in (
      λ some. subst g.P.Peer.tried c.requires c.send.ensures.tried,
      in_vain (IsPassedOverLeaving token id) c.args.request.now.items c.loop-sendings.sendings (g.P.Peer.called c.args.peer.now) (g.P.Peer.called c.loop-sendings.peer) after
          c.loop-sendings.invariant.1
          (again _ c.loop-sendings.sendings c.ack_timeout.result _ sent after _ c.ack_timeout.ensures c.in_ok-send.ensures.called
          (subst (λ b. MakesCalls sent after (IsOverUnlessLeft token id b)) c.if-branch.false c.in_ok-is_acknowledged.ensures.called)),
    )

pub returns-then-branch-clause-called : goal.returns-then-branch-clause-called
returns-then-branch-clause-called g c =
    let token = c.args.self.now.token in
    let id = (c.args.self.now.id + 1) % 65536 in
    let sent = g.P.Peer.called c.send.new.peer in
    let after = g.P.Peer.called c.is_acknowledged.new.peer in
    let before = g.P.Peer.called c.args.peer.now in
    subst (λ x. MakesCalls before after (IsLastSending (IsPassedOverLeaving token id) x (IsAcknowledgedLeaving token id))) c.requires
    (last_sending (IsPassedOverLeaving token id) c.args.request.now.items c.loop-sendings.sendings before (g.P.Peer.called c.loop-sendings.peer) after (IsAcknowledgedLeaving token id)
    c.loop-sendings-test.true c.loop-sendings.invariant.1
    (again _ c.loop-sendings.sendings c.ack_timeout.result _ sent after _ c.ack_timeout.ensures c.in_ok-send.ensures.called
    (subst (λ b. MakesCalls sent after (IsOverUnlessLeft token id b)) c.if-branch.true c.in_ok-is_acknowledged.ensures.called)))

pub returns-in_err-is_acknowledged-clause-fault : goal.returns-in_err-is_acknowledged-clause-fault
returns-in_err-is_acknowledged-clause-fault g c =
    let o = c.args.self.now in
    let before = g.P.Peer.called c.args.peer.now in
    let sent = g.P.Peer.called c.send.new.peer in
    let after = g.P.Peer.called c.is_acknowledged.new.peer in
    raised c.from_residual-in_err-is_acknowledged.result c.in_err-is_acknowledged.field-0.0 (IsLeavingFault g.P.Peer.is_error (MakesCalls before after) o)
    c.from_residual-in_err-is_acknowledged.ensures.1
    (leaving_of g.P.Peer.is_error (MakesCalls before after) o (MakesCalls sent after (IsRejectedLeaving o.token (leaving_id o))) c.in_err-is_acknowledged.field-0.0
    (λ came. rejected_leaving o.token (leaving_id o) c.args.request.now.items (deregistration_of o) c.loop-sendings.sendings c.ack_timeout.result before (g.P.Peer.called c.loop-sendings.peer) sent after
    c.loop-sendings-test.true c.requires c.loop-sendings.invariant.1 c.ack_timeout.ensures c.in_ok-send.ensures.called came) c.in_err-is_acknowledged.ensures.fault)

pub returns-clause-fault : goal.returns-clause-fault
returns-clause-fault g c =
    silent_leaving c.args.self.now.token ((c.args.self.now.id + 1) % 65536) c.args.request.now.items (deregistration_of c.args.self.now) c.loop-sendings.sendings (g.P.Peer.called c.args.peer.now)
    (g.P.Peer.called c.loop-sendings.peer) (let end = c.loop-sendings-test.false in let bound = c.loop-sendings.auto.sendings-end in omega (arith, end, bound)) c.requires c.loop-sendings.invariant.1
