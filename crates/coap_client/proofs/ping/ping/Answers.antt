use Rattle.std.proofs.Common.{subst, arith}
use Rattle.coap_client.specs.Pings.{EndsOnPong, IsNoPong, IsOverUnlessPong}
use Rattle.coap_client.specs.Transmissions.{MakesCalls, IsLastSending}
use Rattle.coap_client.proofs.Pinging.{in_vain_to_the_end}
use Rattle.coap_client.proofs.Transmitting.{again, in_vain, last_sending}
use Rattle.coap_client.proofs.ping.ping.Goals as goal

pub loop-sendings-preserved : goal.loop-sendings-preserved
loop-sendings-preserved g c =
    let sent = g.P.Peer.called c.send.new.peer in
    let after = g.P.Peer.called c.is_rejected.new.peer in
    in_vain (IsNoPong c.args.id) c.write_ping-datagram.result.items c.loop-sendings.sendings (g.P.Peer.called c.args.peer.now) (g.P.Peer.called c.loop-sendings.peer) after
    c.loop-sendings.invariant
    (again _ c.loop-sendings.sendings c.ack_timeout.result _ sent after _ c.ack_timeout.ensures c.in_ok-send.ensures.called
    (subst (λ b. MakesCalls sent after (IsOverUnlessPong c.args.id b)) c.if-branch.false c.in_ok-is_rejected.ensures.called))

pub returns-then-branch-clause-called : goal.returns-then-branch-clause-called
returns-then-branch-clause-called g c =
    let sent = g.P.Peer.called c.send.new.peer in
    let after = g.P.Peer.called c.is_rejected.new.peer in
    let before = g.P.Peer.called c.args.peer.now in
    subst (λ x. MakesCalls before after (IsLastSending (IsNoPong c.args.id) x (EndsOnPong c.args.id))) c.write_ping-datagram.ensures
    (last_sending (IsNoPong c.args.id) c.write_ping-datagram.result.items c.loop-sendings.sendings before (g.P.Peer.called c.loop-sendings.peer) after (EndsOnPong c.args.id)
    c.loop-sendings-test.true c.loop-sendings.invariant
    (again _ c.loop-sendings.sendings c.ack_timeout.result _ sent after _ c.ack_timeout.ensures c.in_ok-send.ensures.called
    (subst (λ b. MakesCalls sent after (IsOverUnlessPong c.args.id b)) c.if-branch.true c.in_ok-is_rejected.ensures.called)))

pub returns-clause-fault : goal.returns-clause-fault
returns-clause-fault g c =
    in_vain_to_the_end c.args.id c.write_ping-datagram.result.items c.loop-sendings.sendings (g.P.Peer.called c.args.peer.now) (g.P.Peer.called c.loop-sendings.peer)
    (let end = c.loop-sendings-test.false in let bound = c.loop-sendings.auto.sendings-end in omega (arith, end, bound)) c.write_ping-datagram.ensures c.loop-sendings.invariant
