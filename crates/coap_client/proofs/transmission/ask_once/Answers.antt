use Rattle.std.proofs.Common.{true}
use Rattle.coap_client.specs.Faults.{IsRejectedBy}
use Rattle.coap_client.specs.Handled.{TellsSent}
use Rattle.coap_client.specs.Transmissions.{MakesCalls}
use Rattle.coap_client.proofs.Failing.{of_peer_result, rejected_once}
use Rattle.coap_client.proofs.Transmitting.{once}
use Rattle.coap_client.proofs.transmission.ask_once.Goals as goal

pub returns-clause-called : goal.returns-clause-called
returns-clause-called g c =
    once (TellsSent c.args.request.now) _ c.await_separate.new.buffer _ (g.P.Peer.called c.send.new.peer) _ c.in_ok-send.ensures.called c.await_separate.result c.await_separate.ensures.called

pub returns-clause-fault : goal.returns-clause-fault
returns-clause-fault g c =
    let tells = TellsSent c.args.request.now in
    let sent = g.P.Peer.called c.send.new.peer in
    let after = g.P.Peer.called c.await_separate.new.peer in
    of_peer_result g.P.Peer.is_error (MakesCalls sent after (IsRejectedBy tells true)) _ c.await_separate.result
    (λ other. rejected_once tells c.args.request.now.datagram.now.items (g.P.Peer.called c.args.peer.now) sent after c.in_ok-send.ensures.called other) c.await_separate.ensures.fault
