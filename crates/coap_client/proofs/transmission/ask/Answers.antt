use Rattle.std.proofs.Common.{sym, ◌∙◌, subst}
use Rattle.coap_client.specs.Handled.{TellsSent}
use Rattle.coap_client.specs.PeerCalls.{received_bytes}
use Rattle.coap_client.specs.Transmissions.{MakesCalls, IsTransmitted}
use Rattle.coap_client.proofs.Transmitting.{asked_for, unanswered}
use Rattle.coap_client.proofs.transmission.ask.Goals as goal

pub returns-clause-asked : goal.returns-clause-asked
returns-clause-asked g c =
    asked_for g.P.Peer.went g.P.Peer.came (g.P.Peer.called c.args.peer.now) (g.P.Peer.called c.transmit.new.peer) (g.P.Peer.called c.acknowledge_message.new.peer) c.args.request.now
    c.in-Some.count c.transmit.new.buffer _ _ c.in-Some.is c.in_ok-count.ensures.response c.in_ok-count.ensures.called (sym c.read.ensures.function ∙ c.in-Ok.is)
    c.in_ok-acknowledge_message.ensures.went c.in_ok-acknowledge_message.ensures.called

pub returns-in_default-clause-asked : goal.returns-in_default-clause-asked
returns-in_default-clause-asked g c =
    let r = c.args.request.now in
    let before = g.P.Peer.called c.args.peer.now in
    let after = g.P.Peer.called c.transmit.new.peer in
    unanswered r.confirmable (TellsSent r) r.datagram.now.items before after
    (subst (λ o. MakesCalls before after (IsTransmitted r.confirmable (TellsSent r) r.datagram.now.items (received_bytes c.transmit.new.buffer o))) c.in_default.is c.in_ok-count.ensures.called)
