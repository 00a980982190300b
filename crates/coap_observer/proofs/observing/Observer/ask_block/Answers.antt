use Rattle.std.proofs.Common.{None, Some, true, take, subst}
use Rattle.coap_msg.specs.Wire.{message_bytes}
use Rattle.coap_observer.specs.Notes.{TellsRequest}
use Rattle.coap_client.specs.PeerCalls.{received_bytes}
use Rattle.coap_client.specs.Requests.{block_request, block_token}
use Rattle.coap_client.specs.Transmissions.{MakesCalls, IsAskedAgain}
use Rattle.coap_client.proofs.Transmitting.{transmitted, unanswered}
use Rattle.coap_observer.proofs.observing.Observer.ask_block.Goals as goal

pub returns-clause-called : goal.returns-clause-called
returns-clause-called g c =
    let o = c.args.self.now in
    let id = c.args.id in
    let request = message_bytes (block_request o.client_request.now c.args.number c.args.szx id) in
    let before = g.P.Peer.called c.args.peer.now in
    let between = g.P.Peer.called c.ask.new.peer in
    let answer = take c.in-Some.count c.ask.new.buffer in
    transmitted true (TellsRequest o.token (block_token id) id) request answer before between _
    (subst (λ own. MakesCalls before between (IsAskedAgain (TellsRequest o.token own id) request (Some answer))) c.to_be_bytes-own.ensures
    (subst (λ x. MakesCalls before between (IsAskedAgain (TellsRequest o.token c.to_be_bytes-own.result id) x (Some answer))) c.in_ok-write_block.ensures
    (subst (λ r. MakesCalls before between (IsAskedAgain (TellsRequest o.token c.to_be_bytes-own.result id) c.write_block.new.datagram.items (received_bytes c.ask.new.buffer r))) c.in-Some.is
    c.in_ok-count.ensures.called)))
    c.in_ok-acknowledge.ensures.called

pub returns-in_default-clause-called : goal.returns-in_default-clause-called
returns-in_default-clause-called g c =
    let o = c.args.self.now in
    let id = c.args.id in
    let request = message_bytes (block_request o.client_request.now c.args.number c.args.szx id) in
    let before = g.P.Peer.called c.args.peer.now in
    let after = g.P.Peer.called c.ask.new.peer in
    unanswered true (TellsRequest o.token (block_token id) id) request before after
    (subst (λ own. MakesCalls before after (IsAskedAgain (TellsRequest o.token own id) request None)) c.to_be_bytes-own.ensures
    (subst (λ x. MakesCalls before after (IsAskedAgain (TellsRequest o.token c.to_be_bytes-own.result id) x None)) c.in_ok-write_block.ensures
    (subst (λ r. MakesCalls before after (IsAskedAgain (TellsRequest o.token c.to_be_bytes-own.result id) c.write_block.new.datagram.items (received_bytes c.ask.new.buffer r))) c.in_default.is
    c.in_ok-count.ensures.called)))
