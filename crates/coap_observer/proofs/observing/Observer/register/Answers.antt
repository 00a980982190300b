use Rattle.std.proofs.Common.{None, Some, true, take, subst}
use Rattle.coap_observer.specs.ObserverFaults.{registration_of}
use Rattle.coap_observer.specs.Notes.{TellsObserver}
use Rattle.coap_client.specs.PeerCalls.{received_bytes}
use Rattle.coap_client.specs.Transmissions.{MakesCalls, IsAskedAgain}
use Rattle.coap_client.proofs.Transmitting.{transmitted, unanswered}
use Rattle.coap_observer.proofs.observing.Observer.register.Goals as goal

pub returns-clause-called : goal.returns-clause-called
returns-clause-called g c =
    let tells = TellsObserver c.args.self.now.token c.args.self.now.id in
    let before = g.P.Peer.called c.args.peer.now in
    let between = g.P.Peer.called c.ask.new.peer in
    transmitted true tells _ (take c.in-Some.count c.ask.new.buffer) before between _
    (subst (λ x. MakesCalls before between (IsAskedAgain tells x (Some (take c.in-Some.count c.ask.new.buffer)))) c.in_ok-write_request.ensures
    (subst (λ o. MakesCalls before between (IsAskedAgain tells c.write_request.new.datagram.items (received_bytes c.ask.new.buffer o))) c.in-Some.is c.in_ok-count.ensures.called))
    c.in_ok-acknowledge.ensures.called

pub returns-in_default-clause-fault : goal.returns-in_default-clause-fault
returns-in_default-clause-fault g c =
    let tells = TellsObserver c.args.self.now.token c.args.self.now.id in
    let before = g.P.Peer.called c.args.peer.now in
    let after = g.P.Peer.called c.ask.new.peer in
    unanswered true tells (registration_of c.args.self.now) before after
    (subst (λ x. MakesCalls before after (IsAskedAgain tells x None)) c.in_ok-write_request.ensures
    (subst (λ o. MakesCalls before after (IsAskedAgain tells c.write_request.new.datagram.items (received_bytes c.ask.new.buffer o))) c.in_default.is c.in_ok-count.ensures.called))
