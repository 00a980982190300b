use Rattle.coap_client.specs.Listening.{ArePassedOver, IsPassedOver}
use Rattle.coap_observer.specs.Notes.{TellsRequest}
use Rattle.coap_client.specs.Transmissions.{MakesCalls}
use Rattle.coap_observer.proofs.observing.Observer.listen.Given as goal

-- exactly `received` datagrams arrived, and all of them were skipped.
abbrev pub invariant-loop-received : goal.invariant-loop-received
invariant-loop-received g l =
    MakesCalls (g.P.Peer.called l.fn.peer) (g.P.Peer.called l.peer) (ArePassedOver (IsPassedOver (TellsRequest l.self.token l.own l.id) l.awaited) l.received)
