use Rattle.coap_client.specs.Listening.{ArePassedOver}
use Rattle.coap_observer.specs.ObserverCalls.{IsPassedOverLeaving}
use Rattle.coap_client.specs.Transmissions.{MakesCalls}
use Rattle.coap_observer.proofs.observing.is_acknowledged.Given as goal

-- exactly `received` datagrams arrived, and all of them were skipped.
abbrev pub invariant-loop-received : goal.invariant-loop-received
invariant-loop-received g l = MakesCalls (g.P.Peer.called l.fn.peer) (g.P.Peer.called l.peer) (ArePassedOver (IsPassedOverLeaving l.token l.id) l.received)
