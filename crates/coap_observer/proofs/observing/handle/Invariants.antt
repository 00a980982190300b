use Rattle.coap_client.specs.Listening.{ArePassedOver}
use Rattle.coap_observer.specs.ObserverCalls.{IsNoNotification}
use Rattle.coap_client.specs.Transmissions.{MakesCalls}
use Rattle.coap_observer.proofs.observing.handle.Given as goal

-- exactly `counter` datagrams arrived, and all of them were skipped.
abbrev pub invariant-loop : goal.invariant-loop
invariant-loop g l = MakesCalls (g.P.Peer.called l.fn.peer) (g.P.Peer.called l.peer) (ArePassedOver (IsNoNotification l.token) l.counter)
