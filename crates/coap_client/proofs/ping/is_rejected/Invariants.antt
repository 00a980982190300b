use Rattle.coap_client.specs.Listening.{ArePassedOver}
use Rattle.coap_client.specs.Pings.{IsNoPong}
use Rattle.coap_client.specs.Transmissions.{MakesCalls}
use Rattle.coap_client.proofs.ping.is_rejected.Given as goal

-- exactly `received` datagrams arrived, and all of them were skipped.
abbrev pub invariant-loop-received : goal.invariant-loop-received
invariant-loop-received g l = MakesCalls (g.P.Peer.called l.fn.peer) (g.P.Peer.called l.peer) (ArePassedOver (IsNoPong l.id) l.received)
