use Rattle.coap_client.specs.Pings.{IsNoPong}
use Rattle.coap_client.specs.Transmissions.{AreInVain, MakesCalls}
use Rattle.coap_client.proofs.ping.ping.Given as goal

-- the ping was sent `sendings` times, and no Reset message arrived.
abbrev pub invariant-loop-sendings : goal.invariant-loop-sendings
invariant-loop-sendings g l = MakesCalls (g.P.Peer.called l.fn.peer) (g.P.Peer.called l.peer) (AreInVain (IsNoPong l.id) l.datagram.items l.sendings)
