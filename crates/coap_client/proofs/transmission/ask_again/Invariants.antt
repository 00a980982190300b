use Rattle.std.proofs.Common.{false}
use Rattle.coap_client.specs.Handled.{TellsSent}
use Rattle.coap_client.specs.Listening.{IsPassedOver}
use Rattle.coap_client.specs.Transmissions.{AreInVain, MakesCalls}
use Rattle.coap_client.proofs.transmission.ask_again.Given as goal

-- the request was sent `sendings` times without a response.
abbrev pub invariant-loop-sendings : goal.invariant-loop-sendings
invariant-loop-sendings g l = MakesCalls (g.P.Peer.called l.fn.peer) (g.P.Peer.called l.peer) (AreInVain (IsPassedOver (TellsSent l.request) false) l.request.datagram.now.items l.sendings)
