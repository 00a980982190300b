use Rattle.std.proofs.Common.{false}
use Rattle.coap_observer.specs.Notes.{TellsRequest}
use Rattle.coap_client.specs.Listening.{IsPassedOver}
use Rattle.coap_client.specs.Transmissions.{AreInVain, MakesCalls}
use Rattle.coap_observer.proofs.observing.Observer.ask.Given as goal

-- the request was sent `sendings` times without a response.
abbrev pub invariant-loop-sendings : goal.invariant-loop-sendings
invariant-loop-sendings g l = MakesCalls (g.P.Peer.called l.fn.peer) (g.P.Peer.called l.peer) (AreInVain (IsPassedOver (TellsRequest l.self.token l.own l.id) false) l.datagram.items l.sendings)
