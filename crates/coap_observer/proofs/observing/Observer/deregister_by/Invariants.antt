use Rattle.std.proofs.Common.{◌<◌}
use Rattle.coap_observer.specs.ObserverFaults.{deregistration_of}
use Rattle.coap_observer.specs.ObserverCalls.{IsPassedOverLeaving}
use Rattle.coap_client.specs.Transmissions.{AreInVain, MakesCalls}
use Rattle.coap_observer.proofs.observing.Observer.deregister_by.Given as goal

-- the deregistration was sent `sendings` times without an acknowledgement. If that is at least
-- once, the peer was called to send it.
abbrev pub invariant-loop-sendings : goal.invariant-loop-sendings
invariant-loop-sendings g l = (0 < l.sendings → g.P.Peer.tried (deregistration_of l.self))
    × MakesCalls (g.P.Peer.called l.fn.peer) (g.P.Peer.called l.peer) (AreInVain (IsPassedOverLeaving l.self.token l.id) l.request.items l.sendings)
