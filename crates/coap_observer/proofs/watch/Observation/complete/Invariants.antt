use Rattle.std.proofs.Common.{◌≡◌}
use Rattle.coap_observer.specs.Representations.{state_of}
use Rattle.coap_client.specs.Requests.{IsBlock}
use Rattle.coap_client.specs.Transmissions.{MakesCalls}
use Rattle.coap_observer.proofs.Joinings.{HasRequested}
use Rattle.coap_observer.proofs.watch.Observation.complete.Given as goal

-- the blocks so far are joined, and no newer notification arrived.
abbrev pub invariant-loop-requested : goal.invariant-loop-requested
invariant-loop-requested g l =
    IsBlock l.joining.number l.joining.szx
    × ((l.self ≡ l.fn.self)
    × HasRequested g.P.Peer.went g.P.Peer.came g.P.Peer.is_time (MakesCalls (g.P.Peer.called l.fn.peer) (g.P.Peer.called l.peer)) l.observer l.fn.self l.fn.ids l.ids l.requested
    (state_of l.fn.joining) (state_of l.joining))
