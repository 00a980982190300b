use Rattle.std.proofs.Common.{◌≡◌}
use Rattle.coap_observer.specs.ObserverCalls.{IsPassedOverWatching}
use Rattle.coap_client.specs.Transmissions.{MakesCalls}
use Rattle.coap_observer.proofs.ObserverCalls.{HasPassed}
use Rattle.coap_observer.proofs.watch.Observation.next.Given as goal

-- the observation is unchanged so far, since all datagrams that arrived were skipped.
abbrev pub invariant-loop : goal.invariant-loop
invariant-loop g l = (l.self ≡ l.fn.self)
    × MakesCalls (g.P.Peer.called l.fn.peer) (g.P.Peer.called l.peer) (HasPassed (IsPassedOverWatching g.P.Peer.is_time l.token l.fn.self) l.counter)
