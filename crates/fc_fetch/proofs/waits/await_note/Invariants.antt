use Rattle.std.proofs.Common.{◌≡◌}
use Rattle.coap_client.specs.Transmissions.{MakesCalls}
use Rattle.fc_fetch.proofs.Timing.{HasAwaited}
use Rattle.fc_fetch.proofs.waits.await_note.Given as goal

-- the observation is unchanged: no note was shown yet. The calls so far are those of the wait.
abbrev pub invariant-loop : goal.invariant-loop
invariant-loop g l = (l.watch ≡ l.fn.watch) × MakesCalls (g.P.Peer.called l.fn.peer) (g.P.Peer.called l.peer) (HasAwaited l.observer.token l.ends l.counter)
