use Rattle.std.proofs.Common.{IfSome}
use Rattle.coap_client.specs.Transmissions.{MakesCalls}
use Rattle.fc_fetch.specs.Observing.{HasCalled, HasMessage, ObservesNotes}
use Rattle.fc_fetch.specs.Rendering.{written_to}
use Rattle.fc_fetch.proofs.Lines.{IsBetween}
use Rattle.fc_fetch.proofs.Timing.{IsSinceBegun}
use Rattle.fc_fetch.proofs.observer.NotePrinter.print_notes.Given as goal

-- since the first wait began, so many lines were printed
abbrev pub invariant-loop : goal.invariant-loop
invariant-loop g l =
    IfSome l.next (HasMessage l.progress.buffer.now)
    × IsSinceBegun g.P.Peer.called l.fn.peer l.self.observer.now l.self.extent.seconds l.renderer.limit.start
    (λ begun. IsBetween g.P.Peer.went g.P.Peer.came g.P.Peer.is_time
    (HasCalled (MakesCalls (g.P.Peer.called begun) (g.P.Peer.called l.peer)) l.self.observer.now l.progress.next_id (ObservesNotes l.self.observer.now l.self.extent.seconds l.renderer.limit.start)) l.self.observer.now l.self.shown
    (written_to g.W.Write.contents g.E.Write.contents l.fn.console) (written_to g.W.Write.contents g.E.Write.contents l.console) l.counter l.progress.watch l.progress.buffer.now l.next)
