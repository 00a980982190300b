use Rattle.std.proofs.Common.{ℕ, ◌≡◌, ◌⊎◌, IfSome}
use Rattle.coap_client.specs.Transmissions.{MakesCalls}
use Rattle.fc_fetch.specs.Observing.{HasCalled, HasMessage, IsBeforeNext, ObservesNotes}
use Rattle.fc_fetch.specs.Rendering.{Written, written_to}
use Rattle.fc_fetch.proofs.Lines.{GoesOn}
use Rattle.fc_fetch.proofs.Timing.{HasCounted}
use Rattle.fc_fetch.proofs.rendering.NoteRenderer.print_line.Given as goal

-- the notes so far had no line, and so many waits were begun
abbrev pub invariant-loop : goal.invariant-loop
invariant-loop g l =
    IfSome l.next (HasMessage l.progress.buffer.now)
    × ((begun : _) (before : Written) (lines : ℕ) →
    IsBeforeNext g.P.Peer.went g.P.Peer.came g.P.Peer.is_time (HasCalled (MakesCalls (g.P.Peer.called begun) (g.P.Peer.called l.fn.peer)) l.self.observer.now l.fn.progress.next_id (ObservesNotes l.self.observer.now l.self.limit.seconds l.self.limit.start))
    l.self.observer.now l.self.shown before (written_to g.W.Write.contents g.E.Write.contents l.fn.console) lines l.fn.progress.watch l.fn.progress.buffer.now l.fn.next →
    IsBeforeNext g.P.Peer.went g.P.Peer.came g.P.Peer.is_time (HasCalled (MakesCalls (g.P.Peer.called begun) (g.P.Peer.called l.peer)) l.self.observer.now l.progress.next_id (HasCounted l.self.observer.now l.self.limit.seconds l.self.limit.start l.counter))
    l.self.observer.now l.self.shown before (written_to g.W.Write.contents g.E.Write.contents l.console) lines l.progress.watch l.progress.buffer.now l.next
    × ((l.counter ≡ 0)
    ⊎ GoesOn g.P.Peer.went g.P.Peer.came g.P.Peer.is_time (HasCalled (MakesCalls (g.P.Peer.called begun) (g.P.Peer.called l.peer)) l.self.observer.now l.progress.next_id (HasCounted l.self.observer.now l.self.limit.seconds l.self.limit.start l.counter))
    l.self.observer.now l.self.shown before (written_to g.W.Write.contents g.E.Write.contents l.console) lines))
