use Rattle.std.specs.Fmt.{HasWritten, IsPlainFormatter}
use Rattle.fc_server.specs.Gauges.{texts_below}
use Rattle.fc_server.proofs.observer_counts.ObserverCountsDisplay.fmt.Given as goal

abbrev pub invariant-loop-slot : goal.invariant-loop-slot
invariant-loop-slot g l =
    IsPlainFormatter l.initial.f → HasWritten g.W.Write.write_str_gives l.initial.f (texts_below l.self.shards l.slot) l.f
