use Rattle.std.proofs.Common.{map, take}
use Rattle.fc_replay.specs.Listed.{Line}
use Rattle.fc_replay.specs.Replayed.{AreEvents}
use Rattle.fc_replay.proofs.replay.events.Given as goal

-- the events so far are those of the lines so far.
abbrev pub invariant-loop-line : goal.invariant-loop-line
invariant-loop-line l = AreEvents (map (λ (line : Line). line.words) (take l.line-index l.lines)) l.events.items
