use Rattle.std.specs.Io.KnownBytes.{Appends}
use Rattle.fc_replay.specs.Replayed.{told_below}
use Rattle.fc_replay.proofs.replay.print_slots.Given as goal

-- the slots below `number` were printed.
abbrev pub invariant-loop-number : goal.invariant-loop-number
invariant-loop-number g l = Appends (g.W.Write.contents l.fn.out) (g.W.Write.contents l.out) (told_below l.number l.shards)
