use Rattle.std.proofs.Common.{flat_map, take}
use Rattle.std.specs.Io.KnownBytes.{Appends}
use Rattle.fc_replay.specs.Printed.{emitted_line}
use Rattle.fc_replay.proofs.replay.print_emissions.Given as goal

-- the emissions so far were printed.
abbrev pub invariant-loop-emitted : goal.invariant-loop-emitted
invariant-loop-emitted g l = Appends (g.W.Write.contents l.fn.out) (g.W.Write.contents l.out) (flat_map emitted_line (take l.emitted-index l.emissions))
