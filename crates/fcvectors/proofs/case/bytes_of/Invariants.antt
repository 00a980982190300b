use Rattle.std.proofs.Common.{◌≡◌, take}
use Rattle.std.specs.List.{flat_map}
use Rattle.fcvectors.specs.Cases.{piece_bytes}
use Rattle.fcvectors.proofs.case.bytes_of.Given as goal

-- the bytes so far are those of the lines so far.
abbrev pub invariant-loop-line : goal.invariant-loop-line
invariant-loop-line l = l.bytes.items ≡ flat_map (piece_bytes l.stream) (take l.line-index l.lines)
