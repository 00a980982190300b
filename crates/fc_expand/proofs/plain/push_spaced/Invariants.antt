use Rattle.std.proofs.Common.{◌≡◌, ◌++◌, map, take}
use Rattle.fc_expand.specs.Expanded.{as_space}
use Rattle.fc_expand.proofs.plain.push_spaced.Given as goal

abbrev pub invariant-loop-byte : goal.invariant-loop-byte
invariant-loop-byte l = l.out.items ≡ l.initial.out.items ++ map as_space (take l.byte-index l.bytes)
