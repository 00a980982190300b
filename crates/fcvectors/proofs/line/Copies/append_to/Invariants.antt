use Rattle.std.proofs.Common.{◌≡◌, ◌++◌}
use Rattle.std.specs.List.{repeat}
use Rattle.fcvectors.specs.Lines.{copy_bytes}
use Rattle.fcvectors.proofs.line.Copies.append_to.Given as goal

-- as many copies were appended as there were iterations.
abbrev pub invariant-loop : goal.invariant-loop
invariant-loop l = l.bytes.items ≡ l.initial.bytes.items ++ repeat l.counter (copy_bytes l.self)
