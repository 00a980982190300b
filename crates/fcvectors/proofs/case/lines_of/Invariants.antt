use Rattle.std.proofs.Common.{ℕ, Bor, List, map}
use Rattle.fcvectors.specs.Cases.{AreWritten}
use Rattle.fcvectors.proofs.case.lines_of.Given as goal

-- the lines so far have the forms of the texts so far.
abbrev pub invariant-loop-line : goal.invariant-loop-line
invariant-loop-line l = AreWritten (map (λ (b : Bor (List ℕ)). b.now) l.yielded) l.lines.items
