use Rattle.std.proofs.Common.{◌≡◌, ℕ, Bor, List, map}
use Rattle.fc_replay.specs.Listed.{Line, line_words}
use Rattle.fc_replay.proofs.replay.lines.Given as goal

-- the lines so far have the words of the texts so far.
abbrev pub invariant-loop-line : goal.invariant-loop-line
invariant-loop-line l = map (λ (line : Line). line.words) l.lines.items ≡ map (λ (b : Bor (List ℕ)). line_words b.now) l.yielded
