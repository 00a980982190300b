use Rattle.std.proofs.Common.{◌≤◌, length}
use Rattle.fc_expand.proofs.expander.expand_words.Given as goal

abbrev pub invariant-loop-piece : goal.invariant-loop-piece
invariant-loop-piece l = l.at ≤ length l.body
