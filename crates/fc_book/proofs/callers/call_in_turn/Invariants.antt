use Rattle.fc_book.specs.Counters.{IsCaller}
use Rattle.fc_book.proofs.callers.call_in_turn.Given as goal

abbrev pub invariant-loop-call : goal.invariant-loop-call
invariant-loop-call g l = IsCaller l.who l.call l.tracks l.answers.items
