use Rattle.fc_filed.proofs.TableWords.{AreWrittenBelow}
use Rattle.fc_filed.proofs.steps.table_words.Given as goal

abbrev pub invariant-loop-slot : goal.invariant-loop-slot
invariant-loop-slot l = AreWrittenBelow l.heads l.slot l.words
