use Rattle.fc_image.specs.Spans.{AreSpans}
use Rattle.fc_image.proofs.spans.spans.Given as goal

abbrev pub invariant-loop-slot : goal.invariant-loop-slot
invariant-loop-slot l = AreSpans l.code l.slot l.spans
