use Rattle.std.proofs.Common.{◌≡◌, replicate, None}
use Rattle.fc_front.proofs.ids.MessageIds.new.Given as goal

abbrev pub invariant-loop-id : goal.invariant-loop-id
invariant-loop-id l = l.last.items ≡ replicate l._id None
