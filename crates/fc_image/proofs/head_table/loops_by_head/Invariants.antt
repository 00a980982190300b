use Rattle.std.proofs.Common.{◌≤◌, length}
use Rattle.fc_image.proofs.HeadTable.{AreHeadsFrom}
use Rattle.fc_image.proofs.head_table.loops_by_head.Given as goal

abbrev pub invariant-loop-slot : goal.invariant-loop-slot
invariant-loop-slot l = record {
  slot : l.slot ≤ length l.code;
  heads : AreHeadsFrom l.allowed l.code l.slot l.heads;
}

abbrev pub decreases-loop-slot : goal.decreases-loop-slot
decreases-loop-slot l = l.slot
