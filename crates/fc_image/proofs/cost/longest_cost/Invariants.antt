use Rattle.std.proofs.Common.{◌≡◌, ◌≤◌, ℕ, length, min, get_or}
use Rattle.fc_image.specs.Loops.{loops_of}
use Rattle.fc_image.specs.Paths.{costs}
use Rattle.fc_image.proofs.cost.longest_cost.Given as goal

abbrev pub invariant-loop-slot : goal.invariant-loop-slot
invariant-loop-slot l = record {
  len : length l.costs ≡ 1024;
  slot : l.slot ≤ length l.code;
  capped : (k : ℕ) → get_or l.costs k 0 ≤ 65537;
  known : (k : ℕ) → l.slot ≤ k → get_or l.costs k 0 ≡ min 65537 (get_or (costs (loops_of l.allowed l.code) 0 l.code) k 0);
}

abbrev pub decreases-loop-slot : goal.decreases-loop-slot
decreases-loop-slot l = l.slot
