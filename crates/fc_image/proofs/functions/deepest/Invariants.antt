use Rattle.std.proofs.Common.{◌≡◌, ◌≤◌, ℕ, length, min, get_or}
use Rattle.fc_image.specs.Functions.{depths, is_start}
use Rattle.fc_image.proofs.functions.deepest.Given as goal

abbrev pub invariant-loop-slot : goal.invariant-loop-slot
invariant-loop-slot l = record {
  len : length l.depths ≡ 1024;
  slot : l.slot ≤ length l.code;
  capped : (k : ℕ) → get_or l.depths k 0 ≤ 9;
  known : (k : ℕ) → l.slot ≤ k → get_or l.depths k 0 ≡ min 9 (get_or (depths (is_start l.code) 0 l.code) k 0);
}

abbrev pub decreases-loop-slot : goal.decreases-loop-slot
decreases-loop-slot l = l.slot
