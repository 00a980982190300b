use Rattle.std.proofs.Common.{◌≡◌, ◌<◌, ◌≤◌, ◌==◌, ◌||◌, ℕ, false, length, drop}
use Rattle.std.specs.Prelude.{slice_index_or}
use Rattle.fc_image.specs.Functions.{is_called}
use Rattle.fc_image.proofs.functions.starts.Given as goal

abbrev pub invariant-loop-slot : goal.invariant-loop-slot
invariant-loop-slot l = record {
  len : length l.starts ≡ 1024;
  slot : l.slot ≤ length l.code;
  known : (place : ℕ) → place < 1024 → slice_index_or l.starts place false ≡ (is_called l.slot (drop l.slot l.code) place || (place == 0));
}

abbrev pub decreases-loop-slot : goal.decreases-loop-slot
decreases-loop-slot l = l.slot
