use Rattle.std.proofs.Common.{◌≡◌, ◌<◌, ◌≤◌, ◌+◌, ℕ, length}
use Rattle.std.specs.Prelude.{slice_index}
use Rattle.fc_image.specs.Tables.{starts_below}
use Rattle.fc_image.proofs.functions.starts_counted.Given as goal

abbrev pub invariant-loop-slot : goal.invariant-loop-slot
invariant-loop-slot l = record {
  len : length l.counts ≡ 1024;
  few : l.count ≤ l.slot;
  so_far : l.count ≡ starts_below l.code l.slot;
  known : (k : ℕ) → k < l.slot → slice_index l.counts k ≡ starts_below l.code (k + 1);
}
