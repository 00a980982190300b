use Rattle.std.proofs.Common.{◌≡◌, ◌<◌, ◌≤◌, length, ℕ}
use Rattle.fc_kinds.specs.Kinds.{kind_at}
use Rattle.fc_kinds.specs.Lattice.{join_kind}
use Rattle.fc_kinds.proofs.lattice.join.Given as goal

abbrev pub invariant-loop-r : goal.invariant-loop-r
invariant-loop-r l = record {
  count : length l.state ≡ 11;
  done : (k : ℕ) → k < l.r → kind_at l.state k ≡ join_kind (kind_at l.fn.state k) (kind_at l.other k);
  left : (k : ℕ) → l.r ≤ k → kind_at l.state k ≡ kind_at l.fn.state k;
}
