use Rattle.std.proofs.Common.{◌≡◌, replicate}
use Rattle.fc_help.proofs.vars.Vars.zeros.Given as goal

abbrev pub invariant-loop-byte : goal.invariant-loop-byte
invariant-loop-byte l = l.bytes.items ≡ replicate l._byte 0
