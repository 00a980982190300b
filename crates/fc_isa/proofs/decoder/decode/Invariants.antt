use Rattle.std.proofs.Common.{◌≡◌, ◌<◌, ◌≤◌, ℕ, None, vec_len}
use Rattle.std.specs.Prelude.{vec_capacity}
use Rattle.fc_isa.specs.Encoding.{fault_at, insns_below, is_second}
use Rattle.fc_isa.proofs.decoder.decode.Given as goal

-- the slots so far break no rule, and the program has their instructions and room for the rest
abbrev pub invariant-loop-slot : goal.invariant-loop-slot
invariant-loop-slot l = record {
  faultless : (k : ℕ) → k < l.slot → fault_at l.bytes k ≡ None;
  items : l.program.items ≡ insns_below l.bytes l.slot;
  second : l.second ≡ is_second l.bytes l.slot;
  len : vec_len l.program ≡ l.slot;
  room : l.slots ≤ vec_capacity l.program;
}
