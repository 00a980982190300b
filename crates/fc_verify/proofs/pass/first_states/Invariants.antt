use Rattle.std.proofs.Common.{◌≡◌, ◌≤◌, take, length}
use Rattle.std.specs.Vec.{vec_capacity, vec_len}
use Rattle.fc_verify.specs.Pass.{beginning}
use Rattle.fc_verify.proofs.pass.first_states.Given as goal

abbrev pub invariant-loop-slot : goal.invariant-loop-slot
invariant-loop-slot l = record {
  done : l.states.items ≡ take l.slot (beginning l.version l.code);
  count : vec_len l.states ≡ l.slot;
  room : length l.code ≤ vec_capacity l.states;
}
