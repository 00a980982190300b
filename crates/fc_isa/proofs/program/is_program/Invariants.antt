use Rattle.std.proofs.Common.{◌≡◌, Some, false, take}
use Rattle.fc_isa.proofs.Programs.{after}
use Rattle.fc_isa.proofs.program.is_program.Given as goal

-- `second` is whether a second half must follow the slots so far
abbrev pub invariant-loop-slot : goal.invariant-loop-slot
invariant-loop-slot l = after false (take l.slot-index l.slots) ≡ Some l.second
