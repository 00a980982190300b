use Rattle.std.proofs.Common.{◌≡◌, take}
use Rattle.fc_isa.specs.Encoding.{encoded}
use Rattle.fc_isa.proofs.encoder.encode.Given as goal

-- the bytes so far are the encoding of the instructions so far
abbrev pub invariant-loop-insn : goal.invariant-loop-insn
invariant-loop-insn l = l.bytes.items ≡ encoded (take l.insn-index l.program)
