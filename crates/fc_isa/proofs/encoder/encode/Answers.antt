use Rattle.std.proofs.Common.{arith}
use Rattle.fc_isa.proofs.Slots.{encode_more}
use Rattle.fc_isa.proofs.encoder.encode.Goals as goal

pub loop-insn-preserved : goal.loop-insn-preserved
loop-insn-preserved c =
    encode_more c.args.program.now c.loop-insn.insn-index c.insn-item.result c.loop-insn.bytes.items c.write.new.bytes.items (omega arith) c.loop-insn.invariant c.insn-item.is c.in_ok-write.ensures
