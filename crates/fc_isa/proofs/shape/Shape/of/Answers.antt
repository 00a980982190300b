use Rattle.std.proofs.Common.{arith, rules}
use Rattle.fc_isa.proofs.Rows.{row_is}
use Rattle.fc_isa.proofs.shape.Shape.of.Goals as goal

pub offset_bounds-opcode : goal.offset_bounds-opcode
offset_bounds-opcode c = search rules

pub bounds-opcode : goal.bounds-opcode
bounds-opcode c = omega arith

pub returns : goal.returns
returns c = row_is c.args.opcode (omega arith)
