use Rattle.std.proofs.Common.{arith, refl}
use Rattle.fc_isa.specs.Shapes.{shape_of}
use Rattle.fc_isa.proofs.Rows.{row_is, row_dst, row_src, row_offset, row_imm}
use Rattle.fc_isa.proofs.Forms.{form_is}
use Rattle.fc_isa.proofs.laws.rows_fix_the_used_fields.Goals as goal

pub returns-clause-row : goal.returns-clause-row
returns-clause-row c = row_is c.args.opcode (omega arith)

pub returns-clause-opcode : goal.returns-clause-opcode
returns-clause-opcode c = λ k. (form_is c.args.opcode (shape_of c.args.opcode) refl k).opcode_is

pub returns-clause-dst : goal.returns-clause-dst
returns-clause-dst c = row_dst c.args.opcode (omega arith)

pub returns-clause-src : goal.returns-clause-src
returns-clause-src c = row_src c.args.opcode (omega arith)

pub returns-clause-offset : goal.returns-clause-offset
returns-clause-offset c = row_offset c.args.opcode (omega arith)

pub returns-clause-imm : goal.returns-clause-imm
returns-clause-imm c = row_imm c.args.opcode (omega arith)
