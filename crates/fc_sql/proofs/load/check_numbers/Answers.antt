use Rattle.std.proofs.Common.{arith}
use Rattle.fc_sql.proofs.Found.{one_more_number}
use Rattle.fc_sql.proofs.load.check_numbers.Goals as goal

pub loop-row-preserved : goal.loop-row-preserved
loop-row-preserved c = one_more_number c.args.rows.now c.loop-row.row-index c.row-item.result (omega arith) c.row-item.is c.in_default.ensures.ok c.loop-row.invariant
