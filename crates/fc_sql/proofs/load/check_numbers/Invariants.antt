use Rattle.std.proofs.Common.{ℕ, ◌<◌, get_or}
use Rattle.sqlite.specs.Order.{Row}
use Rattle.sqlite_trees.specs.Tree.{rowid}
use Rattle.fc_sql.specs.Found.{IsSlotNumber}
use Rattle.fc_sql.proofs.load.check_numbers.Given as goal

abbrev pub invariant-loop-row : goal.invariant-loop-row
invariant-loop-row l = (k : ℕ) (d : Row) → k < l.row-index → IsSlotNumber (rowid (get_or l.rows k d))
