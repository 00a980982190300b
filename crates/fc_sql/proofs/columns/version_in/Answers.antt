use Rattle.fc_sql.proofs.Found.{if_err, version_bad}
use Rattle.fc_sql.proofs.columns.version_in.Goals as goal

pub returns-clause-bad : goal.returns-clause-bad
returns-clause-bad c = if_err c.column.result _ _ (version_bad c.args.row.now) c.column.ensures.bad
