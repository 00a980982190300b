use Rattle.sqlite.specs.Held.{state}
use Rattle.fc_sql.proofs.Put.{creates}
use Rattle.fc_sql.proofs.load.create.Goals as goal

pub returns-in-Ok-clause-made : goal.returns-in-Ok-clause-made
returns-in-Ok-clause-made g c clean = creates (state g.S.Store c.args.conn.now) (state g.S.Store c.execute.new.self) c.in-Ok.field-0 c.requires.empty (c.in-Ok.ensures.runs clean)
