use Rattle.std.proofs.Common.{◌≡◌, ap, ◌∙◌}
use Rattle.sqlite.specs.Effect.{Database}
use Rattle.sqlite.specs.Held.{state}
use Rattle.sqlite_trees.specs.Tree.{Trees}
use Rattle.fc_sql.specs.Table.{slots_in_rows}
use Rattle.fc_sql.proofs.sql.SqlStore.over.Goals as goal

pub returns-in-Ok-clause-settled : goal.returns-in-Ok-clause-settled
returns-in-Ok-clause-settled g c clean db may n few =
    let is = c.in-Ok.ensures.ready clean in
    let settled : db ≡ (state g.S.Store c.load.new.conn).now.trees = g.met.S.Store.settled c.load.new.conn.store db is.0 may ∙ ap (λ (d : Database). d.trees) is.1.committed in
    ap (λ (trees : Trees). slots_in_rows (trees 0) n) settled ∙ is.1.same n few
