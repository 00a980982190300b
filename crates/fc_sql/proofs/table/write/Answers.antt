use Rattle.std.proofs.Common.{Bool, not, sym, subst}
use Rattle.std.specs.Prelude.{if◌then◌else◌}
use Rattle.sqlite.specs.Held.{state}
use Rattle.fc_sql.specs.Table.{IsMirrored, with_stored_slot}
use Rattle.fc_sql.proofs.Mirror.{crashes, doubted, kept}
use Rattle.fc_sql.proofs.table.write.Goals as goal

pub returns-then-fits-clause-kept : goal.returns-then-fits-clause-kept
returns-then-fits-clause-kept g c before m =
    kept c.args.slot c.args.stored.now (state g.S.Store c.args.conn.now) (state g.S.Store c.put.new.conn) before c.put.ensures.survives m c.put.result c.put.ensures.runs

pub returns-else-fits-clause-kept : goal.returns-else-fits-clause-kept
returns-else-fits-clause-kept g c before m =
    let old = state g.S.Store c.args.conn.now in
    subst (λ (b : Bool). IsMirrored (not b) old (if b then with_stored_slot c.args.slot c.args.stored.now before else before)) (sym c.if-fits.false) (doubted old before m)

pub returns-then-fits-clause-crash : goal.returns-then-fits-clause-crash
returns-then-fits-clause-crash g c before m clean =
    crashes c.args.slot c.args.stored.now (state g.S.Store c.args.conn.now) (state g.S.Store c.put.new.conn) before c.put.ensures.survives m clean
