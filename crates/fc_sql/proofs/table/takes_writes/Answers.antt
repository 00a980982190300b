use Rattle.std.proofs.Common.{Bool, not, sym, subst}
use Rattle.sqlite.specs.Held.{state}
use Rattle.fc_sql.specs.Table.{IsMirrored}
use Rattle.fc_sql.proofs.Mirror.{asked}
use Rattle.fc_sql.proofs.table.takes_writes.Goals as goal

pub returns-then-in_doubt-clause-kept : goal.returns-then-in_doubt-clause-kept
returns-then-in_doubt-clause-kept g c before m =
    let old = state g.S.Store c.args.conn.now in
    let new = state g.S.Store c.prepare.new.self in
    let doubt = subst (λ (b : Bool). IsMirrored b old before) c.if-in_doubt.true m in
    subst (λ (b : Bool). IsMirrored (not b) new before) (sym c.is_ok.ensures.value)
    (asked old new before c.prepare.ensures.survives doubt _ c.prepare.result _ c.prepare.ensures.ok c.prepare.ensures.err)
