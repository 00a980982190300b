use Rattle.std.proofs.Common.{inl, inr, subst, arith}
use Rattle.sqlite.specs.Effect.{Database}
use Rattle.sqlite.specs.Held.{state}
use Rattle.sqlite.specs.State.{HasCleanDisk}
use Rattle.fc_sql.specs.Found.{AreSlotNumbers}
use Rattle.fc_sql.proofs.Found.{refused_later}
use Rattle.fc_sql.proofs.load.read_table.Goals as goal

pub returns-in-Ok-check_rows-clause-found : goal.returns-in-Ok-check_rows-clause-found
returns-in-Ok-check_rows-clause-found g c clean =
    let early : HasCleanDisk (state g.S.Store c.read_slots.new.conn) = omega (arith, c.check_rows.ensures.survives.clean, clean) in record {
      numbers = subst (λ (d : Database). AreSlotNumbers (d.trees 0)) (c.in-Ok.ensures.kept early).0 (c.in-Ok-check_rows.ensures.numbers clean);
      states = c.in-Ok.ensures.found early;
    }

pub returns-in-Err-check_rows-clause-refused : goal.returns-in-Err-check_rows-clause-refused
returns-in-Err-check_rows-clause-refused g c clean =
    let mid = state g.S.Store c.read_slots.new.conn in
    let early : HasCleanDisk mid = omega (arith, c.check_rows.ensures.survives.clean, clean) in
    elim (c.in-Err-check_rows.ensures.refused clean) [
      | inl bad ↦ inl (refused_later (state g.S.Store c.args.conn.now) mid (state g.S.Store c.check_rows.new.conn) c.in-Err-check_rows.error (c.in-Ok.ensures.kept early) bad)
      | inr fails ↦ inr fails
    ]
