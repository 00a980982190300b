use Rattle.std.proofs.Common.{inl, inr, arith}
use Rattle.sqlite.specs.Held.{state}
use Rattle.sqlite.specs.State.{HasCleanDisk}
use Rattle.fc_sql.proofs.Found.{if_err, made_refused}
use Rattle.fc_sql.proofs.load.load.Goals as goal

pub returns-in-Ok-clause-refused : goal.returns-in-Ok-clause-refused
returns-in-Ok-clause-refused g c clean =
    let mid = state g.S.Store c.make_table.new.conn in
    let early : HasCleanDisk mid = omega (arith, c.read_made.ensures.survives.clean, clean) in
    if_err c.read_made.result _ _ (λ e it. elim it [
      | inl bad ↦ made_refused (state g.S.Store c.args.conn.now) mid (state g.S.Store c.read_made.new.conn) e (c.in-Ok.ensures.made early) bad
      | inr fails ↦ inr (inr fails)
    ]) (c.read_made.ensures.refused clean)
