use Rattle.std.proofs.Common.{inl, inr, refl}
use Rattle.sqlite.specs.Held.{state}
use Rattle.fc_sql.specs.declared.error.BadRow.TheVariants.{Number}
use Rattle.fc_sql.proofs.Found.{if_err, numbers_hold, on_ok, other_of}
use Rattle.fc_sql.proofs.load.check_rows.Goals as goal

pub returns-in-Ok-clause-numbers : goal.returns-in-Ok-clause-numbers
returns-in-Ok-clause-numbers g c clean =
    on_ok c.check_numbers.result _ _ (numbers_hold ((state g.S.Store c.args.conn.now).now.trees 0) c.in-Ok.rows.items (c.in-Ok.ensures.rows clean)) (rw c.as_slice.ensures.value at c.check_numbers.ensures.ok)

pub returns-in-Ok-clause-refused : goal.returns-in-Ok-clause-refused
returns-in-Ok-clause-refused g c clean =
    if_err c.check_numbers.result _ _ (λ e it. elim it [
      | inl bad ↦ inl (bad.0, Number, bad.1, inl (refl, other_of ((state g.S.Store c.args.conn.now).now.trees 0) c.in-Ok.rows.items bad.0 (c.in-Ok.ensures.rows clean) bad.2), c.in-Ok.ensures.kept clean)
      | inr fails ↦ inr fails
    ]) (rw c.as_slice.ensures.value at c.check_numbers.ensures.bad)
