use Rattle.std.proofs.Common.{inl, inr}
use Rattle.sqlite.specs.declared.error.Error.TheVariants.{SqliteFailure}
use Rattle.sqlite.specs.declared.error.ErrorCode.TheVariants.{OutOfMemory}
use Rattle.sqlite.specs.Held.{state}
use Rattle.fc_sql.specs.Found.{rows_of}
use Rattle.fc_sql.proofs.Found.{bad_of, if_err, if_ok, of_slot, wide_rows}
use Rattle.fc_sql.proofs.load.read_slot.Goals as goal

pub returns-in-Ok-clause-found : goal.returns-in-Ok-clause-found
returns-in-Ok-clause-found g c clean =
    let rows = (state g.S.Store c.args.conn.now).now.trees 0 in
    let same = c.in-Ok.ensures.rows clean in
    if_ok c.slot_of.result _ _ (λ s it. of_slot (rows_of rows c.args.slot) c.in-Ok.rows.items s same (it (wide_rows rows c.args.slot c.in-Ok.rows.items same))) (rw c.as_slice.ensures.value at c.slot_of.ensures.ok)

pub returns-in-Ok-clause-refused : goal.returns-in-Ok-clause-refused
returns-in-Ok-clause-refused g c clean =
    let rows = (state g.S.Store c.args.conn.now).now.trees 0 in
    let same = c.in-Ok.ensures.rows clean in
    if_err c.slot_of.result _ _ (λ e it. elim it [
      | inl bad ↦ inl (bad.0, bad.1, bad_of bad.0 (rows_of rows c.args.slot) c.in-Ok.rows.items same (bad.2 (wide_rows rows c.args.slot c.in-Ok.rows.items same)), c.in-Ok.ensures.kept clean)
      | inr memory ↦ inr (SqliteFailure OutOfMemory, memory)
    ]) (rw c.as_slice.ensures.value at c.slot_of.ensures.bad)
