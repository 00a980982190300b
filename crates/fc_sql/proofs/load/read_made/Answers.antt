use Rattle.std.proofs.Common.{inr, sym, ap, ◌∙◌, arith}
use Rattle.std.proofs.lemmas.Bool.{not-true}
use Rattle.sqlite.specs.Effect.{Database}
use Rattle.sqlite.specs.declared.error.Error.TheVariants.{SqliteFailure}
use Rattle.sqlite.specs.declared.error.ErrorCode.TheVariants.{TransactionState}
use Rattle.sqlite.specs.Held.{state}
use Rattle.fc_store.specs.Stored.{stored_in}
use Rattle.fc_sql.proofs.Found.{mirrors_found}
use Rattle.fc_sql.proofs.load.read_made.Goals as goal

pub returns-then-is_autocommit-clause-ready : goal.returns-then-is_autocommit-clause-ready
returns-then-is_autocommit-clause-ready g c clean =
    let old = state g.S.Store c.args.conn.now in
    let new = state g.S.Store c.read_table.new.conn in
    let kept = c.in-Ok.ensures.kept clean in
    let opened = c.in-Ok.ensures.open clean in (
      opened,
      mirrors_found old new (stored_in c.in-Ok.slots.items)
          (ap (λ (d : Database). d.schema) kept.0 ∙ c.requires.table (omega (arith, c.read_table.ensures.survives.clean, clean)))
          (not-true new.in_transaction (sym c.is_autocommit.ensures.value ∙ c.if-is_autocommit.true))
          (sym (c.is_autocommit.ensures.settled c.if-is_autocommit.true opened))
          (ap (λ (d : Database). d.trees 0) kept.0)
          (c.in-Ok.ensures.found clean),
    )

pub returns-else-is_autocommit-clause-refused : goal.returns-else-is_autocommit-clause-refused
returns-else-is_autocommit-clause-refused g c clean = inr (SqliteFailure TransactionState, c.from.ensures)
