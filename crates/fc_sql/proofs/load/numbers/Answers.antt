use Rattle.std.proofs.Common.{[], arith}
use Rattle.sqlite.specs.Held.{state}
use Rattle.fc_sql.proofs.Read.{get_numbers, numbers_plain, numbers_text, plain_there, shown_unchanged}
use Rattle.fc_sql.proofs.Found.{kept_by, reads_survive}
use Rattle.fc_sql.proofs.load.numbers.Goals as goal

pub returns-in-Ok-clause-rows : goal.returns-in-Ok-clause-rows
returns-in-Ok-clause-rows g c clean =
    get_numbers (state g.S.Store c.args.conn.now) (state g.S.Store c.query_all.new.self) c.in-Ok.rows.items (c.requires.table (omega (arith, c.query_all.ensures.survives.clean, clean))) (c.in-Ok.ensures.ok clean)

pub returns-in-Ok-clause-kept : goal.returns-in-Ok-clause-kept
returns-in-Ok-clause-kept g c clean =
    let old = state g.S.Store c.args.conn.now in
    let new = state g.S.Store c.query_all.new.self in
    kept_by old new (shown_unchanged numbers_text [] old new c.in-Ok.rows.items (plain_there numbers_text old numbers_plain (c.requires.table (omega (arith, c.query_all.ensures.survives.clean, clean)))) (c.in-Ok.ensures.ok clean))

pub returns-in-Ok-clause-open : goal.returns-in-Ok-clause-open
returns-in-Ok-clause-open g c clean =
    let old = state g.S.Store c.args.conn.now in
    let new = state g.S.Store c.query_all.new.self in
    (shown_unchanged numbers_text [] old new c.in-Ok.rows.items (plain_there numbers_text old numbers_plain (c.requires.table (omega (arith, c.query_all.ensures.survives.clean, clean)))) (c.in-Ok.ensures.ok clean)).0.is_open

pub returns-in-Ok-clause-survives : goal.returns-in-Ok-clause-survives
returns-in-Ok-clause-survives g c =
    reads_survive numbers_text _ (state g.S.Store c.args.conn.now) (state g.S.Store c.query_all.new.self) c.requires.table numbers_plain c.query_all.ensures.survives

pub returns-in-Err-clause-survives : goal.returns-in-Err-clause-survives
returns-in-Err-clause-survives g c =
    reads_survive numbers_text _ (state g.S.Store c.args.conn.now) (state g.S.Store c.query_all.new.self) c.requires.table numbers_plain c.query_all.ensures.survives
