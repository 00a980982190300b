use Rattle.std.proofs.Common.{pos, [], ◌∷◌, arith}
use Rattle.sqlite.specs.declared.types.Value.TheVariants.{Int}
use Rattle.sqlite.specs.Held.{state}
use Rattle.sqlite.specs.State.{Shown}
use Rattle.fc_sql.proofs.Read.{get_plain, get_rows, get_text, plain_there, shown_unchanged}
use Rattle.fc_sql.proofs.Found.{kept_by, reads_survive}
use Rattle.fc_sql.proofs.load.rows_of_slot.Goals as goal

pub returns-in-Ok-clause-rows : goal.returns-in-Ok-clause-rows
returns-in-Ok-clause-rows g c clean =
    let old = state g.S.Store c.args.conn.now in
    let new = state g.S.Store c.query_all.new.self in
    let shown : Shown get_text (Int (pos c.args.slot) ∷ []) old new c.in-Ok.rows.items = rw (c.to_sql-number.ensures, c.from.ensures) at (c.in-Ok.ensures.ok clean) in
    get_rows c.args.slot old new c.in-Ok.rows.items (c.requires.table (omega (arith, c.query_all.ensures.survives.clean, clean))) shown

pub returns-in-Ok-clause-kept : goal.returns-in-Ok-clause-kept
returns-in-Ok-clause-kept g c clean =
    let old = state g.S.Store c.args.conn.now in
    let new = state g.S.Store c.query_all.new.self in
    let shown : Shown get_text (Int (pos c.args.slot) ∷ []) old new c.in-Ok.rows.items = rw (c.to_sql-number.ensures, c.from.ensures) at (c.in-Ok.ensures.ok clean) in
    kept_by old new (shown_unchanged get_text (Int (pos c.args.slot) ∷ []) old new c.in-Ok.rows.items (plain_there get_text old get_plain (c.requires.table (omega (arith, c.query_all.ensures.survives.clean, clean)))) shown)

pub returns-in-Ok-clause-survives : goal.returns-in-Ok-clause-survives
returns-in-Ok-clause-survives g c =
    reads_survive get_text _ (state g.S.Store c.args.conn.now) (state g.S.Store c.query_all.new.self) c.requires.table get_plain c.query_all.ensures.survives

pub returns-in-Err-clause-survives : goal.returns-in-Err-clause-survives
returns-in-Err-clause-survives g c =
    reads_survive get_text _ (state g.S.Store c.args.conn.now) (state g.S.Store c.query_all.new.self) c.requires.table get_plain c.query_all.ensures.survives
