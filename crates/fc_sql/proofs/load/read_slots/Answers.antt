use Rattle.std.proofs.Common.{inl, inr, arith}
use Rattle.sqlite.specs.Held.{state}
use Rattle.sqlite.specs.State.{HasCleanDisk}
use Rattle.fc_sql.proofs.Found.{fails_for_memory, row_refused}
use Rattle.fc_sql.proofs.load.read_slots.Goals as goal

pub returns-in_default-clause-refused : goal.returns-in_default-clause-refused
returns-in_default-clause-refused g c clean = inr fails_for_memory

pub returns-in-Err-clause-refused : goal.returns-in-Err-clause-refused
returns-in-Err-clause-refused g c clean =
    let old = state g.S.Store c.args.conn.now in
    let mid = state g.S.Store c.loop-slot.conn in
    let new = state g.S.Store c.read_slot.new.conn in
    let early : HasCleanDisk mid = omega (arith, c.read_slot.ensures.survives.clean, clean) in
    elim (c.in-Err.ensures.refused clean) [
      | inl bad ↦ inl (row_refused old mid new c.loop-slot.slot c.in-Err.error (omega (arith, c.loop-slot-test.true)) (c.loop-slot.invariant.kept early) bad)
      | inr fails ↦ inr fails
    ]

pub returns-then-is_err-clause-refused : goal.returns-then-is_err-clause-refused
returns-then-is_err-clause-refused g c clean = inr fails_for_memory
