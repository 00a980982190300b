use Rattle.std.proofs.Common.{◌≡◌, ℕ, ◌<◌, length}
use Rattle.sqlite.specs.Held.{state}
use Rattle.sqlite.specs.State.{HasCleanDisk, Survives}
use Rattle.fc_store.specs.Stored.{stored_in}
use Rattle.fc_sql.specs.Found.{AreOfSlot, IsSameDatabase, rows_of}
use Rattle.fc_sql.proofs.load.read_slots.Given as goal

abbrev pub invariant-loop-slot : goal.invariant-loop-slot
invariant-loop-slot g l =
    let old = state g.S.Store l.fn.conn in
    let now = state g.S.Store l.conn in record {
      size : length l.slots.items ≡ l.slot;
      survives : Survives old now (λ _. ⊥);
      kept : HasCleanDisk now → IsSameDatabase old now;
      found : HasCleanDisk now → (n : ℕ) → n < l.slot → AreOfSlot (rows_of (old.now.trees 0) n) (stored_in l.slots.items n);
    }
