-- The programs of restored slots are safe to run.
use Rattle.std.proofs.Common.{◌≡◌, ℕ, ◌<◌, ◌≤◌, List, Option, Some, None, length, sym, ap, subst, arith, ⊎_elim}
use Rattle.std.proofs.lemmas.Bool.{cases_lt}
use Rattle.std.proofs.lemmas.List.{get_or_past}
use Rattle.fc_store.specs.Stored.{StoredProgram, StoredSlot, blank_slot, stored_in}
use Rattle.fc_verify.specs.Accepted.{Judgement}
use Rattle.fc_registry.specs.Restored.{present_if, restored_present, restored_slot}
use Rattle.fc_registry.specs.Starts.{CanRestore, CanRestoreProgram}
use Rattle.fc_core.specs.Fits.{FitsSlot}

program_fits : (serial : ℕ) (o : Option StoredProgram) → CanRestoreProgram serial o → FitsSlot (restored_present o)
program_fits serial None can = tt
program_fits serial (Some k) can =
    subst FitsSlot (sym (ap (λ (j : Judgement). present_if j k) can.judged_as))
    (record { safe = record { runs = can.runs; longest = can.accepted.shapely.cost }; vars = can.state.2 })

pub restored_fit : (items : List StoredSlot) → length items ≡ 64 → ((n : ℕ) → n < 64 → CanRestore (stored_in items n)) → (n : ℕ) → FitsSlot (restored_slot (stored_in items n)).present
restored_fit items count can n = ⊎_elim
    (λ (lt : n < 64). program_fits (stored_in items n).serial (stored_in items n).program (can n lt).program)
    (λ (past : 64 ≤ n). subst (λ (k : StoredSlot). FitsSlot (restored_slot k).present) (sym (get_or_past items n blank_slot (omega (arith, past, count)))) tt)
    (cases_lt n 64)
