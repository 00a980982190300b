-- The stored state of a slot after the update of a change.
use Rattle.std.proofs.Common.{◌≡◌, ℕ, ◌+◌, ◌<◌, ◌≤◌, Bool, List, Option, Some, None, refl, sym, ap, subst, ◌∙◌}
use Rattle.std.specs.Prelude.{IfSome}
use Rattle.std.proofs.lemmas.Bool.{le-ltb, lt-ltb}
use Rattle.fc_kinds.specs.Meaning.{Program}
use Rattle.fc_ticket.specs.declared.job.InitialVars.{InitialVars}
use Rattle.fc_registry.specs.Calls.{install_in, put_by}
use Rattle.fc_registry.specs.Changes.{Change, Installed, Committed, Removed, changed, with_vars}
use Rattle.fc_registry.specs.Plans.{IsStoredOf, IsStoredProgram, IsPlan, IsPlanned, SavesImage, IsUpdateOf}
use Rattle.fc_registry.specs.Slots.{Slot, last_serial}
use Rattle.fc_ticket.specs.Tickets.{Present}
use Rattle.fc_store.specs.Updates.{program_after, slot_after, with_stored_vars}
use Rattle.fc_store.specs.Stored.{StoredProgram, StoredSlot}
use Rattle.fc_store.specs.declared.store.ProgramUpdate.{ProgramUpdate}
use Rattle.fc_store.specs.declared.store.ProgramUpdate.TheVariants as saves
use Rattle.fc_store.specs.declared.store.SlotUpdate.{SlotUpdate}

vars_kept : (p : Option Present) (k : Option StoredProgram) (after vars : List ℕ) → vars ≡ after → IsStoredProgram p k → IsStoredProgram (with_vars after p) (with_stored_vars vars k)
vars_kept None None after vars e h = tt
vars_kept None (Some k) after vars e h = absurd h
vars_kept (Some p) None after vars e h = absurd h
vars_kept (Some p) (Some k) after vars e h = (h.0, h.1, e)

program_kept : (slot : Slot) (k : Option StoredProgram) (c : Change) (serial : ℕ) (saved : ProgramUpdate) → serial ≡ slot.serial + 1 → IsStoredProgram slot.present k → IsUpdateOf slot c saved → SavesImage c saved
    → IsStoredProgram (changed slot c).present (program_after serial saved k)
program_kept slot k (Installed p v) serial (saves.Install image vars) is h told own = (own, is, told)
program_kept slot k (Installed p v) serial (saves.Commit vars) is h told own = absurd told
program_kept slot k (Installed p v) serial saves.Remove is h told own = absurd told
program_kept slot k (Committed c) serial (saves.Install image vars) is h told own = absurd told
program_kept slot k (Committed c) serial (saves.Commit vars) is h told own = vars_kept slot.present k c.after vars.now told h
program_kept slot k (Committed c) serial saves.Remove is h told own = absurd told
program_kept slot k Removed serial (saves.Install image vars) is h told own = absurd told
program_kept slot k Removed serial (saves.Commit vars) is h told own = absurd told
program_kept slot k Removed serial saves.Remove is h told own = tt

serial_after : (slot : Slot) (c : Change) → (changed slot c).serial ≡ slot.serial + 1
serial_after slot (Installed p v) = refl
serial_after slot (Committed c) = refl
serial_after slot Removed = refl

pub kept_changed : (slot : Slot) (k : StoredSlot) (n : ℕ) (c : Change) (s : SlotUpdate) → IsStoredOf slot k → IsPlanned slot n c s → SavesImage c s.program → IsStoredOf (changed slot c) (slot_after s k)
kept_changed slot k n c s kept planned own =
    (planned.1 ∙ sym (serial_after slot c), program_kept slot k.program c s.serial s.program planned.1 kept.1 planned.2 own)

-- the result of `plan_install` is the update of the install, if the install changes the slot.
pub plan_put : (slot : Slot) (n : ℕ) (p : Program) (v : InitialVars) (saved : ProgramUpdate) (r : Option SlotUpdate) → (r ≡ None → last_serial ≤ slot.serial) → IfSome r (λ (s : SlotUpdate). (slot.serial < last_serial) × (s ≡ record { slot = n; serial = slot.serial + 1; program = saved }))
    → IsUpdateOf slot (Installed p v) saved → IsPlan slot n (install_in slot p v).changes r
plan_put slot n p v saved None none some told = subst (λ (b : Bool). IsPlan slot n (put_by b slot p v).changes None) (sym (le-ltb slot.serial last_serial (none refl))) tt
plan_put slot n p v saved (Some s) none some told =
    subst (λ (b : Bool). IsPlan slot n (put_by b slot p v).changes (Some s)) (sym (lt-ltb slot.serial last_serial some.0))
    ((ap (λ (x : SlotUpdate). x.slot) some.1, ap (λ (x : SlotUpdate). x.serial) some.1, subst (λ (x : SlotUpdate). IsUpdateOf slot (Installed p v) x.program) (sym some.1) told), refl)
