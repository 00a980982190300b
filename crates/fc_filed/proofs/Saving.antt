-- Updates of changes: the update that a plan has, and the one that its entry has.
use Rattle.std.proofs.Common.{◌≡◌, ◌⊎◌, ℕ, ◌+◌, ◌<◌, ◌≤◌, Bool, true, false, List, Option, Some, inl, inr, refl, sym, ap, ◌∙◌, subst, ⊎_elim, arith}
use Rattle.std.specs.Prelude.{◌==◌, if◌then◌else◌}
use Rattle.fc_store.specs.declared.store.ProgramUpdate.{ProgramUpdate}
use Rattle.fc_store.specs.declared.store.ProgramUpdate.TheVariants as saves
use Rattle.fc_store.specs.declared.store.SlotUpdate.{SlotUpdate}
use Rattle.fc_store.specs.declared.store.Store.{Ghosts}
use Rattle.fc_store.specs.Stored.{StoredProgram, StoredSlot, StoredSlots}
use Rattle.fc_store.specs.Updates.{AreSameSlots, IsStoredIf, program_after, slot_after, slots_after, with_stored_vars}
use Rattle.fc_verify.specs.Accepted.{Accepts}
use Rattle.fc_verify.specs.Judged.{judged}
use Rattle.fc_registry.specs.Changes.{Change, Installed, Committed, Removed}
use Rattle.fc_registry.specs.Plans.{IsPlanned, IsUpdateOf, SavesImage}
use Rattle.fc_registry.specs.Slots.{Slot}
use Rattle.fc_store.specs.Saves.{FindsStored, SavesUpdate}
use Rattle.fc_calls.specs.Kept.{HasOwnImage}
use Rattle.fc_filed.specs.Saves.{AreRaised, FindsRaised, program_update, update_of}

module _ (slot : Slot) (image : List ℕ) where
  -- a planned update and the change's own have one effect.
  same_program : (c : Change) (p : ProgramUpdate) (serial : ℕ) → IsUpdateOf slot c p → HasOwnImage image p → (k : Option StoredProgram) → program_after serial p k ≡ program_after serial (program_update slot c image) k
  same_program (Installed p v) (saves.Install bytes vars) serial is own k = λ i. Some (record { version = serial; image = own i; vars = is i })
  same_program (Installed p v) (saves.Commit vars) serial is own k = absurd is
  same_program (Installed p v) saves.Remove serial is own k = absurd is
  same_program (Committed c) (saves.Install bytes vars) serial is own k = absurd is
  same_program (Committed c) (saves.Commit vars) serial is own k = ap (λ (v : List ℕ). with_stored_vars v k) is
  same_program (Committed c) saves.Remove serial is own k = absurd is
  same_program Removed (saves.Install bytes vars) serial is own k = absurd is
  same_program Removed (saves.Commit vars) serial is own k = absurd is
  same_program Removed saves.Remove serial is own k = refl

  own_planned : (c : Change) → IsUpdateOf slot c (program_update slot c image)
  own_planned (Installed p v) = refl
  own_planned (Committed c) = refl
  own_planned Removed = tt

  pub plans_own : (n : ℕ) (c : Change) → IsPlanned slot n c (update_of slot n c image)
  plans_own n c = (refl, refl, own_planned c)

  -- the change's own update has an image of its program if a planned one has.
  pub saves_own : (c : Change) (p : ProgramUpdate) → IsUpdateOf slot c p → HasOwnImage image p → SavesImage c p → SavesImage c (program_update slot c image)
  saves_own (Installed p v) (saves.Install bytes vars) is own saved = subst (λ (b : List ℕ). judged b ≡ Accepts p) own saved
  saves_own (Installed p v) (saves.Commit vars) is own saved = absurd is
  saves_own (Installed p v) saves.Remove is own saved = absurd is
  saves_own (Committed c) p is own saved = tt
  saves_own Removed p is own saved = tt

  module _ (n : ℕ) (c : Change) (u : SlotUpdate) (planned : IsPlanned slot n c u) (own : HasOwnImage image u.program) where
    abbrev mine : SlotUpdate
    mine = update_of slot n c image

    same_slot : (k : StoredSlot) → slot_after u k ≡ slot_after mine k
    same_slot k = λ i. record { serial = planned.1 i; program = (ap (λ (m : ℕ). program_after m u.program k.program) planned.1 ∙ same_program c u.program (slot.serial + 1) planned.2 own k.program) i }

    same_after : (s : StoredSlots) (m : ℕ) → slots_after u s m ≡ slots_after mine s m
    same_after s m = λ i. if m == planned.0 i then same_slot (s m) i else s m

    -- a store that saved a planned update saved the change's own.
    module _ {S : Type 0} (g : Ghosts S) (old new : S) where
      stored_own : (result : Bool) → IsStoredIf result u (g.stored old) (g.stored new) → IsStoredIf result mine (g.stored old) (g.stored new)
      stored_own true is m lt = is m lt ∙ same_after (g.stored old) m
      stored_own false is m lt = is m lt

      pub saved_own : (result : Bool) → SavesUpdate g u result old new → SavesUpdate g mine result old new
      saved_own result saved = record {
        stored = stored_own result saved.stored;
        clean = saved.clean;
        ready = saved.ready;
        durable = saved.durable;
        crash = λ ready clean found may. ⊎_elim
            (λ was. inl was)
            (λ (same : AreSameSlots found (slots_after u (g.stored old))). inr (λ m lt. same m lt ∙ same_after (g.stored old) m))
            (saved.crash ready clean found may);
      }

-- ---- slots that are found as they are stored

raised_slot : (found stored : StoredSlot) → found ≡ stored → (found.program ≡ stored.program) × (stored.serial ≤ found.serial)
raised_slot found stored is = (ap (λ (k : StoredSlot). k.program) is, subst (λ (k : StoredSlot). stored.serial ≤ k.serial) (sym is) (omega (arith)))

pub same_raised : (stored found : StoredSlots) → AreSameSlots found stored → AreRaised stored found
same_raised stored found same n low = raised_slot (found n) (stored n) (same n low)

-- a start that finds just the stored slots finds the stored programs.
pub stored_raised : {S : Type 0} (g : Ghosts S) (store : S) → FindsStored g store → FindsRaised g store
stored_raised g store finds found may = same_raised (g.stored store) found (finds found may)
