-- The stored slot after a change that a persistent store saved, and the slots that a start finds.
use Rattle.std.proofs.Common.{◌≡◌, ℕ, ◌+◌, ◌<◌, Bool, true, false, List, [], ◌∷◌, Option, Some, None, refl, sym, ap, ◌∙◌, subst, if◌then◌else◌}
use Rattle.std.specs.Prelude.{⊤}
use Rattle.std.proofs.lemmas.Bool.{eq-eqb, false≢true, ne_eqb}
use Rattle.fc_kinds.specs.Meaning.{Program}
use Rattle.fc_verify.specs.Accepted.{Accepts}
use Rattle.fc_verify.specs.Judged.{judged}
use Rattle.fc_ticket.specs.declared.job.InitialVars.{InitialVars}
use Rattle.fc_registry.specs.Changes.{Change, Commit, Committed, Installed, Removed, installed}
use Rattle.fc_registry.specs.Plans.{IsUpdateOf, SavesImage}
use Rattle.fc_registry.specs.Slots.{Slot}
use Rattle.fc_store.specs.declared.store.ProgramUpdate.{ProgramUpdate}
use Rattle.fc_store.specs.declared.store.ProgramUpdate.TheVariants as saves
use Rattle.fc_store.specs.declared.store.Store.{Ghosts}
use Rattle.fc_store.specs.Stored.{StoredProgram, StoredSlots}
use Rattle.fc_store.specs.Updates.{program_after, slot_after, with_stored_vars}
use Rattle.fc_locked.specs.SharedStores.{HasSaved, HasSavedBy, SavesChange}

-- ---- the program in the update of a change

no_program : (slot : Slot) (serial : ℕ) (u : ProgramUpdate) (before : Option StoredProgram) → IsUpdateOf slot Removed u → program_after serial u before ≡ None
no_program slot serial (saves.Install image vars) before is = absurd is
no_program slot serial (saves.Commit vars) before is = absurd is
no_program slot serial saves.Remove before is = refl

new_vars : (slot : Slot) (c : Commit) (serial : ℕ) (u : ProgramUpdate) (before : Option StoredProgram) → IsUpdateOf slot (Committed c) u → program_after serial u before ≡ with_stored_vars c.after before
new_vars slot c serial (saves.Install image vars) before is = absurd is
new_vars slot c serial (saves.Commit vars) before is = ap (λ (v : List ℕ). with_stored_vars v before) is
new_vars slot c serial saves.Remove before is = absurd is

-- the stored program of an install at this serial, with this image.
abbrev program_of : Slot → Program → InitialVars → ℕ → List ℕ → Option StoredProgram
program_of slot p initial serial image = Some (record { version = serial; image = image; vars = (installed slot p initial).vars })

new_program : (slot : Slot) (p : Program) (initial : InitialVars) (serial : ℕ) (u : ProgramUpdate) (before : Option StoredProgram) → IsUpdateOf slot (Installed p initial) u → SavesImage (Installed p initial) u
    → (image : List ℕ) × (judged image ≡ Accepts p) × (program_after serial u before ≡ program_of slot p initial serial image)
new_program slot p initial serial (saves.Install image vars) before is own = (image.now, own, ap (λ (v : List ℕ). Some (record { version = serial; image = image.now; vars = v })) is)
new_program slot p initial serial (saves.Commit vars) before is own = absurd is
new_program slot p initial serial saves.Remove before is own = absurd is

module _ {S : Type 0} (g : Ghosts S) (slot : Slot) (n : ℕ) where
  -- ---- what a persistent store has saved

  -- each change is saved, or refused.
  pub change_saved : (change : Change) (made : Bool) → g.persistent ≡ true → HasSaved g ⊤ slot n (change ∷ []) made → SavesChange g ⊤ slot n change made
  change_saved change made persistent saved = (subst (λ (b : Bool). HasSavedBy b g ⊤ slot n change [] made) persistent saved).1

  -- no call makes two changes.
  pub only_one : (a b : Change) (more : List Change) → g.persistent ≡ true → HasSaved g ⊤ slot n (a ∷ b ∷ more) true → ⊥
  only_one a b more persistent saved =
      let none : b ∷ more ≡ [] = (subst (λ (c : Bool). HasSavedBy c g ⊤ slot n a (b ∷ more) true) persistent saved).0 in
      absurd (cc none)

  -- a store that isn't persistent refuses nothing.
  pub never_refuses : (change : Change) → g.persistent ≡ false → HasSaved g ⊤ slot n (change ∷ []) false → ⊥
  never_refuses change forgets saved = false≢true (subst (λ (b : Bool). HasSavedBy b g ⊤ slot n change [] false) forgets saved)

  -- ---- the stored slots after a save

  -- the stored slot is that after the update.
  stored_after : (change : Change) → n < 64 → (w : SavesChange g ⊤ slot n change true) → g.stored w.saves.new n ≡ slot_after w.update (g.stored w.saves.old n)
  stored_after change lt w = w.saves.saves.stored n lt ∙ ap (λ (b : Bool). if b then slot_after w.update (g.stored w.saves.old n) else g.stored w.saves.old n) (eq-eqb n w.update.slot (sym w.planned.0))

  -- its program and its serial, which is that of the slot's next change.
  stored_as : (change : Change) (serial : ℕ) (program : Option StoredProgram) → n < 64 → slot.serial + 1 ≡ serial → (w : SavesChange g ⊤ slot n change true)
      → program_after w.update.serial w.update.program (g.stored w.saves.old n).program ≡ program → g.stored w.saves.new n ≡ record { serial = serial; program = program }
  stored_as change serial program lt next w is = stored_after change lt w ∙ λ i. record { serial = (w.planned.1 ∙ next) i; program = is i }

  pub stored_removal : (serial : ℕ) → n < 64 → slot.serial + 1 ≡ serial → (w : SavesChange g ⊤ slot n Removed true) → g.stored w.saves.new n ≡ record { serial = serial; program = None }
  stored_removal serial lt next w = stored_as Removed serial None lt next w (no_program slot w.update.serial w.update.program (g.stored w.saves.old n).program w.planned.2)

  pub stored_commit : (c : Commit) (serial : ℕ) → n < 64 → slot.serial + 1 ≡ serial → (w : SavesChange g ⊤ slot n (Committed c) true)
      → g.stored w.saves.new n ≡ record { serial = serial; program = with_stored_vars c.after (g.stored w.saves.old n).program }
  stored_commit c serial lt next w = stored_as (Committed c) serial _ lt next w (new_vars slot c w.update.serial w.update.program (g.stored w.saves.old n).program w.planned.2)

  pub stored_install : (p : Program) (initial : InitialVars) (serial : ℕ) → n < 64 → slot.serial + 1 ≡ serial → (w : SavesChange g ⊤ slot n (Installed p initial) true)
      → (image : List ℕ) × (judged image ≡ Accepts p) × (g.stored w.saves.new n ≡ record { serial = serial; program = program_of slot p initial serial image })
  stored_install p initial serial lt next w =
      let made = new_program slot p initial w.update.serial w.update.program (g.stored w.saves.old n).program w.planned.2 (w.image tt) in
      (made.0, made.1, stored_as (Installed p initial) serial _ lt next w (made.2 ∙ ap (λ (k : ℕ). program_of slot p initial k made.0) (w.planned.1 ∙ next)))

  -- each other slot is unchanged.
  pub stored_other : (change : Change) (m : ℕ) → m < 64 → (m ≡ n → ⊥) → (w : SavesChange g ⊤ slot n change true) → g.stored w.saves.new m ≡ g.stored w.saves.old m
  stored_other change m lt other w =
      w.saves.saves.stored m lt ∙ ap (λ (b : Bool). if b then slot_after w.update (g.stored w.saves.old m) else g.stored w.saves.old m)
      (ne_eqb m w.update.slot (λ same. other (same ∙ w.planned.0)))

  -- ---- the slots that a start finds

  -- a start right after the save finds each slot as it is stored.
  pub found_as : (change : Change) (w : SavesChange g ⊤ slot n change true) (found : StoredSlots) → g.is_clean w.saves.new → g.may_recover w.saves.new found
      → (m : ℕ) → m < 64 → found m ≡ g.stored w.saves.new m
  found_as change w found clean may m lt = w.saves.saves.durable w.saves.ready clean refl found may m lt
