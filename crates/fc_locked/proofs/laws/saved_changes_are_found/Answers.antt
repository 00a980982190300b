use Rattle.std.proofs.Common.{◌+◌, ◌∙◌, ℕ, Option, ap, lit<}
use Rattle.fc_store.specs.Stored.{StoredProgram}
use Rattle.fc_store.specs.Updates.{with_stored_vars}
use Rattle.fc_registry.specs.Changes.{Committed, Installed, Removed}
use Rattle.fc_locked.proofs.SavedSlots.{change_saved, found_as, stored_commit, stored_install, stored_other, stored_removal}
use Rattle.fc_locked.proofs.laws.saved_changes_are_found.Goals as goal

pub returns-clause-saves : goal.returns-clause-saves
returns-clause-saves g c = λ slot n change made persistent saved. change_saved g.K.Store slot n change made persistent saved

pub returns-clause-removal : goal.returns-clause-removal
returns-clause-removal g c = λ slot w found seven clean may.
    found_as g.K.Store slot 5 Removed w found clean may 5 (lit< tt) ∙ stored_removal g.K.Store slot 5 8 (lit< tt) (ap (λ (k : ℕ). k + 1) seven) w

pub returns-clause-install : goal.returns-clause-install
returns-clause-install g c = λ slot p initial w found seven clean may.
    let made = stored_install g.K.Store slot 5 p initial 8 (lit< tt) (ap (λ (k : ℕ). k + 1) seven) w in
    (made.0, made.1, found_as g.K.Store slot 5 (Installed p initial) w found clean may 5 (lit< tt) ∙ made.2)

pub returns-clause-commit : goal.returns-clause-commit
returns-clause-commit g c = λ slot commit p w found seven had clean may.
    found_as g.K.Store slot 5 (Committed commit) w found clean may 5 (lit< tt) ∙ stored_commit g.K.Store slot 5 commit 8 (lit< tt) (ap (λ (k : ℕ). k + 1) seven) w
    ∙ ap (λ (o : Option StoredProgram). record { serial = 8; program = with_stored_vars commit.after o }) had

pub returns-clause-lost : goal.returns-clause-lost
returns-clause-lost g c = λ slot commit w found seven had clean may.
    found_as g.K.Store slot 5 (Committed commit) w found clean may 5 (lit< tt) ∙ stored_commit g.K.Store slot 5 commit 8 (lit< tt) (ap (λ (k : ℕ). k + 1) seven) w
    ∙ ap (λ (o : Option StoredProgram). record { serial = 8; program = with_stored_vars commit.after o }) had

pub returns-clause-others : goal.returns-clause-others
returns-clause-others g c = λ slot change n w found clean may lt other.
    found_as g.K.Store slot 5 change w found clean may n lt ∙ stored_other g.K.Store slot 5 change n lt other w

pub returns-clause-refused : goal.returns-clause-refused
returns-clause-refused g c = λ slot change w found clean may. w.saves.saves.crash w.saves.ready clean found may
