use Rattle.std.proofs.Common.{◌+◌, ℕ, ap, lit<, refl}
use Rattle.std.proofs.lemmas.Bool.{false≢true}
use Rattle.fc_store.specs.contracts.memory.MemoryStoreStore.TheImpl.{ghosts}
use Rattle.fc_store.specs.contracts.store.NoStoreStore.TheImpl as nothing
use Rattle.fc_locked.proofs.SavedSlots.{never_refuses, only_one, stored_commit, stored_install, stored_removal}
use Rattle.fc_locked.proofs.laws.changes_are_saved_in_memory.Goals as goal

pub returns-clause-removal : goal.returns-clause-removal
returns-clause-removal c = λ slot saved seven. stored_removal ghosts slot 5 8 (lit< tt) (ap (λ (k : ℕ). k + 1) seven) saved.1

pub returns-clause-install : goal.returns-clause-install
returns-clause-install c = λ slot p initial saved seven. stored_install ghosts slot 5 p initial 8 (lit< tt) (ap (λ (k : ℕ). k + 1) seven) saved.1

pub returns-clause-commit : goal.returns-clause-commit
returns-clause-commit c = λ slot commit saved seven. stored_commit ghosts slot 5 commit 8 (lit< tt) (ap (λ (k : ℕ). k + 1) seven) saved.1

pub returns-clause-refused : goal.returns-clause-refused
returns-clause-refused c = λ slot change saved. saved.1.saves.saves.stored

pub returns-clause-nothing : goal.returns-clause-nothing
returns-clause-nothing c = λ slot n saved. false≢true saved

pub returns-clause-one : goal.returns-clause-one
returns-clause-one c = λ slot n a b more saved. only_one ghosts slot n a b more refl saved

pub returns-clause-never : goal.returns-clause-never
returns-clause-never c = λ slot n change saved. never_refuses nothing.ghosts slot n change refl saved
