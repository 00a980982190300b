-- The changes that a call makes, by whether an update is planned for it, and an update's image.
use Rattle.std.proofs.Common.{◌≡◌, ℕ, ◌/◌, Bool, true, false, List, [], ◌∷◌, Option, Some, None, refl, sym, ap, ◌∙◌, arith, slice_set}
use Rattle.std.specs.Prelude.{nat_lt}
use Rattle.fc_kinds.specs.Meaning.{Program}
use Rattle.std.specs.Prelude.{if◌then◌else◌, is_some, IfSome}
use Rattle.std.proofs.lemmas.Bool.{false≢true}
use Rattle.fc_machine.specs.Ran.{Ran}
use Rattle.fc_observe.specs.Observers.{ObserverList}
use Rattle.fc_registry.specs.declared.commit.CommitOutcome.{CommitOutcome}
use Rattle.fc_registry.specs.declared.commit.CommitOutcome.TheVariants.{Writes, Keeps, Overtakes, Ends}
use Rattle.fc_registry.specs.declared.commit.Committed.{Committed}
use Rattle.fc_registry.specs.declared.commit.Committed.TheVariants.{Done, Overtaken, Ended, Stranger}
use Rattle.fc_ticket.specs.declared.job.InitialVars.{InitialVars}
use Rattle.fc_ticket.specs.declared.job.Job.{Job}
use Rattle.fc_registry.specs.declared.shard.Made.{Made}
use Rattle.fc_registry.specs.declared.shard.Removal.{Removal}
use Rattle.fc_registry.specs.Calls.{ComesTo, CommitsTo, IsCommit, IsOwn, IsOwnCommit, WouldWrite, clear_by, commit_of, commits, put_by, wants, wants_by}
use Rattle.fc_ticket.specs.Runs.{initial_vars_of}
use Rattle.fc_registry.specs.Changes.{Change, Committed as Wrote, Removed, after_changes}
use Rattle.fc_registry.specs.Changes as changes
use Rattle.fc_registry.specs.Plans.{HasImage, IsPlanned, IsUpdateOf}
use Rattle.fc_ticket.specs.Tickets.{Present, Ticket}
use Rattle.fc_registry.specs.Slots.{Shard, Slot, last_serial, slot_in}
use Rattle.fc_ticket.proofs.OwnRuns.{own_run}
use Rattle.fc_store.specs.declared.store.ProgramUpdate.{ProgramUpdate}
use Rattle.fc_store.specs.declared.store.ProgramUpdate.TheVariants as saves
use Rattle.fc_store.specs.declared.store.SlotUpdate.{SlotUpdate}
use Rattle.fc_core.specs.Steps.{Commits, Installs, Removes, changes_of_call}
use Rattle.fc_calls.specs.Doings.{InstallsTo, RemovesFrom}
use Rattle.fc_calls.specs.Kept.{HasOwnImage, slots_with}

module _ (ran : Ran) (t : Ticket) (slot : Slot) (v : ObserverList) where
  -- the changes of a commit with this result.
  abbrev changes_at : Committed → List Change
  changes_at c = changes_of_call (Commits 0 t c)

  wants_too : IsOwn ran t slot → wants_by ran ≡ wants t
  wants_too own = ap wants_by (own_run ran t slot.serial own.run)

  none_by : (o : CommitOutcome) → (WouldWrite ran t slot → ⊥) → IsOwn ran t slot → ComesTo t slot o → changes_at (commits o t slot.serial v).answer ≡ []
  none_by Writes none own is = absurd (none (wants_too own ∙ is.0, own, is))
  none_by Keeps none own is = refl
  none_by Overtakes none own is = refl
  none_by Ends none own is = refl

  own_none : (c : Committed) (after : Slot) → (WouldWrite ran t slot → ⊥) → IsOwnCommit ran t slot v c after → changes_at c ≡ []
  own_none c after none w = ap changes_at w.1.answer ∙ none_by w.1.comes_to none w.0 w.1.is

  none_made : (c : Committed) (after : Slot) → (WouldWrite ran t slot → ⊥) → IsCommit ran t slot v c after → changes_at c ≡ []
  none_made Stranger after none w = refl
  none_made (Done m) after none w = own_none (Done m) after none w
  none_made Overtaken after none w = refl
  none_made Ended after none w = refl

  one_by : (o : CommitOutcome) → WouldWrite ran t slot → ComesTo t slot o → changes_at (commits o t slot.serial v).answer ≡ Wrote (commit_of t) ∷ []
  one_by Writes would is = refl
  one_by Keeps would is = absurd (false≢true (sym is ∙ would.2.0))
  one_by Overtakes would is = absurd (is.1 would.2.1)
  one_by Ends would is = absurd (let below = would.2.2 in let above = is.2 in omega (arith, below, above))

  own_made : (c : Committed) (after : Slot) → WouldWrite ran t slot → IsOwnCommit ran t slot v c after → changes_at c ≡ Wrote (commit_of t) ∷ []
  own_made c after would w = ap changes_at w.1.answer ∙ one_by w.1.comes_to would w.1.is

  one_made : (c : Committed) (after : Slot) → WouldWrite ran t slot → IsCommit ran t slot v c after → changes_at c ≡ Wrote (commit_of t) ∷ []
  one_made Stranger after would w = absurd (w.stranger would.1)
  one_made (Done m) after would w = own_made (Done m) after would w
  one_made Overtaken after would w = own_made Overtaken after would w
  one_made Ended after would w = own_made Ended after would w

  -- a commit makes its change if an update is planned for it, and else none.
  pub commit_made : (plan : Option SlotUpdate) (c : Committed) (after : Slot) → (plan ≡ None → WouldWrite ran t slot → ⊥) → IfSome plan (λ _. WouldWrite ran t slot) → IsCommit ran t slot v c after
      → changes_at c ≡ (if is_some plan then Wrote (commit_of t) ∷ [] else [])
  commit_made None c after none would w = none_made c after (none refl) w
  commit_made (Some u) c after none would w = one_made c after would w

  -- ---- the slot after a commit

  after_by : (o : CommitOutcome) → after_changes slot (commits o t slot.serial v).changes ≡ after_changes slot (changes_at (commits o t slot.serial v).answer)
  after_by Writes = refl
  after_by Keeps = refl
  after_by Overtakes = refl
  after_by Ends = refl

  own_after : (c : Committed) (after : Slot) → IsOwnCommit ran t slot v c after → after ≡ after_changes slot (changes_at c)
  own_after c after w = w.1.after_is ∙ (after_by w.1.comes_to ∙ ap (λ (a : Committed). after_changes slot (changes_at a)) (sym w.1.answer))

  pub commit_after : (c : Committed) (after : Slot) → IsCommit ran t slot v c after → after ≡ after_changes slot (changes_at c)
  commit_after Stranger after w = w.after_is
  commit_after (Done m) after w = own_after (Done m) after w
  commit_after Overtaken after w = own_after Overtaken after w
  commit_after Ended after w = own_after Ended after w

-- ---- the slots after a call

pub commit_slots : (ran : Ran) (t : Ticket) (x : Shard) (now : ℕ) (c : Committed) (y : Shard) → CommitsTo ran t x now c y → y.slots ≡ slots_with x t.origin.slot (changes_of_call (Commits 0 t c))
commit_slots ran t x now c y d = ap (λ (s : Shard). s.slots) d.shard ∙ ap (λ (s : Slot). slice_set x.slots (t.origin.slot / 8) s) (commit_after ran t (slot_in x t.origin.slot) _ c d.after d.commit)

put_changes : (b : Bool) (slot : Slot) (p : Program) (v : InitialVars) → (put_by b slot p v).changes ≡ changes_of_call (Installs p v (put_by b slot p v).answer)
put_changes true slot p v = refl
put_changes false slot p v = refl

pub install_slots : (job : Job) (p : Program) (x : Shard) (made : Made) (y : Shard) → InstallsTo job p x made y → y.slots ≡ slots_with x job.origin.slot (changes_of_call (Installs p (initial_vars_of job.ask) made))
install_slots job p x made y d =
    let n = job.origin.slot in
    let slot = slot_in x n in
    let v = initial_vars_of job.ask in
    ap (λ (s : Shard). s.slots) d.1 ∙ (ap (λ (cs : List Change). slots_with x n cs) (put_changes (nat_lt slot.serial last_serial) slot p v) ∙ ap (λ (a : Made). slots_with x n (changes_of_call (Installs p v a))) (sym d.0))

clear_changes : (b : Bool) (serial : ℕ) (p : Option Present) → (clear_by b serial p).changes ≡ changes_of_call (Removes (clear_by b serial p).answer)
clear_changes b serial None = refl
clear_changes true serial (Some p) = refl
clear_changes false serial (Some p) = refl

pub removal_slots : (job : Job) (x : Shard) (removal : Removal) (y : Shard) → RemovesFrom job x removal y → y.slots ≡ slots_with x job.origin.slot (changes_of_call (Removes removal))
removal_slots job x removal y d =
    let n = job.origin.slot in
    let slot = slot_in x n in
    ap (λ (s : Shard). s.slots) d.1 ∙ (ap (λ (cs : List Change). slots_with x n cs) (clear_changes (nat_lt slot.serial last_serial) slot.serial slot.present) ∙ ap (λ (a : Removal). slots_with x n (changes_of_call (Removes a))) (sym d.0))

-- ---- images

own_by : (image : List ℕ) (p : ProgramUpdate) → HasImage image p → HasOwnImage image p
own_by image (saves.Install own vars) has = has
own_by image (saves.Commit vars) has = tt
own_by image saves.Remove has = tt

-- the update of an install has the image for which it was planned.
pub own_image : (image : List ℕ) (plan : Option SlotUpdate) → IfSome plan (λ u. HasImage image u.program) → IfSome plan (λ u. HasOwnImage image u.program)
own_image image None has = tt
own_image image (Some u) has = own_by image u.program has

no_install : (slot : Slot) (c : changes.Commit) (p : ProgramUpdate) → IsUpdateOf slot (Wrote c) p → HasOwnImage [] p
no_install slot c (saves.Install own vars) is = absurd is
no_install slot c (saves.Commit vars) is = tt
no_install slot c saves.Remove is = tt

-- the update of a commit is that of no install.
pub commit_image : (slot : Slot) (n : ℕ) (c : changes.Commit) (plan : Option SlotUpdate) → IfSome plan (λ u. IsPlanned slot n (Wrote c) u) → IfSome plan (λ u. HasOwnImage [] u.program)
commit_image slot n c None is = tt
commit_image slot n c (Some u) is = no_install slot c u.program is.2

no_install_removed : (slot : Slot) (p : ProgramUpdate) → IsUpdateOf slot Removed p → HasOwnImage [] p
no_install_removed slot (saves.Install own vars) is = absurd is
no_install_removed slot (saves.Commit vars) is = tt
no_install_removed slot saves.Remove is = tt

-- the update of a removal is that of no install.
pub removal_image : (slot : Slot) (n : ℕ) (plan : Option SlotUpdate) → IfSome plan (λ u. IsPlanned slot n Removed u) → IfSome plan (λ u. HasOwnImage [] u.program)
removal_image slot n None is = tt
removal_image slot n (Some u) is = no_install_removed slot u.program is.2
