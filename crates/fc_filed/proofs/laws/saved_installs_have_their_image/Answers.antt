use Rattle.std.specs.Prelude.{nat_lt}
use Rattle.std.proofs.Common.{◌≡◌, ◌∙◌, ℕ, ◌+◌, ◌%◌, Bool, true, false, List, [], ◌∷◌, Option, None, Some, refl, sym, ap, subst, length, arith}
use Rattle.std.specs.Borrow.{Bor}
use Rattle.std.proofs.lemmas.List.{get_or-set_same}
use Rattle.fc_kinds.specs.Meaning.{Program}
use Rattle.fc_store.specs.declared.store.ProgramUpdate.TheVariants as saves
use Rattle.fc_store.specs.declared.store.SlotUpdate.{SlotUpdate}
use Rattle.fc_verify.specs.Accepted.{Accepts}
use Rattle.fc_verify.specs.Judged.{judged}
use Rattle.fc_ticket.specs.declared.job.Job.{Job}
use Rattle.fc_registry.specs.declared.shard.Made.{Made}
use Rattle.fc_ticket.specs.Runs.{initial_vars_of}
use Rattle.fc_registry.specs.Calls.{install_in, put_by}
use Rattle.fc_registry.specs.Changes.{Change, Installed, Committed, Removed, after_changes, changed}
use Rattle.fc_registry.specs.Plans.{IsUpdateOf, SavesImage}
use Rattle.fc_ticket.specs.declared.job.InitialVars.{InitialVars}
use Rattle.fc_ticket.specs.Tickets.{Present}
use Rattle.fc_registry.specs.Slots.{Shard, Slot, last_serial, new_slot, slot_in, with_slot}
use Rattle.fc_core.specs.Stages.{image_of}
use Rattle.fc_calls.specs.Doings.{InstallsTo}
use Rattle.fc_calls.specs.Kept.{HasEightSlots, slots_with}
use Rattle.fc_calls.specs.Logged.{InstallsProgram}
use Rattle.fc_store.specs.Recovery.{Save}
use Rattle.fc_linear.specs.Operations.{Logged, Operation, ShardDoes}
use Rattle.fc_filed.specs.Saves.{ChangesAsSaved, InstallsImageOfJob, MakesSaved, stored_save}
use Rattle.fc_filed.proofs.laws.saved_installs_have_their_image.Goals as goal

serial_after : (slot : Slot) (c : Change) → (changed slot c).serial ≡ slot.serial + 1
serial_after slot (Installed p v) = refl
serial_after slot (Committed c) = refl
serial_after slot Removed = refl

program_in : Program → Option Present → Program
program_in other (Some present) = present.program
program_in other None = other

-- the change of an install's update is the install that was made.
own_image : (b : Bool) (slot : Slot) (p : Program) (v : InitialVars) (c : Change) (image vars : Bor (List ℕ)) → after_changes slot (put_by b slot p v).changes ≡ changed slot c → IsUpdateOf slot c (saves.Install image vars) → SavesImage c (saves.Install image vars)
    → judged image.now ≡ Accepts p
unfolding program_in
own_image true slot p v (Installed q w) image vars same is saved = saved ∙ ap (λ (r : Program). Accepts r) (sym (ap (λ (s : Slot). program_in p s.present) same))
own_image true slot p v (Committed c) image vars same is saved = absurd is
own_image true slot p v Removed image vars same is saved = absurd is
own_image false slot p v c image vars same is saved = let n = ap (λ (s : Slot). s.serial) same ∙ serial_after slot c in absurd (omega (arith, n))

pub returns : goal.returns
returns c = λ e job p made serial image vars x y is accepted at eight saved steps.
    let u : SlotUpdate = record { slot = 13; serial = serial; program = saves.Install image vars } in
    let m : MakesSaved e.operation u x y = subst (λ (s : Option Save). ChangesAsSaved e.operation s x y) saved (steps.saved refl) in
    let does : InstallsTo job p x made y = subst (λ (o : Operation). ShardDoes o x y) is steps.does in
    let v = initial_vars_of job.ask in
    let slot = slot_in x 13 in
    let left = after_changes slot (install_in slot p v).changes in
    let slots : y.slots ≡ (with_slot x 13 left).slots =
    ap (λ (s : Shard). s.slots) does.1 ∙ ap (λ (n : ℕ). (with_slot x n (after_changes (slot_in x n) (install_in (slot_in x n) p v).changes)).slots) at in
    let here : slot_in y 13 ≡ left = ap (λ (ss : List Slot). slot_in (record x { slots = ss }) 13) slots ∙ get_or-set_same x.slots 1 left (new_slot 0) (omega (arith, eight)) in
    let there : slot_in y 13 ≡ changed slot m.change = ap (λ (ss : List Slot). slot_in (record x { slots = ss }) 13) m.made ∙ get_or-set_same x.slots 1 (changed slot m.change) (new_slot 0) (omega (arith, eight)) in
    let verified : InstallsImageOfJob e.operation = subst (λ (o : Operation). InstallsImageOfJob o) (sym is) accepted in
    own_image (nat_lt slot.serial last_serial) slot p v m.change image vars (sym here ∙ there) m.of.planned.2 (m.image verified)
