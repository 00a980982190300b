use Rattle.std.proofs.Common.{◌≡◌, ◌∙◌, ℕ, ◌+◌, ◌/◌, Bool, true, List, [], ◌∷◌, Option, Some, None, refl, sym, ap, subst, length, arith}
use Rattle.std.proofs.lemmas.List.{get_or-set_other, get_or-set_same}
use Rattle.fc_store.specs.declared.store.ProgramUpdate.{ProgramUpdate}
use Rattle.fc_store.specs.declared.store.ProgramUpdate.TheVariants as saves
use Rattle.fc_store.specs.declared.store.SlotUpdate.{SlotUpdate}
use Rattle.fc_registry.specs.Changes.{Change, Installed, Committed, Removed, changed}
use Rattle.fc_registry.specs.Plans.{IsUpdateOf}
use Rattle.fc_registry.specs.Slots.{Shard, Slot, new_slot, slot_in}
use Rattle.fc_calls.specs.Kept.{HasEightSlots, slots_with}
use Rattle.fc_store.specs.Recovery.{Save}
use Rattle.fc_filed.specs.declared.entry.FiledEntry.{FiledEntry}
use Rattle.fc_filed.specs.Saves.{ChangesAsSaved, LeavesUnmade, MakesSaved, ShardSteps, refused_save, stored_save}
use Rattle.fc_filed.proofs.laws.changes_of_slots_are_saved.Goals as goal

-- what an entry with this save does to the shard.
as_saved : (e : FiledEntry) (save : Option Save) (x y : Shard) → e.save ≡ save → ShardSteps true e x y → ChangesAsSaved e.operation save x y
as_saved e save x y is steps = subst (λ (s : Option Save). ChangesAsSaved e.operation s x y) is (steps.saved refl)

serial_after : (slot : Slot) (c : Change) → (changed slot c).serial ≡ slot.serial + 1
serial_after slot (Installed p v) = refl
serial_after slot (Committed c) = refl
serial_after slot Removed = refl

empty_after : (slot : Slot) (c : Change) → IsUpdateOf slot c saves.Remove → (changed slot c).present ≡ None
empty_after slot (Installed p v) is = absurd is
empty_after slot (Committed c) is = absurd is
empty_after slot Removed is = refl

-- slot 13 is at place 1 of its shard's slots, and slot 5 at place 0.
module _ (x y : Shard) (c : Change) (eight : HasEightSlots x) (made : y.slots ≡ slots_with x 13 (c ∷ [])) where
  changed_here : slot_in y 13 ≡ changed (slot_in x 13) c
  changed_here = ap (λ (slots : List Slot). slot_in (record x { slots = slots }) 13) made ∙ get_or-set_same x.slots 1 (changed (slot_in x 13) c) (new_slot 0) (omega (arith, eight))

  same_there : slot_in y 5 ≡ slot_in x 5
  same_there = ap (λ (slots : List Slot). slot_in (record x { slots = slots }) 5) made ∙ get_or-set_other x.slots 1 0 (changed (slot_in x 13) c) (new_slot 0) (λ e. omega (arith, e))

pub returns-clause-unsaved : goal.returns-clause-unsaved
returns-clause-unsaved c = λ e x y is steps. as_saved e None x y is steps

pub returns-clause-refused : goal.returns-clause-refused
returns-clause-refused c = λ e u x y is steps. let left : LeavesUnmade e.operation u x y = as_saved e (Some (refused_save u)) x y is steps in (left.unmade, left.refusal)

pub returns-clause-refusal : goal.returns-clause-refusal
returns-clause-refusal c = λ e u x y is steps. steps.refused u is

pub returns-clause-next : goal.returns-clause-next
returns-clause-next c = λ e u x y is at serial eight steps.
    let m : MakesSaved e.operation u x y = as_saved e (Some (stored_save u)) x y is steps in
    let made : y.slots ≡ slots_with x 13 (m.change ∷ []) = subst (λ (n : ℕ). y.slots ≡ slots_with x n (m.change ∷ [])) at m.made in
    let told : u.serial ≡ (slot_in x 13).serial + 1 = subst (λ (n : ℕ). u.serial ≡ (slot_in x n).serial + 1) at m.of.planned.1 in (
      told ∙ ap (λ (n : ℕ). n + 1) serial,
      ap (λ (s : Slot). s.serial) (changed_here x y m.change eight made) ∙ (serial_after (slot_in x 13) m.change ∙ ap (λ (n : ℕ). n + 1) serial),
      same_there x y m.change eight made,
    )

pub returns-clause-removed : goal.returns-clause-removed
returns-clause-removed c = λ e x y is eight steps.
    let u : SlotUpdate = record { slot = 13; serial = 8; program = saves.Remove } in
    let m : MakesSaved e.operation u x y = as_saved e (Some (stored_save u)) x y is steps in
    ap (λ (s : Slot). s.present) (changed_here x y m.change eight m.made) ∙ empty_after (slot_in x 13) m.change m.of.planned.2

pub returns-clause-none : goal.returns-clause-none
returns-clause-none c = λ e s x y is steps. absurd (cc (sym is ∙ steps.unsaved refl))
