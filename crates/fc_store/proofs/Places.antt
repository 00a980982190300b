-- The stored slots after one element of the list was replaced.
use Rattle.std.proofs.Common.{◌≡◌, ℕ, ◌<◌, List, length, set, get_or, ap, sym, ◌∙◌, ⊎_elim}
use Rattle.std.specs.Prelude.{Bool, if◌then◌else◌}
use Rattle.std.proofs.lemmas.Bool.{cases_eq, eq-eqb, ne_eqb}
use Rattle.std.proofs.lemmas.List.{get_or-set_same, get_or-set_other, get_or_default}
use Rattle.fc_store.specs.Stored.{StoredSlot, blank_slot, stored_in}
use Rattle.fc_store.specs.Updates.{AreSameSlots, slot_after, slots_after}
use Rattle.fc_store.specs.declared.store.SlotUpdate.{SlotUpdate}

-- Replacing the element of the updated slot by its state after the update gives all slots after the
-- update.
pub places_written : (all : List StoredSlot) (k : ℕ) (p d : StoredSlot) (s : SlotUpdate) → k ≡ s.slot → k < length all → p ≡ slot_after s (get_or all k d) → AreSameSlots (stored_in (set all k p)) (slots_after s (stored_in all))
places_written all k p d s at lt is n few = ⊎_elim
    (λ (e : n ≡ k). ap (λ (j : ℕ). get_or (set all k p) j blank_slot) e
    ∙ get_or-set_same all k p blank_slot lt
    ∙ is
    ∙ ap (slot_after s) (get_or_default all k d blank_slot lt)
    ∙ ap (λ (j : ℕ). slot_after s (get_or all j blank_slot)) (sym e)
    ∙ ap (λ (b : Bool). if b then slot_after s (stored_in all n) else stored_in all n) (sym (eq-eqb n s.slot (e ∙ at))))
    (λ (ne : n ≡ k → ⊥). get_or-set_other all k n p blank_slot ne
    ∙ ap (λ (b : Bool). if b then slot_after s (stored_in all n) else stored_in all n) (sym (ne_eqb n s.slot (λ (e : n ≡ s.slot). ne (e ∙ sym at)))))
    (cases_eq n k)
