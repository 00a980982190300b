-- The slots that a start finds after many saves, by induction on the list of saves.
use Rattle.std.proofs.Common.{Bool, true, false, List, [], ◌∷◌, inl, inr, refl, sym, ap, ◌∙◌, subst, ⊎_elim, if◌then◌else◌}
use Rattle.std.specs.Prelude.{◌==◌}
use Rattle.fc_store.specs.declared.store.SlotUpdate.{SlotUpdate}
use Rattle.fc_store.specs.declared.store.Store.{Ghosts}
use Rattle.fc_store.specs.Stored.{StoredSlot, StoredSlots}
use Rattle.fc_store.specs.Updates.{AreSameSlots, slot_after, slots_after}
use Rattle.fc_store.specs.Saves.{FindsStored, SavesUpdate}
use Rattle.fc_store.specs.Recovery.{HasRefusedUpdate, MayBeFound, Save, SavesAll, stored_after}

-- equal slots are equal after a save.
after_same : (b : Bool) (u : SlotUpdate) (xs ys : StoredSlots) → AreSameSlots xs ys →
    AreSameSlots (if b then slots_after u xs else xs) (if b then slots_after u ys else ys)
after_same true u xs ys same n lt =
    ap (λ (x : StoredSlot). if n == u.slot then slot_after u x else x) (same n lt)
after_same false u xs ys same n lt = same n lt

module _ {S : Type 0} (g : Ghosts S) where
  pub stored_are : (saves : List Save) (first last : S) → SavesAll g saves first last →
      AreSameSlots (g.stored last) (stored_after saves (g.stored first))
  stored_are [] first last is n lt = ap (λ (x : S). g.stored x n) is
  stored_are (s ∷ earlier) first last w n lt =
      w.2.stored n lt
      ∙ after_same s.is_stored s.update (g.stored w.0) (stored_after earlier (g.stored first))
      (stored_are earlier first w.0 w.1) n lt

  pub stays_ready : (saves : List Save) (first last : S) → SavesAll g saves first last →
      g.is_ready first → g.is_ready last
  stays_ready [] first last is ready = subst g.is_ready (sym is) ready
  stays_ready (s ∷ earlier) first last w ready =
      w.2.ready (stays_ready earlier first w.0 w.1 ready)

  -- the slots that a start finds after one more save.
  found_next : (b : Bool) (u : SlotUpdate) (earlier : List Save) (slots : StoredSlots) (old new : S)
      → SavesUpdate g u b old new → g.is_ready old → g.is_clean new
      → AreSameSlots (g.stored old) (stored_after earlier slots)
      → ((found : StoredSlots) → g.may_recover old found → MayBeFound earlier slots found)
      → (found : StoredSlots) → g.may_recover new found
      → MayBeFound (record { update = u; is_stored = b } ∷ earlier) slots found
  found_next true u earlier slots old new saved ready clean same before found may =
      inl (λ n lt. saved.durable ready clean refl found may n lt
      ∙ saved.stored n lt
      ∙ after_same true u (g.stored old) (stored_after earlier slots) same n lt)
  found_next false u earlier slots old new saved ready clean same before found may = ⊎_elim
      (λ (was : g.may_recover old found). ⊎_elim
      (λ (stored : AreSameSlots found (stored_after earlier slots)). inl stored)
      (λ (refused : HasRefusedUpdate earlier slots found). inr (refl, inr refused))
      (before found was))
      (λ (now : AreSameSlots found (slots_after u (g.stored old))).
      inr (
        refl,
        inl (λ n lt. now n lt
            ∙ after_same true u (g.stored old) (stored_after earlier slots) same n lt),
      ))
      (saved.crash ready clean found may)

  pub found_are : (saves : List Save) (first last : S) → SavesAll g saves first last →
      g.is_ready first → (g.is_clean first → FindsStored g first) → g.is_clean last →
      (found : StoredSlots) → g.may_recover last found → MayBeFound saves (g.stored first) found
  found_are [] first last is ready settled clean found may =
      inl (settled (subst g.is_clean is clean) found (subst (λ (x : S). g.may_recover x found) is
      may))
  found_are (s ∷ earlier) first last w ready settled clean found may =
      found_next s.is_stored s.update earlier (g.stored first) w.0 last w.2
      (stays_ready earlier first w.0 w.1 ready) clean (stored_are earlier first w.0 w.1)
      (found_are earlier first w.0 w.1 ready settled (w.2.clean clean)) found may
