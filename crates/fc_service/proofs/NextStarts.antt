-- A start over what a crash leaves begins with the programs of the history.
use Rattle.std.proofs.Common.{◌≡◌, ◌⊎◌, ◌<◌, ℕ, Bool, true, false, List, [], ◌∷◌, Option, Some, None, inl, inr, ⊎_elim, if◌then◌else◌, refl, sym, ap, ◌∙◌, subst}
use Rattle.std.proofs.lemmas.Bool.{eqb-true}
use Rattle.std.specs.Prelude.{◌==◌}
use Rattle.fc_store.specs.declared.store.SlotUpdate.{SlotUpdate}
use Rattle.fc_store.specs.declared.store.Store.{Ghosts}
use Rattle.fc_store.specs.Recovery.{HasRefusedUpdate, Save, stored_after}
use Rattle.fc_store.specs.Stored.{StoredProgram, StoredSlot, StoredSlots}
use Rattle.fc_store.specs.Updates.{AreSameSlots, program_after, slot_after, slots_after}
use Rattle.fc_registry.specs.Plans.{IsStoredOf, IsStoredProgram}
use Rattle.fc_registry.specs.Shards.{slot_in_shards}
use Rattle.fc_ticket.specs.Tickets.{Present}
use Rattle.fc_registry.specs.Slots.{Slot}
use Rattle.fc_core.specs.History.{History, seen, slot_at}
use Rattle.fc_server.specs.States.{ServerState}
use Rattle.fc_filed.specs.declared.entry.FiledEntry.{FiledEntry}
use Rattle.fc_filed.specs.Recovered.{AreStoredAtFirst, FindsHistory, saves_of}
use Rattle.fc_service.specs.Starting.{IsRestoredFrom, RefusesSlot}
use Rattle.fc_service.proofs.FirstSerials.{restored_are_stored}

-- a stored program is that of one program in a slot, with one version and with its variables.
one_present : (a b : Option Present) (k : Option StoredProgram) → IsStoredProgram a k → IsStoredProgram b k → a ≡ b
one_present None None None x y = refl
one_present None None (Some k) x y = absurd x
one_present None (Some b) None x y = absurd y
one_present None (Some b) (Some k) x y = absurd x
one_present (Some a) None None x y = absurd x
one_present (Some a) None (Some k) x y = absurd y
one_present (Some a) (Some b) None x y = absurd x
one_present (Some a) (Some b) (Some k) x y =
    let judged_a = x.0 in
    let judged_b = y.0 in
    let program : a.program ≡ b.program = cc in
    let version = sym x.1 ∙ y.1 in
    let vars = sym x.2 ∙ y.2 in
    λ i. Some (record { program = program i; version = version i; vars = vars i })

-- ---- saves of slots with the same programs

same_after : (u : SlotUpdate) (xs ys : StoredSlots) (n : ℕ) → (xs n).program ≡ (ys n).program → (slots_after u xs n).program ≡ (slots_after u ys n).program
same_after u xs ys n is = chosen (n == u.slot)
  where
    chosen : (b : Bool) → (if b then slot_after u (xs n) else xs n).program ≡ (if b then slot_after u (ys n) else ys n).program
    chosen true = ap (program_after u.serial u.program) is
    chosen false = is

same_stored : (saves : List Save) (xs ys : StoredSlots) (n : ℕ) → (xs n).program ≡ (ys n).program
    → (stored_after saves xs n).program ≡ (stored_after saves ys n).program
same_stored [] xs ys n is = is
same_stored (s ∷ earlier) xs ys n is = next s.is_stored (same_stored earlier xs ys n is)
  where
    next : (b : Bool) → (stored_after earlier xs n).program ≡ (stored_after earlier ys n).program
        → ((if b then slots_after s.update (stored_after earlier xs) else stored_after earlier xs) n).program
        ≡ ((if b then slots_after s.update (stored_after earlier ys) else stored_after earlier ys) n).program
    next true before = same_after s.update (stored_after earlier xs) (stored_after earlier ys) n before
    next false before = before

-- ---- a refused update

-- the program that is found is the stored one, or an update of its slot was refused.
found_or_refused : (saves : List Save) (slots found : StoredSlots) (n : ℕ) → n < 64 → HasRefusedUpdate saves slots found
    → ((found n).program ≡ (stored_after saves slots n).program) ⊎ RefusesSlot saves n
found_or_refused [] slots found n low has = absurd has
found_or_refused (s ∷ earlier) slots found n low has =
    subst (λ (b : Bool). ((found n).program ≡ ((if b then slots_after s.update (stored_after earlier slots) else stored_after earlier slots) n).program) ⊎ RefusesSlot (s ∷ earlier) n)
    (sym has.0)
    (⊎_elim
    (λ (now : AreSameSlots found (slots_after s.update (stored_after earlier slots))). last (n == s.update.slot) refl (ap (λ (k : StoredSlot). k.program) (now n low)))
    (λ (was : HasRefusedUpdate earlier slots found). ⊎_elim
    (λ (is : (found n).program ≡ (stored_after earlier slots n).program). inl is)
    (λ (refused : RefusesSlot earlier n). inr (inr refused))
    (found_or_refused earlier slots found n low was))
    has.1)
  where
    last : (b : Bool) → (n == s.update.slot) ≡ b → (found n).program ≡ (if b then slot_after s.update (stored_after earlier slots n) else stored_after earlier slots n).program
        → ((found n).program ≡ (stored_after earlier slots n).program) ⊎ RefusesSlot (s ∷ earlier) n
    last true is now = inr (inl (has.0, sym (eqb-true n s.update.slot is)))
    last false is now = inl now

-- ---- the next start

module _ {S : Type 0} (g : Ghosts S) (first next : ServerState) (stored found : StoredSlots) (opened closed : S) (calls later : List FiledEntry) (h : History)
    (finds : FindsHistory g first stored opened closed calls later h) (begun : AreStoredAtFirst first stored)
    (clean : g.is_clean finds.store) (may : g.may_recover finds.store found) (restored : IsRestoredFrom found next) (n : ℕ) (low : n < 64) where
  history_stored : IsStoredProgram (slot_at (seen h) n).present (stored_after (saves_of calls) stored n).program
  history_stored = ⊎_elim
      (λ (is : IsStoredOf (slot_at (seen h) n) (stored_after (saves_of calls) stored n)). is.1)
      (λ (is : (slot_at (seen h) n ≡ slot_in_shards first.shards n) × (stored_after (saves_of calls) stored n ≡ stored n)).
      subst (λ (s : Slot). IsStoredProgram s.present (stored_after (saves_of calls) stored n).program) (sym is.0)
      (subst (λ (k : StoredSlot). IsStoredProgram (slot_in_shards first.shards n).present k.program) (sym is.1) (begun n low)))
      (finds.slots n low)

  same_present : (found n).program ≡ (stored_after (saves_of calls) stored n).program → (slot_in_shards next.shards n).present ≡ (slot_at (seen h) n).present
  same_present is =
      one_present (slot_in_shards next.shards n).present (slot_at (seen h) n).present (found n).program (restored_are_stored found next restored n low)
      (subst (IsStoredProgram (slot_at (seen h) n).present) (sym is) history_stored)

  pub begins_as_served : ((slot_in_shards next.shards n).present ≡ (slot_at (seen h) n).present) ⊎ RefusesSlot (saves_of calls) n
  begins_as_served =
      let w = finds.found clean found may in
      let raised = same_stored (saves_of calls) w.0 stored n (w.1 n low).0 in
      ⊎_elim
      (λ (same : AreSameSlots found (stored_after (saves_of calls) w.0)). inl (same_present (ap (λ (k : StoredSlot). k.program) (same n low) ∙ raised)))
      (λ (has : HasRefusedUpdate (saves_of calls) w.0 found). ⊎_elim
      (λ (is : (found n).program ≡ (stored_after (saves_of calls) w.0 n).program). inl (same_present (is ∙ raised)))
      (λ (refused : RefusesSlot (saves_of calls) n). inr refused)
      (found_or_refused (saves_of calls) w.0 found n low has))
      w.2
