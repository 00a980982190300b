-- A start begins above each serial that was saved before it.
use Rattle.std.proofs.Common.{◌≡◌, ◌<◌, ◌≤◌, ℕ, Bool, true, false, List, [], ◌∷◌, Option, ⊎_elim, if◌then◌else◌, refl, sym, ap, subst, arith}
use Rattle.std.proofs.lemmas.Bool.{eqb-true}
use Rattle.std.specs.Prelude.{◌==◌}
use Rattle.fc_store.specs.declared.store.SlotUpdate.{SlotUpdate}
use Rattle.fc_store.specs.declared.store.Store.{Ghosts}
use Rattle.fc_store.specs.Stored.{StoredProgram, StoredSlot, StoredSlots, stored_in}
use Rattle.fc_store.specs.Updates.{AreSameSlots, slot_after, slots_after}
use Rattle.fc_registry.specs.Slots.{last_serial}
use Rattle.fc_store.specs.Recovery.{HasRefusedUpdate, MayBeFound, Save, SavesAll, stored_after}
use Rattle.fc_store.specs.Saves.{SavesBy, SavesUpdate}
use Rattle.fc_store.proofs.Recovery.{found_are, stored_are}
use Rattle.fc_service.specs.Serials.{serial_over}
use Rattle.fc_service.specs.Starting.{AreRising, SavesSerial}
use Rattle.fc_service.proofs.FirstSerials.{starts_above_from}

-- an update that doesn't lower its slot's serial lowers no serial.
raised_by : (u : SlotUpdate) (slots : StoredSlots) → (slots u.slot).serial ≤ u.serial → (n : ℕ)
    → (slots n).serial ≤ (slots_after u slots n).serial
raised_by u slots rises n = chosen (n == u.slot) refl
  where
    chosen : (b : Bool) → (n == u.slot) ≡ b → (slots n).serial ≤ (if b then slot_after u (slots n) else slots n).serial
    chosen true is = subst (λ (m : ℕ). (slots m).serial ≤ u.serial) (sym (eqb-true n u.slot is)) rises
    chosen false is = omega (arith)

stored_rise : (saves : List Save) (slots : StoredSlots) → AreRising saves slots → (n : ℕ)
    → (slots n).serial ≤ (stored_after saves slots n).serial
stored_rise [] slots rising n = omega (arith)
stored_rise (s ∷ earlier) slots rising n = next s.is_stored (stored_rise earlier slots rising.0 n)
  where
    next : (b : Bool) → (slots n).serial ≤ (stored_after earlier slots n).serial
        → (slots n).serial ≤ ((if b then slots_after s.update (stored_after earlier slots) else stored_after earlier slots) n).serial
    next true before = let by = raised_by s.update (stored_after earlier slots) rising.1 n in omega (arith, before, by)
    next false before = before

-- a refused update that is found lowers no serial either.
refused_rise : (saves : List Save) (slots found : StoredSlots) → AreRising saves slots → HasRefusedUpdate saves slots found
    → (n : ℕ) → n < 64 → (stored_after saves slots n).serial ≤ (found n).serial
refused_rise [] slots found rising has n below = absurd has
refused_rise (s ∷ earlier) slots found rising has n below =
    subst (λ (b : Bool). ((if b then slots_after s.update (stored_after earlier slots) else stored_after earlier slots) n).serial ≤ (found n).serial) (sym has.0)
    (⊎_elim
    (λ (same : AreSameSlots found (slots_after s.update (stored_after earlier slots))).
    subst (λ (k : StoredSlot). (stored_after earlier slots n).serial ≤ k.serial) (sym (same n below)) (raised_by s.update (stored_after earlier slots) rising.1 n))
    (λ (refused : HasRefusedUpdate earlier slots found). refused_rise earlier slots found rising.0 refused n below)
    has.1)

found_rise : (saves : List Save) (slots found : StoredSlots) → AreRising saves slots → MayBeFound saves slots found
    → (n : ℕ) → n < 64 → (stored_after saves slots n).serial ≤ (found n).serial
found_rise saves slots found rising may n below = ⊎_elim
    (λ (same : AreSameSlots found (stored_after saves slots)). subst (λ (k : StoredSlot). (stored_after saves slots n).serial ≤ k.serial) (sym (same n below)) (omega (arith)))
    (λ (refused : HasRefusedUpdate saves slots found). refused_rise saves slots found rising refused n below)
    may

-- a start that saves its serial, further saves, and the slots that a later start finds.
module _ {S : Type 0} (g : Ghosts S) (ms serial : ℕ) (program : Option StoredProgram) (old new last : S) (saves : List Save) (found : StoredSlots) (stored : List StoredSlot)
    (persistent : g.persistent ≡ true) (ready : g.is_ready old) (s : SavesSerial g serial program true old new)
    (all : SavesAll g saves new last) (rising : AreRising saves (g.stored new)) (clean : g.is_clean last)
    (may : g.may_recover last found) (same : AreSameSlots (stored_in stored) found) where
  saved : SavesUpdate g (record { slot = 0; serial = serial; program = s.update }) true old new
  saved = subst (λ (p : Bool). SavesBy g p (record { slot = 0; serial = serial; program = s.update }) true old new) persistent s.saves

  found_as : MayBeFound saves (g.stored new) found
  found_as = found_are g saves new last all (saved.ready ready) (λ kept. saved.durable ready kept refl) clean found may

  -- no stored serial is above the one that is found.
  found_above : (n : ℕ) → n < 64 → (stored_after saves (g.stored new) n).serial ≤ (stored_in stored n).serial
  found_above n below = subst (λ (k : StoredSlot). (stored_after saves (g.stored new) n).serial ≤ k.serial) (sym (same n below)) (found_rise saves (g.stored new) found rising found_as n below)

  pub above_changes : (n : ℕ) → n < 64 → (g.stored last n).serial < last_serial → (g.stored last n).serial < serial_over ms stored
  above_changes n below low =
      starts_above_from ms n (g.stored last n).serial stored
      (subst (λ (k : StoredSlot). k.serial ≤ (stored_in stored n).serial) (sym (stored_are g saves new last all n below)) (found_above n below)) low

  pub above_start : serial < last_serial → serial < serial_over ms stored
  above_start low =
      let is = ap (λ (k : StoredSlot). k.serial) (saved.stored 0 (omega (arith))) in
      let rose = stored_rise saves (g.stored new) rising 0 in
      let over = found_above 0 (omega (arith)) in
      starts_above_from ms 0 serial stored (omega (arith, is, rose, over)) low
