-- The first serial of a start over stored slots, and the slots after it is saved.
use Rattle.std.proofs.Common.{◌≡◌, ◌+◌, ◌*◌, ◌/◌, ◌%◌, ◌<◌, ◌≤◌, ℕ, zero, suc, Bool, true, false, List, [], ◌∷◌, Option, Some, None, Result, Ok, Err, IfOk, OnOk, if◌then◌else◌, ⊎_elim, get_or, length, fold, map, max, min, refl, sym, ap, ◌∙◌, subst, arith}
use Rattle.std.proofs.Math.Dec.{eqb-suc-zero}
use Rattle.std.proofs.lemmas.List.FromFn.{get_or-map-range_with_len}
use Rattle.std.specs.Prelude.{◌==◌}
use Rattle.fc_store.specs.declared.store.SlotUpdate.{SlotUpdate}
use Rattle.fc_store.specs.declared.store.Store.{Ghosts}
use Rattle.fc_store.specs.Stored.{StoredProgram, StoredSlot, StoredSlots, stored_in}
use Rattle.fc_store.specs.Updates.{AreSameSlots, IsStoredIf, program_after, slot_after, slots_after}
use Rattle.fc_registry.specs.Plans.{IsStoredProgram}
use Rattle.fc_registry.specs.Restored.{at_least, present_if, restored_present, restored_slot}
use Rattle.fc_registry.specs.Shards.{no_shard, slot_in_shards}
use Rattle.fc_registry.specs.Slots.{Shard, Slot, last_serial, new_slot, slot_in}
use Rattle.fc_registry.specs.Starts.{CanRestore, CanRestoreProgram, shard_over, shards_over}
use Rattle.fc_front.specs.declared.policy.Policy.{Policy}
use Rattle.fc_store.specs.Saves.{FindsStored, SavesBy, SavesUpdate}
use Rattle.fc_filed.specs.Recovered.{AreStoredAtFirst}
use Rattle.fc_filed.specs.Saves.{AreRaised, FindsRaised}
use Rattle.fc_filed.proofs.Saving.{same_raised, stored_raised}
use Rattle.fc_server.specs.States.{ServerState, server_over}
use Rattle.fc_service.specs.Serials.{greatest_serial, raised_slots, serial_of_start, serial_over}
use Rattle.fc_service.specs.Starting.{IsRestoredFrom, SavesSerial}

-- ---- the greatest serial

from_first : (a : ℕ) (stored : List StoredSlot) → a ≤ fold (λ greatest k. max greatest k.serial) a stored
from_first a [] = omega (arith)
from_first a (k ∷ ks) = let more = from_first (max a k.serial) ks in omega (arith, more)

from_each : (a n : ℕ) (stored : List StoredSlot) → (stored_in stored n).serial ≤ fold (λ greatest k. max greatest k.serial) a stored
from_each a n [] = omega (arith)
from_each a zero (k ∷ ks) = let more = from_first (max a k.serial) ks in omega (arith, more)
from_each a (suc n) (k ∷ ks) = from_each (max a k.serial) n ks

-- no stored serial is above the greatest one.
greatest_is : (n : ℕ) (stored : List StoredSlot) → (stored_in stored n).serial ≤ greatest_serial stored
greatest_is n stored = from_each 0 n stored

next_above : (start greatest serial last : ℕ) → serial ≤ greatest → serial < last → serial < max start (min (greatest + 1) last)
next_above start greatest serial last of below = omega (arith, of, below)

next_reached : (start greatest serial last : ℕ) → serial ≤ greatest → serial ≤ last → serial ≤ max start (min (greatest + 1) last)
next_reached start greatest serial last of below = omega (arith, of, below)

-- a start begins above each serial that some slot has reached, if it is below the last.
pub starts_above_from : (ms n serial : ℕ) (stored : List StoredSlot) → serial ≤ (stored_in stored n).serial → serial < last_serial → serial < serial_over ms stored
starts_above_from ms n serial stored reached below =
    let greatest = greatest_is n stored in
    next_above (serial_of_start ms) (greatest_serial stored) serial last_serial (omega (arith, reached, greatest)) below

pub starts_above : (ms n : ℕ) (stored : List StoredSlot) → (stored_in stored n).serial < last_serial → (stored_in stored n).serial < serial_over ms stored
starts_above ms n stored below = starts_above_from ms n (stored_in stored n).serial stored (omega (arith)) below

-- ---- the slots of a start

raised_in : (least n : ℕ) (stored : List StoredSlot) → n < length stored → stored_in (map (at_least least) stored) n ≡ at_least least (stored_in stored n)
raised_in least n [] below = absurd (omega (arith, below))
raised_in least zero (k ∷ ks) below = refl
raised_in least (suc n) (k ∷ ks) below = raised_in least n ks (omega (arith, below))

max_is : (a b : ℕ) → b ≤ a → max a b ≡ a
max_is a b below = omega (arith, below)

lower : (a b last : ℕ) → max a b ≤ last → b ≤ last
lower a b last below = omega (arith, below)

-- if each slot can be restored, all of them start at the first serial.
pub starts_at : (ms n : ℕ) (stored : List StoredSlot) → n < length stored → CanRestore (raised_slots (serial_over ms stored) stored n)
    → (raised_slots (serial_over ms stored) stored n).serial ≡ serial_over ms stored
starts_at ms n stored below can =
    let least = serial_over ms stored in
    let serial = (stored_in stored n).serial in
    let is = ap (λ (k : StoredSlot). k.serial) (raised_in least n stored below) in
    let within = lower least serial last_serial (subst (λ (m : ℕ). m ≤ last_serial) is can.serial) in
    is ∙ max_is least serial (next_reached (serial_of_start ms) (greatest_serial stored) serial last_serial (greatest_is n stored) within)

pub all_start_at : {X E : Type 0} (ms : ℕ) (stored : List StoredSlot) → length stored ≡ 64 → (r : Result X E)
    → IfOk r (λ f. (n : ℕ) → n < 64 → CanRestore (raised_slots (serial_over ms stored) stored n))
    → OnOk r ((n : ℕ) → n < 64 → (raised_slots (serial_over ms stored) stored n).serial ≡ serial_over ms stored)
all_start_at ms stored count (Ok f) can = λ n below. starts_at ms n stored (subst (λ (m : ℕ). n < m) (sym count) below) (can n below)
all_start_at ms stored count (Err e) can = can

pub all_can : {X E : Type 0} (stored : StoredSlots) (r : Result X E) → IfOk r (λ f. (n : ℕ) → n < 64 → CanRestore (stored n)) → OnOk r ((n : ℕ) → n < 64 → CanRestore (stored n))
all_can stored (Ok f) can = can
all_can stored (Err e) can = can

-- no serial is stored above the one at which all slots start.
reached_if : (serial n : ℕ) (stored : List StoredSlot) → n < length stored → (raised_slots serial stored n).serial ≡ serial → (stored_in stored n).serial ≤ serial
reached_if serial n stored below is = let raised = ap (λ (k : StoredSlot). k.serial) (raised_in serial n stored below) in omega (arith, is, raised)

all_reached : (serial : ℕ) (stored : List StoredSlot) → length stored ≡ 64 → ((n : ℕ) → n < 64 → (raised_slots serial stored n).serial ≡ serial)
    → (n : ℕ) → n < 64 → (stored_in stored n).serial ≤ serial
all_reached serial stored count are n below = reached_if serial n stored (subst (λ (m : ℕ). n < m) (sym count) below) (are n below)

pub restored_from : {E : Type 0} (ms id : ℕ) (policy : Policy) (stored : List StoredSlot) → length stored ≡ 64 → (r : Result ServerState E)
    → IfOk r (λ f. f ≡ server_over (raised_slots (serial_over ms stored) stored) id policy)
    → OnOk r ((n : ℕ) → n < 64 → (raised_slots (serial_over ms stored) stored n).serial ≡ serial_over ms stored)
    → OnOk r ((n : ℕ) → n < 64 → CanRestore (raised_slots (serial_over ms stored) stored n))
    → IfOk r (IsRestoredFrom (stored_in stored))
restored_from ms id policy stored count (Ok f) is are can = record {
  slots = stored;
  count = count;
  same = λ n below. refl;
  serial = serial_over ms stored;
  reached = all_reached (serial_over ms stored) stored count are;
  can = can;
  id = id;
  policy = policy;
  first_is = is;
}
restored_from ms id policy stored count (Err e) is are can = are

-- a slot has the program of the stored state that it is restored from.
restored_program : (serial : ℕ) (k : Option StoredProgram) → CanRestoreProgram serial k → IsStoredProgram (restored_present k) k
restored_program serial None can = tt
restored_program serial (Some k) can =
    subst (λ j. IsStoredProgram (present_if j k) (Some k)) (sym can.judged_as) (can.judged_as, refl, refl)

-- the slots of new shards.
slots_over : (slots : ℕ → Slot) (confirm_after n : ℕ) → n < 64 → slot_in_shards (shards_over slots confirm_after) n ≡ slots n
slots_over slots confirm_after n below =
    let number : 8 * (n / 8) + n % 8 ≡ n = omega arith in
    ap (λ (x : Shard). slot_in x n) (get_or-map-range_with_len (shard_over slots confirm_after) 0 8 (n % 8) (n % 8) no_shard (omega arith) (omega arith))
    ∙ (get_or-map-range_with_len (λ (k : ℕ). slots (8 * k + n % 8)) 0 8 (n / 8) (n / 8) (new_slot 0) (omega (arith, below)) (omega arith)
    ∙ ap slots number)

-- each slot of a restored server has the program that is stored.
pub restored_are_stored : (stored : StoredSlots) (first : ServerState) → IsRestoredFrom stored first → AreStoredAtFirst first stored
restored_are_stored stored first from n below =
    let least = from.serial in
    let raised = raised_slots least from.slots n in
    let is = raised_in least n from.slots (subst (λ (m : ℕ). n < m) (sym from.count) below) in
    let program = ap (λ (k : StoredSlot). k.program) is ∙ ap (λ (k : StoredSlot). k.program) (from.same n below) in
    let slot : slot_in_shards first.shards n ≡ restored_slot raised =
    ap (λ (s : ServerState). slot_in_shards s.shards n) from.first_is ∙ slots_over (λ m. restored_slot (raised_slots least from.slots m)) from.policy.confirm_after n below in
    subst (λ (s : Slot). IsStoredProgram s.present (stored n).program) (sym slot)
    (subst (λ (p : Option StoredProgram). IsStoredProgram (restored_present raised.program) p) program (restored_program raised.serial raised.program (from.can n below).program))

-- ---- the saved serial

saved_same : {S : Type 0} (g : Ghosts S) (serial : ℕ) (k : StoredSlot) (ks : List StoredSlot) (made : Bool) (old new : S) (s : SavesSerial g serial k.program made old new)
    → AreSameSlots (stored_in (k ∷ ks)) (g.stored old)
    → AreSameSlots (g.stored new) (slots_after (record { slot = 0; serial = serial; program = s.update }) (g.stored old))
    → AreSameSlots (stored_in (record k { serial = serial } ∷ ks)) (g.stored new)
saved_same g serial k ks made old new s same is zero below =
    (λ i. record { serial = serial; program = sym s.keeps i })
    ∙ ap (λ (o : StoredSlot). record { serial = serial; program = program_after serial s.update o.program }) (same zero below)
    ∙ sym (is zero below)
saved_same g serial k ks made old new s same is (suc n) below =
    same (suc n) below
    ∙ sym (ap (λ (b : Bool). if b then slot_after (record { slot = 0; serial = serial; program = s.update }) (g.stored old (suc n)) else g.stored old (suc n)) (eqb-suc-zero n))
    ∙ sym (is (suc n) below)

-- the slots of a first state are restored from a store after the save of their serial.
module _ {S : Type 0} (g : Ghosts S) (serial id : ℕ) (policy : Policy) (first : ServerState) (k : StoredSlot) (ks : List StoredSlot) (count : length (k ∷ ks) ≡ 64)
    (reached : (n : ℕ) → n < 64 → (stored_in (k ∷ ks) n).serial ≤ serial)
    (can : (n : ℕ) → n < 64 → CanRestore (raised_slots serial (k ∷ ks) n))
    (is : first ≡ server_over (raised_slots serial (k ∷ ks)) id policy) (old new : S) (same : AreSameSlots (stored_in (k ∷ ks)) (g.stored old)) where
  from_unchanged : AreSameSlots (g.stored new) (g.stored old) → IsRestoredFrom (g.stored new) first
  from_unchanged unchanged = record {
    slots = k ∷ ks;
    count = count;
    same = λ n below. same n below ∙ sym (unchanged n below);
    serial = serial;
    reached = λ n below. subst (λ (j : StoredSlot). j.serial ≤ serial) (same n below ∙ sym (unchanged n below)) (reached n below);
    can = can;
    id = id;
    policy = policy;
    first_is = is;
  }

  first_raised : at_least serial k ≡ at_least serial (record k { serial = serial })
  first_raised = λ i. record { serial = (max_is serial k.serial (reached 0 (omega (arith))) ∙ sym (max_is serial serial (omega (arith)))) i; program = k.program }

  reached_saved : (n : ℕ) → n < 64 → (stored_in (record k { serial = serial } ∷ ks) n).serial ≤ serial
  reached_saved zero below = omega (arith)
  reached_saved (suc n) below = reached (suc n) below

  from_saved : AreSameSlots (stored_in (record k { serial = serial } ∷ ks)) (g.stored new) → IsRestoredFrom (g.stored new) first
  from_saved saved = record {
    slots = record k { serial = serial } ∷ ks;
    count = count;
    same = saved;
    serial = serial;
    reached = λ n below. subst (λ (j : StoredSlot). j.serial ≤ serial) (saved n below) (reached_saved n below);
    can = λ n below. subst (λ (j : StoredSlot). CanRestore (stored_in (j ∷ map (at_least serial) ks) n)) first_raised (can n below);
    id = id;
    policy = policy;
    first_is = is ∙ ap (λ (j : StoredSlot). server_over (stored_in (j ∷ map (at_least serial) ks)) id policy) first_raised;
  }

  from_stored : (made : Bool) (s : SavesSerial g serial k.program made old new)
      → IsStoredIf made (record { slot = 0; serial = serial; program = s.update }) (g.stored old) (g.stored new) → IsRestoredFrom (g.stored new) first
  from_stored true s is_stored = from_saved (saved_same g serial k ks true old new s same is_stored)
  from_stored false s is_stored = from_unchanged is_stored

  from_store : (made : Bool) (s : SavesSerial g serial k.program made old new) (persistent : Bool)
      → SavesBy g persistent (record { slot = 0; serial = serial; program = s.update }) made old new → IsRestoredFrom (g.stored new) first
  from_store made s true saves = from_stored made s saves.stored
  from_store made s false saves = from_unchanged (λ n below. ap (λ (t : S). g.stored t n) saves.1)

pub restored_after : {S : Type 0} (g : Ghosts S) (serial id : ℕ) (policy : Policy) (first : ServerState) (stored : List StoredSlot) (made : Bool) (old new : S)
    → length stored ≡ 64 → AreSameSlots (stored_in stored) (g.stored old)
    → ((n : ℕ) → n < 64 → (raised_slots serial stored n).serial ≡ serial)
    → ((n : ℕ) → n < 64 → CanRestore (raised_slots serial stored n))
    → first ≡ server_over (raised_slots serial stored) id policy
    → (slot : StoredSlot) → slot ≡ get_or stored 0 slot
    → SavesSerial g serial slot.program made old new
    → IsRestoredFrom (g.stored new) first
restored_after g serial id policy first [] made old new count same are can is slot slot_is s = absurd (omega (arith, count))
restored_after g serial id policy first (k ∷ ks) made old new count same are can is slot slot_is s =
    let saves = subst (λ (z : StoredSlot). SavesSerial g serial z.program made old new) slot_is s in
    from_store g serial id policy first k ks count (all_reached serial (k ∷ ks) count are) can is old new same made saves g.persistent saves.saves

-- ---- the slots that a start finds after the serial was saved, or its save was refused

module _ {S : Type 0} (g : Ghosts S) (u : SlotUpdate) (old new : S) (of_first : u.slot ≡ 0) (keeps : program_after u.serial u.program (g.stored old 0).program ≡ (g.stored old 0).program)
    (reached : (g.stored old 0).serial ≤ u.serial) where
  -- the update of the serial raises the serial of slot 0, and changes nothing else.
  raised_by : AreRaised (g.stored old) (slots_after u (g.stored old))
  raised_by zero below =
      let is : (0 == u.slot) ≡ true = ap (λ (n : ℕ). 0 == n) of_first in
      subst (λ (b : Bool). ((if b then slot_after u (g.stored old 0) else g.stored old 0).program ≡ (g.stored old 0).program) × ((g.stored old 0).serial ≤ (if b then slot_after u (g.stored old 0) else g.stored old 0).serial))
      (sym is) (keeps, reached)
  raised_by (suc n) below =
      let is : (suc n == u.slot) ≡ false = ap (λ (m : ℕ). suc n == m) of_first ∙ eqb-suc-zero n in
      subst (λ (b : Bool). ((if b then slot_after u (g.stored old (suc n)) else g.stored old (suc n)).program ≡ (g.stored old (suc n)).program) × ((g.stored old (suc n)).serial ≤ (if b then slot_after u (g.stored old (suc n)) else g.stored old (suc n)).serial))
      (sym is) (refl, omega (arith))

  found_raised : (made : Bool) → SavesUpdate g u made old new → g.is_ready old → (g.is_clean old → FindsStored g old) → g.is_clean new → FindsRaised g new
  found_raised true saves ready settled clean found may n below = same_raised (g.stored new) found (saves.durable ready clean refl found may) n below
  found_raised false saves ready settled clean found may n below =
      subst (λ (k : StoredSlot). ((found n).program ≡ k.program) × (k.serial ≤ (found n).serial)) (sym (saves.stored n below))
      (⊎_elim
      (λ (was : g.may_recover old found). stored_raised g old (settled (saves.clean clean)) found was n below)
      (λ (now : AreSameSlots found (slots_after u (g.stored old))).
      subst (λ (k : StoredSlot). (k.program ≡ (g.stored old n).program) × ((g.stored old n).serial ≤ k.serial)) (sym (now n below)) (raised_by n below))
      (saves.crash ready clean found may))

  found_by : (made persistent : Bool) → SavesBy g persistent u made old new → g.is_ready old → (g.is_clean old → FindsStored g old) → g.is_clean new → FindsRaised g new
  found_by made true saves ready settled clean = found_raised made saves ready settled clean
  found_by made false saves ready settled clean =
      subst (λ (s : S). FindsRaised g s) (sym saves.1) (stored_raised g old (settled (subst g.is_clean saves.1 clean)))

-- if a start finds just the stored slots before the serial is saved, it then finds the stored
-- programs.
pub finds_raised : {S : Type 0} (g : Ghosts S) (serial : ℕ) (stored : List StoredSlot) (made : Bool) (old new : S)
    → length stored ≡ 64 → AreSameSlots (stored_in stored) (g.stored old)
    → ((n : ℕ) → n < 64 → (raised_slots serial stored n).serial ≡ serial)
    → (slot : StoredSlot) → slot ≡ get_or stored 0 slot
    → SavesSerial g serial slot.program made old new
    → g.is_ready old → (g.is_clean old → FindsStored g old) → g.is_clean new → FindsRaised g new
finds_raised g serial [] made old new count same are slot slot_is s = absurd (omega (arith, count))
finds_raised g serial (k ∷ ks) made old new count same are slot slot_is s =
    let saves = subst (λ (z : StoredSlot). SavesSerial g serial z.program made old new) slot_is s in
    let first : k ≡ g.stored old 0 = same 0 (omega (arith)) in
    found_by g (record { slot = 0; serial = serial; program = saves.update }) old new refl
    (subst (λ (z : StoredSlot). program_after serial saves.update z.program ≡ z.program) first saves.keeps)
    (subst (λ (z : StoredSlot). z.serial ≤ serial) first (all_reached serial (k ∷ ks) count are 0 (omega (arith))))
    made g.persistent saves.saves
