-- The notify serial is that of the newest change that observers are notified of.
use Rattle.std.proofs.Common.{◌≡◌, ℕ, ◌+◌, ◌≤◌, Bool, true, false, if◌then◌else◌, List, [], ◌∷◌, length, refl, arith}
use Rattle.fc_registry.specs.Slots.{Slot, new_slot}
use Rattle.fc_registry.specs.Changes.{Change, Installed, Committed, Removed, after_changes}
use Rattle.fc_registry.specs.Laws.{notify_serial}
use Rattle.fc_registry.proofs.Installs.{serials_count}

-- two choices by the same condition are equal if their cases are.
chosen : (b : Bool) (m n x y : ℕ) → m ≡ n → x ≡ y → (if b then m else x) ≡ (if b then n else y)
chosen true m n x y e f = e
chosen false m n x y e f = f

chosen_within : (b : Bool) (m n : ℕ) → n ≤ m → (if b then (m + 1) else n) ≤ m + 1
chosen_within true m n le = omega arith
chosen_within false m n le = omega (arith, le)

-- the serial after a change is the first serial, plus the number of changes.
counted : (serial : ℕ) (c : Change) (cs : List Change) → (after_changes (new_slot serial) cs).serial + 1 ≡ serial + length (c ∷ cs)
counted serial c cs = omega (arith, serials_count serial cs)

pub noticed_is : (serial : ℕ) (cs : List Change) → (after_changes (new_slot serial) cs).notify_serial ≡ notify_serial serial cs
noticed_is serial [] = refl
noticed_is serial (Installed p v ∷ cs) = counted serial (Installed p v) cs
noticed_is serial (Committed c ∷ cs) = chosen c.notice _ _ _ _ (counted serial (Committed c) cs) (noticed_is serial cs)
noticed_is serial (Removed ∷ cs) = counted serial Removed cs

pub noticed_from : (first : Slot) (cs : List Change) → first.notify_serial ≤ first.serial → (after_changes first cs).notify_serial ≤ (after_changes first cs).serial
noticed_from first [] le = le
noticed_from first (Installed p v ∷ cs) le = omega arith
noticed_from first (Committed c ∷ cs) le = chosen_within c.notice _ _ (noticed_from first cs le)
noticed_from first (Removed ∷ cs) le = omega arith

pub noticed_within : (serial : ℕ) (cs : List Change) → (after_changes (new_slot serial) cs).notify_serial ≤ (after_changes (new_slot serial) cs).serial
noticed_within serial cs = noticed_from (new_slot serial) cs (omega arith)
