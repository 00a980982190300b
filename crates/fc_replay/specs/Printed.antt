-- The output of a replay.
use Rattle.std.specs.Prelude.{◌≡◌, ℕ, List, [], ◌∷◌, ◌++◌, Option, Some, None, ◌==◌, if◌then◌else◌, codes}
use Rattle.std.specs.Fmt.{decimal}
use Rattle.coap_msg.specs.declared.types.Emission.{Emission}
use Rattle.fc_registry.specs.Slots.{Slot, version_in, vars_in}
use Rattle.fc_lines.specs.Emissions.{printed}
use Rattle.fc_replay.specs.declared.printer.SlotLine.{SlotLine}
use Rattle.hex.specs.Hex.{encode_lower}

-- the line for the emission of an event, or `none`.
abbrev pub emitted_line : Option Emission → List ℕ
emitted_line None = codes "none\n"
emitted_line (Some emission) = printed emission

-- the printed data of a slot are the serial, version and variables of the slot's state.
pub record IsSlotLine (slot : Slot) (line : SlotLine) : Type 0 where
  pub serial : line.serial ≡ slot.serial
  pub version : line.version ≡ version_in slot.present
  pub vars : line.vars.now ≡ vars_in slot.present

-- a version, or a dash if the slot is empty.
abbrev pub version_text : Option ℕ → List ℕ
version_text None = codes "-"
version_text (Some version) = decimal version

-- variables in hex digits, or a dash if there are none.
abbrev pub vars_text : List ℕ → List ℕ
vars_text [] = codes "-"
vars_text (b ∷ bs) = encode_lower (b ∷ bs)

-- the line for a slot with this number, serial, version and variables.
abbrev pub line_at : ℕ → ℕ → Option ℕ → List ℕ → List ℕ
line_at number serial version vars =
    codes "slot " ++ (decimal number ++ (codes " serial " ++ (decimal serial ++ (codes " version " ++ (version_text version
    ++ (codes " vars " ++ (vars_text vars ++ (10 ∷ []))))))))

-- the line for a slot, or nothing if the slot's serial is 0.
abbrev pub slot_text : ℕ → SlotLine → List ℕ
slot_text number slot = if slot.serial == 0 then [] else line_at number slot.serial slot.version slot.vars.now
