-- The functions of a program, and the number of stack frames that their calls need.
use Rattle.std.specs.Prelude.{ℕ, zero, suc, ◌+◌, ◌==◌, ◌||◌, ◌&&◌, not, nat_lt, Bool, true, false, if◌then◌else◌, max, ℤ, pos, negsuc, List, [], ◌∷◌, length, Option, Some, None, slice_index}
use Rattle.fc_isa.specs.declared.insn.Insn.{Insn}
use Rattle.fc_isa.specs.declared.insn.Insn.TheVariants.{LoadWide, WideSecond, CallLocal, Exit}
use Rattle.fc_isa.specs.Flow.{call_offset, target}

abbrev pub with_offset : Option ℤ → (ℤ → Bool) → Bool
with_offset None test = false
with_offset (Some offset) test = test offset

abbrev pub is_at : Option ℕ → ℕ → Bool
is_at None place = false
is_at (Some t) place = t == place

-- the instruction at `slot` calls the function that starts at `place`.
abbrev pub calls : ℕ → Insn → ℕ → Bool
calls slot insn place = with_offset (call_offset insn) (λ offset. is_at (target slot offset) place)

-- one of these instructions calls the function that starts at `place`; the first instruction is at
-- `slot`.
abbrev pub is_called : ℕ → List Insn → ℕ → Bool
is_called slot [] place = false
is_called slot (insn ∷ code) place = calls slot insn place || is_called (slot + 1) code place

-- a function starts at slot 0 and at the target of each local call, and ends before the next start.
unfoldable pub is_start : List Insn → ℕ → Bool
is_start code place = is_called 0 code place || (place == 0)

-- a function starts at one of the n slots after `slot`.
abbrev pub starts_within : List Insn → ℕ → ℕ → Bool
starts_within code slot zero = false
starts_within code slot (suc n) = starts_within code slot n || is_start code (slot + suc n)

abbrev pub slots_taken : Insn → ℕ
slots_taken (LoadWide dst value) = 2
slots_taken other = 1

-- the instruction may be the last of a function: an exit, or a second half, whose wide load is
-- checked in its place.
abbrev pub may_end : Insn → Bool
may_end Exit = true
may_end WideSecond = true
may_end other = false

-- the instruction is the last of its function, and is neither an exit nor the second half of a
-- wide load.
abbrev pub is_open_end : List Insn → ℕ → Insn → Bool
is_open_end code slot insn =
    not (may_end insn) && (not (nat_lt (slot + slots_taken insn) (length code)) || is_start code (slot + slots_taken insn))

-- ---- frames

-- the entry of a table at an offset from its first entry, or 0 if there is none. The table begins
-- at the next slot.
abbrev pub at_offset : List ℕ → ℤ → ℕ
at_offset after (pos n) = slice_index after n
at_offset after (negsuc n) = 0

-- the frames of the function that an instruction calls, found in the depths of the next slot and of
-- the later ones.
abbrev pub frames_called : Insn → List ℕ → ℕ
frames_called (CallLocal offset) after = 1 + at_offset after offset
frames_called other after = 0

abbrev pub depth_and : Bool → Insn → List ℕ → List ℕ
depth_and ends insn after = max (frames_called insn after) (if ends then 0 else slice_index after 0) ∷ after

-- for each slot from this one on, the maximum number of frames that calls add, from the slot to the
-- end of its function.
abbrev pub depths : (ℕ → Bool) → ℕ → List Insn → List ℕ
depths starts slot [] = []
depths starts slot (insn ∷ code) = depth_and (starts (slot + 1)) insn (depths starts (slot + 1) code)

-- the maximum number of frames in a program: the first function's own frame, and those that calls
-- add.
unfoldable pub frames : List Insn → ℕ
frames code = 1 + slice_index (depths (is_start code) 0 code) 0
