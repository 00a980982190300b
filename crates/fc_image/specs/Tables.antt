-- The tables for the control-flow checks of a program.
use Rattle.std.specs.Prelude.{◌≡◌, ℕ, zero, suc, ◌+◌, ◌<◌, ◌||◌, Bool, false, if◌then◌else◌, min, max, List, length, drop, slice_index, slice_index_or, slice_set, Option, Some, None, ◌≤◌}
use Rattle.fc_isa.specs.declared.insn.Insn.{Insn}
use Rattle.fc_image.specs.declared.loops.Loop.{Loop}
use Rattle.fc_image.specs.Functions.{calls, frames_called, is_start}
use Rattle.fc_image.specs.Loops.{begins}

-- a flag for each of 1,024 slots: a function starts at the slot.
pub record AreStarts (code : List Insn) (flags : List Bool) : Type 0 where
  pub each : (place : ℕ) → place < 1024 → slice_index_or flags place false ≡ is_start code place

-- the number of functions that start before a slot.
abbrev pub starts_below : List Insn → ℕ → ℕ
starts_below code zero = 0
starts_below code (suc slot) = starts_below code slot + (if is_start code slot then 1 else 0)

-- a number for each of 1,024 slots: how many functions start at or before the slot.
pub record AreCounts (code : List Insn) (counts : List ℕ) : Type 0 where
  pub each : (slot : ℕ) → slot < 1024 → slice_index counts slot ≡ starts_below code (slot + 1)

-- a loop that ends at a slot up to `count`, with a bound and a step as the form requires.
pub record IsLow (count : ℕ) (l : Loop) : Type 0 where
  pub order : l.head < l.last
  pub last : l.last ≤ count
  pub some : 1 ≤ l.bound
  pub few : l.bound ≤ 1024
  pub step : 1 ≤ l.step

abbrev pub AreLow : ℕ → Option Loop → Type 0
AreLow count None = Unit {0}
AreLow count (Some l) = IsLow count l

-- an entry for each of 1,024 slots: the loop that begins at the slot.
pub record AreHeads (loops : List Loop) (heads : List (Option Loop)) : Type 0 where
  pub count : length heads ≡ 1024
  pub each : (slot : ℕ) → slot < 1024 → slice_index_or heads slot None ≡ begins loops slot
  pub low : (slot : ℕ) → AreLow 1024 (slice_index_or heads slot None)

-- the table of loops by their heads, with one more loop.
abbrev pub headed : List (Option Loop) → Option Loop → List (Option Loop)
headed heads None = heads
headed heads (Some l) = slice_set heads l.head (Some l)

-- the new flags are the old ones, and also the function that the instruction calls is marked.
abbrev pub IsMarked : ℕ → Insn → List Bool → List Bool → Type 0
IsMarked slot insn old new =
    (place : ℕ) → place < 1024 → slice_index_or new place false ≡ (calls slot insn place || slice_index_or old place false)

-- the frames that calls add from a slot to the end of its function, capped at 9, from those of the
-- later slots.
abbrev pub frames_from : List ℕ → List Bool → ℕ → Insn → ℕ
frames_from depths flags slot insn =
    min 9 (max (frames_called insn (drop (slot + 1) depths))
    (if slice_index_or flags (slot + 1) false then 0 else slice_index depths (slot + 1)))
