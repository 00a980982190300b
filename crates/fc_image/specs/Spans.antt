-- The sources of the jumps to each slot.
use Rattle.std.specs.Prelude.{◌≡◌, ℤ, ℕ, ◌<◌, ◌≤◌, ◌==◌, ◌||◌, Bool, false, if◌then◌else◌, nat_lt, List, length, slice_get, slice_index_or, slice_set, Option, Some, None}
use Rattle.fc_isa.specs.declared.insn.Insn.{Insn}
use Rattle.fc_isa.specs.Flow.{jump_offset, target}
use Rattle.fc_image.specs.declared.loops.Loop.{Loop}
use Rattle.fc_image.specs.declared.spans.Span.{Span}

-- the slot to which an instruction jumps.
abbrev pub place_by : ℕ → Option ℤ → Option ℕ
place_by slot None = None
place_by slot (Some offset) = target slot offset

abbrev pub jumps_to : ℕ → Insn → Option ℕ
jumps_to slot insn = place_by slot (jump_offset insn)

-- the jump at a slot leads to this place.
pub record IsJumpTo (code : List Insn) (slot place : ℕ) : Type 0 where
  pub insn : Insn
  pub stands : slice_get code slot ≡ Some insn
  pub leads : jumps_to slot insn ≡ Some place

abbrev pub IsInSpan : ℕ → Option Span → Type 0
IsInSpan slot None = ⊥
IsInSpan slot (Some s) = (s.least ≤ slot) × (slot ≤ s.greatest)

-- both ends of a span are among the first `count` slots, and their jumps lead to the place.
abbrev pub AreEnds : List Insn → ℕ → ℕ → Option Span → Type 0
AreEnds code count place None = Unit {0}
AreEnds code count place (Some s) = (s.least < count) × IsJumpTo code s.least place × IsJumpTo code s.greatest place

-- an entry for each of 1,024 slots: the span of those among the first `count` slots that jump to
-- the entry's slot.
pub record AreSpans (code : List Insn) (count : ℕ) (spans : List (Option Span)) : Type 0 where
  pub size : length spans ≡ 1024
  pub all : (slot place : ℕ) → slot < count → place < 1024 → IsJumpTo code slot place → IsInSpan slot (slice_index_or spans place None)
  pub ends : (place : ℕ) → place < 1024 → AreEnds code count place (slice_index_or spans place None)

-- the span extended to a later slot.
abbrev pub span_with : Option Span → ℕ → Span
span_with None slot = record { least = slot; greatest = slot }
span_with (Some s) slot = record { least = s.least; greatest = slot }

abbrev pub widened : List (Option Span) → ℕ → Option ℕ → List (Option Span)
widened spans slot None = spans
widened spans slot (Some place) = if nat_lt place 1024 then slice_set spans place (Some (span_with (slice_index_or spans place None) slot)) else spans

-- a jump leads to this slot of a body from outside the body. At the slot of the back jump, any jump
-- to the slot counts.
abbrev pub is_jumped_into : Loop → ℕ → Option Span → Bool
is_jumped_into l slot None = false
is_jumped_into l slot (Some s) = (slot == l.last) || (nat_lt s.least l.head || nat_lt l.last s.greatest)
