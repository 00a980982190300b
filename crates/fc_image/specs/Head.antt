-- The header of an image: sixteen bytes, numbers with the least significant byte first.
use Rattle.std.specs.Prelude.{ℕ, ◌+◌, ◌*◌, ◌%◌, ◌==◌, ◌&&◌, ◌||◌, not, Bool, true, false, nat_lt, nat_le, if◌then◌else◌, List, [], ◌∷◌, length, take, drop, find, Option, slice_index}
use Rattle.std.specs.Int.{w16, w32, from_le_bytes}
use Rattle.fc_isa.specs.declared.rule.Rule.{Rule}
use Rattle.fc_isa.specs.declared.rule.Rule.TheVariants.{Format, SlotCount, VarsSize, Budget, Reserved}
use Rattle.fc_isa.specs.declared.version.ImageVersion.{ImageVersion}
use Rattle.fc_isa.specs.declared.version.ImageVersion.TheVariants.{One, Two}

-- the maximum number of slots of a program, and the maximum depth of its stack frames.
abbrev pub slots_allowed : ImageVersion → ℕ
slots_allowed One = 512
slots_allowed Two = 1024

abbrev pub frames_allowed : ImageVersion → ℕ
frames_allowed One = 4
frames_allowed Two = 8

-- whether a program may have counted loops, whose jumps go back.
abbrev pub loops_allowed : ImageVersion → Bool
loops_allowed One = false
loops_allowed Two = true

-- the version of the format, the size of the variables in bytes, the number of slots, and the
-- budget of steps.
pub record Head : Type 0 where
  pub version : ImageVersion
  pub vars_size : ℕ
  pub count : ℕ
  pub budget : ℕ

abbrev pub version_of : ℕ → ImageVersion
version_of digit = if digit == 50 then Two else One

-- the version and the numbers that a header states. After the magic there are two bytes each for
-- variables and slots, and four for the budget.
abbrev pub stated : List ℕ → Head
stated image = record {
  version = version_of (slice_index image 3);
  vars_size = from_le_bytes w16 (take 2 (drop 4 image));
  count = from_le_bytes w16 (take 2 (drop 6 image));
  budget = from_le_bytes w32 (take 4 (drop 8 image));
}

-- the first four of these bytes are a, b, c and d.
abbrev pub is_word : ℕ → ℕ → ℕ → ℕ → List ℕ → Bool
is_word a b c d bytes =
    ((slice_index bytes 0 == a) && (slice_index bytes 1 == b)) && ((slice_index bytes 2 == c) && (slice_index bytes 3 == d))

-- an image begins with the magic bytes `FCB1` or `FCB2`.
abbrev pub has_magic : List ℕ → Bool
has_magic image = is_word 70 67 66 49 image || is_word 70 67 66 50 image

-- a number is outside its limits. The limits are 1 to the version's number of slots; up to 256
-- bytes of variables, in words of eight; and a budget of 1 to 65,536.
abbrev pub is_bad_count : ImageVersion → ℕ → Bool
is_bad_count version count = (count == 0) || nat_lt (slots_allowed version) count

abbrev pub is_bad_size : ℕ → Bool
is_bad_size size = nat_lt 256 size || not (size % 8 == 0)

abbrev pub is_bad_budget : ℕ → Bool
is_bad_budget budget = (budget == 0) || nat_lt 65536 budget

-- an image breaks a rule of the header.
unfoldable pub head_breaks : List ℕ → Rule → Bool
head_breaks image Format = not ((nat_le 16 (length image) && has_magic image) && (length image == 16 + 8 * (stated image).count))
head_breaks image SlotCount = is_bad_count (stated image).version (stated image).count
head_breaks image VarsSize = is_bad_size (stated image).vars_size
head_breaks image Budget = is_bad_budget (stated image).budget
head_breaks image Reserved = not (is_word 0 0 0 0 (drop 12 image))
head_breaks image other = false

-- the rules of a header, the least number first.
abbrev pub head_rules : List Rule
head_rules = Format ∷ SlotCount ∷ VarsSize ∷ Budget ∷ Reserved ∷ []

-- the least rule that a header breaks.
abbrev pub head_fault : List ℕ → Option Rule
head_fault image = find (head_breaks image) head_rules
