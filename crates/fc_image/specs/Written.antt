-- The encoding of a header: its numbers within their limits, and its sixteen bytes.
use Rattle.std.specs.Prelude.{◌≡◌, ℕ, ◌+◌, ◌*◌, ◌%◌, ◌≤◌, if◌then◌else◌, List, [], ◌∷◌, ◌++◌, length, Option, Some, None}
use Rattle.std.specs.Int.{w16, w32, to_le_bytes}
use Rattle.fc_isa.specs.declared.rule.Rule.{Rule}
use Rattle.fc_isa.specs.declared.rule.Rule.TheVariants.{SlotCount, VarsSize, Budget}
use Rattle.fc_isa.specs.declared.version.ImageVersion.{ImageVersion}
use Rattle.fc_isa.specs.declared.version.ImageVersion.TheVariants.{One, Two}
use Rattle.fc_image.specs.Head.{slots_allowed, Head, stated, is_bad_count, is_bad_size, is_bad_budget}

abbrev pub head_of : ℕ → ℕ → ℕ → ImageVersion → Head
head_of vars_size count budget version = record { version = version; vars_size = vars_size; count = count; budget = budget }

-- the numbers of a header are within their limits.
pub record IsHead (h : Head) : Type 0 where
  pub vars : h.vars_size ≤ 256
  pub words : h.vars_size % 8 ≡ 0
  pub some : 1 ≤ h.count
  pub count : h.count ≤ slots_allowed h.version
  pub steps : 1 ≤ h.budget
  pub budget : h.budget ≤ 65536

-- the last byte of the magic, `FCB1` or `FCB2`, that names a version.
abbrev pub digit_of : ImageVersion → ℕ
digit_of One = 49
digit_of Two = 50

-- the least rule that these numbers break.
abbrev pub limit_fault : Head → Option Rule
limit_fault h =
    if is_bad_count h.version h.count then Some SlotCount else (if is_bad_size h.vars_size then Some VarsSize else (
    if is_bad_budget h.budget then Some Budget else None))

-- the header with these numbers, which break no rule.
abbrev pub IsWithinLimits : ℕ → ℕ → ℕ → ImageVersion → Head → Type 0
IsWithinLimits vars_size count budget version h = (h ≡ head_of vars_size count budget version) × (limit_fault (head_of vars_size count budget version) ≡ None)

-- the sixteen bytes of a header with these numbers: the magic, the numbers, four zeros.
abbrev pub head_bytes : Head → List ℕ
head_bytes h =
    70 ∷ 67 ∷ 66 ∷ digit_of h.version ∷ (to_le_bytes w16 h.vars_size ++ (to_le_bytes w16 h.count ++ (to_le_bytes w32 h.budget ++ (0 ∷ 0 ∷ 0 ∷ 0 ∷ []))))

-- an image whose header breaks no rule: it consists of the header and its slots, and the numbers
-- are within their limits.
pub record KeepsHead (image : List ℕ) : Type 0 where
  pub size : length image ≡ 16 + 8 * (stated image).count
  pub head : IsHead (stated image)
