-- The accepted images, and the first broken rule of all other images.
use Rattle.std.specs.Prelude.{◌≡◌, ℕ, ◌≤◌, List, drop, Some, None, ◌⊎◌}
use Rattle.fc_isa.specs.declared.rule.Rule.{Rule}
use Rattle.fc_isa.specs.Encoding.{Spells, IsFirstFault}
use Rattle.fc_image.specs.Functions.{frames}
use Rattle.fc_image.specs.Head.{head_fault, stated, frames_allowed}
use Rattle.fc_image.specs.Paths.{IsLongest}
use Rattle.fc_image.specs.ShapeRules.{IsShapeFault, IsShaped}
use Rattle.fc_kinds.specs.Meaning.{Program}
use Rattle.fc_verify.specs.Typing.{States, IsTypingOf}

-- the slots of an image: the bytes after its header.
abbrev pub slots_of : List ℕ → List ℕ
slots_of image = drop 16 image

-- the image keeps the header's rules, and its slots encode this program.
pub record IsProgramOf (image : List ℕ) (p : Program) : Type 0 where
  pub head : head_fault image ≡ None
  pub version : p.version ≡ (stated image).version
  pub code : Spells (slots_of image) p.code
  pub vars_size : p.vars_size ≡ (stated image).vars_size
  pub budget : p.budget ≡ (stated image).budget

-- the program also passes the control-flow checks, has at most the frames of its version, and its
-- longest path is within the budget.
pub record IsShapely (image : List ℕ) (p : Program) : Type 0 where
  pub program : IsProgramOf image p
  pub shape : IsShaped p.version p.code
  pub frames : frames p.code ≤ frames_allowed (stated image).version
  pub cost : IsLongest p.version p.code p.cost
  pub within : p.cost ≤ p.budget

-- an accepted image: in addition, some typing of the program exists.
pub record IsAccepted (image : List ℕ) (p : Program) : Type 0 where
  pub shapely : IsShapely image p
  pub states : States
  pub typing : IsTypingOf p.version p.vars_size p.code states

-- the control flow of the program breaks a rule; this rule is the first that it breaks.
pub record BreaksShape (image : List ℕ) (rule : Rule) (slot : ℕ) : Type 0 where
  pub p : Program
  pub program : IsProgramOf image p
  pub fault : IsShapeFault (stated image) p.code slot rule

-- a slot breaks a rule of the encoding.
pub record BreaksSlot (image : List ℕ) (rule : Rule) (slot : ℕ) : Type 0 where
  pub head : head_fault image ≡ None
  pub fault : IsFirstFault (slots_of image) rule slot

-- the image's header breaks this rule first, and the slot is 0.
pub record BreaksHead (image : List ℕ) (rule : Rule) (slot : ℕ) : Type 0 where
  pub fault : head_fault image ≡ Some rule
  pub slot_is : slot ≡ 0

-- the image keeps all rules, but its program has no typing.
pub record IsUntypable (image : List ℕ) : Type 0 where
  pub p : Program
  pub shapely : IsShapely image p
  pub untyped : (states : States) → IsTypingOf p.version p.vars_size p.code states → ⊥

-- the judgement of an image: the accepted program, the first broken rule with its slot, or that
-- only the typing is missing.
pub data Judgement : Type 0 where
  Accepts : (program : Program) → Judgement
  Breaks : (rule : Rule) (slot : ℕ) → Judgement
  Untypable : Judgement

abbrev pub Judges : List ℕ → Judgement → Type 0
Judges image (Accepts p) = IsAccepted image p
Judges image (Breaks rule slot) = BreaksHead image rule slot ⊎ (BreaksSlot image rule slot ⊎ BreaksShape image rule slot)
Judges image Untypable = IsUntypable image
