-- The diagnosis of an image that isn't accepted.
use Rattle.std.specs.Prelude.{◌≡◌, ℕ, ◌+◌, ◌*◌, ◌≤◌, List, Option, take, drop, true, Some, None, slice_get}
use Rattle.fc_isa.specs.declared.insn.Insn.{Insn}
use Rattle.fc_isa.specs.declared.rule.Fault.{Fault}
use Rattle.fc_isa.specs.declared.rule.Rule.{Rule}
use Rattle.fc_isa.specs.Rules.{number_of}
use Rattle.fc_image.specs.Head.{Head, head_fault, loops_allowed, stated}
use Rattle.fc_image.specs.Paths.{longest}
use Rattle.fc_image.specs.ShapeRules.{breaks_shape, shape_fault}
use Rattle.fc_image.specs.Uncounted.{IsUncountedBy}
use Rattle.fc_kinds.specs.Meaning.{Program}
use Rattle.fc_verify.specs.Accepted.{Accepts}
use Rattle.fc_verify.specs.Judged.{judged, code_in}
use Rattle.fc_verify.specs.Refusals.{IsFaultOf}
use Rattle.fc_verify.specs.Stages.{IsUntyped}
use Rattle.fc_tools.specs.declared.diagnosis.Diagnosis.{Diagnosis}
use Rattle.fc_tools.specs.declared.diagnosis.Cause.{Cause as CauseShown}
use Rattle.fc_tools.specs.declared.diagnosis.Cause.TheVariants.{Header, Slot, Flow, Back, Frames, Cost, Typing}
use Rattle.fc_tools.specs.declared.diagnosis.Rejection.{Rejection}
use Rattle.fc_tools.specs.declared.diagnosis.Rejection.TheVariants.{Broken, NoMemory}

-- the numbers of the rules for which each cause is evidence.
abbrev pub Shows : CauseShown → ℕ → Type 0
Shows Header rule = (1 ≤ rule) × (rule ≤ 5)
Shows (Slot bytes) rule = (6 ≤ rule) × (rule ≤ 10)
Shows (Flow insn) rule = (11 ≤ rule) × (rule ≤ 17) × (rule ≡ 12 → ⊥) × (rule ≡ 15 → ⊥) × (rule ≡ 16 → ⊥)
Shows (Back insn reason) rule = rule ≡ 12
Shows Frames rule = rule ≡ 15
Shows (Cost cost budget) rule = rule ≡ 16
Shows (Typing insn known demand) rule = (20 ≤ rule) × (rule ≤ 28)

-- the header with the greatest budget.
abbrev pub at_most : Head → Head
at_most head = record head { budget = 65536 }

-- the cost, the steps of the longest path, is given exactly if the program breaks no rule of the
-- control flow with the greatest budget.
abbrev pub IsCost : Head → List Insn → Option ℕ → Type 0
IsCost head code (Some cost) = (shape_fault (at_most head) code ≡ None) × (cost ≡ longest head.version code)
IsCost head code None = shape_fault (at_most head) code ≡ None → ⊥

-- the instruction at this slot breaks this rule of the control flow.
abbrev pub BreaksFlow : Head → List Insn → ℕ → Rule → Type 0
BreaksFlow head code slot rule = (insn : Insn) → slice_get code slot ≡ Some insn → breaks_shape head code slot insn rule ≡ true

-- the evidence for a fault of the control flow in a program with this header.
abbrev pub IsShapeShown : Head → List Insn → Fault → CauseShown → Type 0
IsShapeShown head code f (Flow insn) = slice_get code f.slot ≡ Some insn
IsShapeShown head code f (Back insn reason) = (slice_get code f.slot ≡ Some insn) × IsUncountedBy (loops_allowed head.version) code f.slot insn reason
IsShapeShown head code f Frames = Unit {0}
IsShapeShown head code f (Cost cost b) = IsCost head code cost × (b ≡ head.budget)
IsShapeShown head code f other = ⊥

-- the cause is evidence that a program's control flow breaks a rule.
pub record IsShapeCause (head : Head) (code : List Insn) (f : Fault) (cause : CauseShown) : Type 0 where
  pub rule : Shows cause (number_of f.rule)
  pub shown : IsShapeShown head code f cause

-- the evidence for a fault in an image.
abbrev pub IsShown : List ℕ → Fault → CauseShown → Type 0
IsShown image f Header = Unit {0}
IsShown image f (Slot bytes) = bytes ≡ take 8 (drop (16 + 8 * f.slot) image)
IsShown image f (Flow insn) = slice_get (code_in image) f.slot ≡ Some insn
IsShown image f (Back insn reason) = IsShapeShown (stated image) (code_in image) f (Back insn reason)
IsShown image f Frames = Unit {0}
IsShown image f (Cost cost budget) = IsCost (stated image) (code_in image) cost × (budget ≡ (stated image).budget)
IsShown image f (Typing insn known demand) =
    (slice_get (code_in image) f.slot ≡ Some insn)
    × IsUntyped (stated image).version (stated image).vars_size (code_in image) (record { fault = f; known = known; demand = demand })

-- the cause is evidence that an image breaks a rule.
pub record IsCauseOf (image : List ℕ) (f : Fault) (cause : CauseShown) : Type 0 where
  pub rule : Shows cause (number_of f.rule)
  pub shown : IsShown image f cause

-- the rule is one that a refusal may name, and the cause is evidence for it.
pub record IsDiagnosisOf (image : List ℕ) (d : Diagnosis) : Type 0 where
  pub fault : IsFaultOf image (judged image) d.fault
  pub cause : IsCauseOf image d.fault d.cause

-- a rejection has a diagnosis of the image, or is a lack of memory; the latter is reported only if
-- the header breaks no rule.
abbrev pub IsRejection : List ℕ → Rejection → Type 0
IsRejection image (Broken d) = IsDiagnosisOf image d
IsRejection image NoMemory = head_fault image ≡ None

-- the image's judgement is that some program is accepted.
abbrev pub IsAcceptable : List ℕ → Type 0
IsAcceptable image = (p : Program) × (judged image ≡ Accepts p)

-- the image's judgement isn't that a program is accepted.
abbrev pub IsUnacceptable : List ℕ → Type 0
IsUnacceptable image = (p : Program) → judged image ≡ Accepts p → ⊥
