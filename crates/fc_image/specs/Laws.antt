-- Laws about a program's control flow.
use Rattle.std.specs.Prelude.{◌≡◌, ℕ, ◌<◌, List, Some, slice_index, ◌≤◌}
use Rattle.fc_isa.specs.declared.insn.Insn.{Insn}
use Rattle.fc_isa.specs.declared.rule.Rule.{Rule}
use Rattle.fc_isa.specs.Rules.{number_of}
use Rattle.fc_image.specs.Functions.{is_start, depths, frames}
use Rattle.fc_image.specs.Head.{Head, frames_allowed}
use Rattle.fc_image.specs.ShapeRules.{IsShapeFault, shape_fault, IsShaped}
use Rattle.fc_image.specs.Paths.{longest}

-- the program passes the checks of its slots, and its frames and its longest path are within the
-- limits of the header.
pub record KeepsLimits (head : Head) (code : List Insn) : Type 0 where
  pub shaped : IsShaped head.version code
  pub frames : frames code ≤ frames_allowed head.version
  pub within : longest head.version code ≤ head.budget

-- the fault that is found has the first broken rule, and the first slot that breaks that rule.
abbrev pub ShapeFaultIsFirst : Type 0
ShapeFaultIsFirst =
    (head : Head) (code : List Insn) (slot : ℕ) (rule : Rule) → shape_fault head code ≡ Some (slot, rule)
    → IsShapeFault head code slot rule

-- the fault with the first broken rule, and the first slot that breaks it, is found.
abbrev pub FirstShapeFaultIsFound : Type 0
FirstShapeFaultIsFound =
    (head : Head) (code : List Insn) (slot : ℕ) (rule : Rule) → IsShapeFault head code slot rule
    → shape_fault head code ≡ Some (slot, rule)

-- the rule of a fault that is found has a number below 20.
abbrev pub ShapeFaultIsLow : Type 0
ShapeFaultIsLow =
    (head : Head) (code : List Insn) (slot : ℕ) (rule : Rule) → shape_fault head code ≡ Some (slot, rule)
    → number_of rule < 20

-- ---- frames

-- the maximum number of frames that calls add from a slot to the end of its function.
abbrev pub frames_at : List Insn → ℕ → ℕ
frames_at code slot = slice_index (depths (is_start code) 0 code) slot
