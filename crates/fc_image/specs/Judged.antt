-- The contents of a program's tables.
use Rattle.std.specs.Prelude.{◌≡◌, ◌≤◌, min, length, List, ℕ, Option, Some, None, MatchOption}
use Rattle.fc_isa.specs.declared.insn.Insn.{Insn}
use Rattle.fc_isa.specs.declared.version.ImageVersion.{ImageVersion}
use Rattle.fc_image.specs.declared.table.Tables.{Tables}
use Rattle.fc_image.specs.Functions.{frames}
use Rattle.fc_image.specs.Head.{Head, frames_allowed}
use Rattle.fc_image.specs.Paths.{IsLongest, longest}
use Rattle.fc_image.specs.ShapeRules.{IsShaped}
use Rattle.fc_image.specs.Spans.{AreSpans}
use Rattle.fc_image.specs.Tables.{AreStarts, AreCounts}
use Rattle.fc_isa.specs.declared.rule.Rule.{Rule}
use Rattle.fc_isa.specs.declared.rule.Fault.{Fault}

-- the tables have the program's function starts, the sources of its jumps, its frames, and the
-- steps of its longest path. The frames are capped at 9 and the steps at 65,537; both caps are
-- above the limits.
pub record AreTables (version : ImageVersion) (code : List Insn) (t : Tables) : Type 0 where
  pub starts : AreStarts code t.starts
  pub counts : AreCounts code t.counts
  pub spans : AreSpans code (length code) t.spans
  pub frames : t.frames ≡ min 9 (frames code)
  pub cost : t.cost ≡ min 65537 (longest version code)

-- `fault` has the slot and the rule of `found`, or both are `None`.
abbrev pub IsSame : Option (ℕ × Rule) → Option Fault → Type 0
IsSame found fault = MatchOption fault (found ≡ None) (λ f. found ≡ Some (f.slot, f.rule))

-- the program keeps the rules of the control flow, with at most the frames of its version; `cost`
-- is the greatest number of steps on any path, and is within the budget.
abbrev pub IsCostOf : Head → List Insn → ℕ → Type 0
IsCostOf head code cost = IsShaped head.version code × (frames code ≤ frames_allowed head.version) × IsLongest head.version code cost × (cost ≤ head.budget)
