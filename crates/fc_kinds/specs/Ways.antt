-- The successors of an instruction, each with its abstract state.
use Rattle.std.specs.Prelude.{ℕ, Bool, true, false, List, [], ◌∷◌, ◌++◌, Option, Some, None}
use Rattle.fc_isa.specs.declared.insn.Insn.{Insn}
use Rattle.fc_isa.specs.declared.insn.Insn.TheVariants.{JumpIf}
use Rattle.fc_isa.specs.Flow.{Flow, Halts, Goes, Forks, Enters, flow}
use Rattle.fc_kinds.specs.declared.kind.Kind.{Kind}
use Rattle.fc_kinds.specs.Transfer.{enter}
use Rattle.fc_kinds.specs.Refinement.{when}

-- a branch: the slot to which it leads, and the state on it.
pub record Way : Type 0 where
  pub target : ℕ
  pub kinds : List Kind

abbrev pub way : ℕ → List Kind → List Way
way target kinds = record { target = target; kinds = kinds } ∷ []

-- the branch with this state, or no branch if no values take it.
abbrev pub way_where : ℕ → Option (List Kind) → List Way
way_where target None = []
way_where target (Some kinds) = way target kinds

-- the state on one branch of a fork: taken, or not taken.
abbrev pub kinds_when : Bool → Insn → List Kind → Option (List Kind)
kinds_when taken (JumpIf j) kinds = when j taken kinds
kinds_when taken insn kinds = Some kinds

-- the branches along a flow, from the states before an instruction and after it.
abbrev pub ways_along : Flow → Insn → List Kind → List Kind → List Way
ways_along Halts insn before after = []
ways_along (Goes next) insn before after = way next after
ways_along (Forks taken next) insn before after =
    way_where taken (kinds_when true insn after) ++ way_where next (kinds_when false insn after)
ways_along (Enters start next) insn before after = way start (enter before) ++ way next after

-- the branches from an instruction at a slot.
abbrev pub ways_after : ℕ → Insn → List Kind → List Kind → List Way
ways_after slot insn before after = ways_along (flow slot insn) insn before after
