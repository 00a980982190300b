-- Typings: states for the slots of a program. The state on each branch of an instruction is within
-- that of the successor. The state at the head of a counted loop has the form of a loop invariant.
use Rattle.std.specs.Prelude.{◌≡◌, ℕ, true, List, [], ◌∷◌, Option, Some, None, slice_get, slice_index_or}
use Rattle.fc_isa.specs.declared.insn.Insn.{Insn}
use Rattle.fc_isa.specs.declared.version.ImageVersion.{ImageVersion}
use Rattle.fc_isa.specs.Writes.{computes}
use Rattle.fc_image.specs.declared.loops.Loop.{Loop}
use Rattle.fc_image.specs.Loops.{loops_in}
use Rattle.fc_kinds.specs.declared.kind.Kind.{Kind}
use Rattle.fc_kinds.specs.Entry.{entry}
use Rattle.fc_kinds.specs.Kinds.{Within}
use Rattle.fc_kinds.specs.Transfer.{transfer}
use Rattle.fc_kinds.specs.Ways.{Way, ways_after}
use Rattle.fc_verify.specs.Heads.{IsHeadState, gives_number, is_inside}

-- for each slot, its state or `None`.
abbrev pub States : Type 0
States = List (Option (List Kind))

abbrev pub state_at : States → ℕ → Option (List Kind)
state_at states slot = slice_index_or states slot None

-- the state `kinds` is within the state of the slot.
pub record Leads (states : States) (slot : ℕ) (kinds : List Kind) : Type 0 where
  pub state : List Kind
  pub state_is : state_at states slot ≡ Some state
  pub within : Within kinds state

-- the state on each branch is within the state of its target.
abbrev pub AllLead : States → List Way → Type 0
AllLead states [] = Unit {0}
AllLead states (w ∷ ws) = Leads states w.target w.kinds × AllLead states ws

-- at a slot with this state the instruction's preconditions hold, and each of its branches, also a
-- backward one, leads to a slot whose state contains the branch's state; in a loop's body the
-- register that the instruction computes is a number.
pub record IsWellTypedAt (vars : ℕ) (loops : List Loop) (states : States) (slot : ℕ) (insn : Insn) (kinds : List Kind) : Type 0 where
  pub after : List Kind
  pub effect : transfer vars insn kinds ≡ Some after
  pub lead : AllLead states (ways_after slot insn kinds after)
  pub number : is_inside loops slot ≡ true → gives_number (computes insn) after ≡ true

-- the states are a typing of a program with these loops; a slot without a state is unreachable.
pub record IsTypingWith (version : ImageVersion) (vars : ℕ) (code : List Insn) (loops : List Loop) (states : States) : Type 0 where
  pub entered : Leads states 0 (entry version)
  pub each :
      (slot : ℕ) (insn : Insn) (kinds : List Kind) → slice_get code slot ≡ Some insn → state_at states slot ≡ Some kinds
      → IsWellTypedAt vars loops states slot insn kinds
  pub heads :
      (i : ℕ) (l : Loop) (kinds : List Kind) → slice_get loops i ≡ Some l → state_at states l.head ≡ Some kinds
      → IsHeadState code l kinds

-- the states are a typing of the program, for an image of this version and variables of this size.
abbrev pub IsTypingOf : ImageVersion → ℕ → List Insn → States → Type 0
IsTypingOf version vars code states = IsTypingWith version vars code (loops_in version code) states
