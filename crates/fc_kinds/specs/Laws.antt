-- Laws about abstract values: the relations of two states, of two branches, and of two lists of
-- branches.
use Rattle.std.specs.Prelude.{◌≡◌, ℕ, ◌+◌, ◌<◌, ◌^◌, Bool, true, ℤ, List, ◌∷◌, length, Option, Some, None}
use Rattle.fc_isa.specs.declared.insn.Width.TheVariants.{W64}
use Rattle.fc_isa.specs.declared.insn.Jump.{Jump}
use Rattle.fc_isa.specs.declared.insn.Insn.{Insn}
use Rattle.fc_isa.specs.declared.insn.Insn.TheVariants.{JumpIf, CallLocal, Exit}
use Rattle.fc_isa.specs.Program.{IsInsn}
use Rattle.fc_alu.specs.Comparison.{truth}
use Rattle.fc_kinds.specs.declared.kind.Kind.{Kind}
use Rattle.fc_kinds.specs.Kinds.{Within, kind_at}
use Rattle.fc_kinds.specs.Containing.{Holds, AreKinds, AreShallow, AllShallow}
use Rattle.fc_kinds.specs.Values.{Value, Number, value_at}
use Rattle.fc_kinds.specs.Transfer.{is_number, operand_kind, transfer}
use Rattle.fc_kinds.specs.Refinement.{when}
use Rattle.fc_kinds.specs.Operations.{operand_value}
use Rattle.fc_kinds.specs.Ways.{ways_after}
use Rattle.fc_kinds.specs.Execution.{Caller, Config, act, depth}
use Rattle.fc_kinds.specs.Soundness.{IsConfig, StaysInFunction, StepsAlong, Waits, IsEntered, IsLeft, StepsTo}

-- the narrower state exists, and is within the wider one.
abbrev pub IsNarrowerState : Option (List Kind) → List Kind → Type 0
IsNarrowerState None wider = ⊥
IsNarrowerState (Some kinds) wider = Within kinds wider × AreKinds kinds

-- if the narrower state's branch is possible, so is the wider state's branch, whose state contains
-- the other's.
abbrev pub IsNarrowerWay : Option (List Kind) → Option (List Kind) → Type 0
IsNarrowerWay None wider = Unit {0}
IsNarrowerWay (Some kinds) None = ⊥
IsNarrowerWay (Some kinds) (Some wider) = Within kinds wider × AreKinds kinds

-- the operands of a conditional jump are these 64-bit numbers.
pub record TakesNumbers (j : Jump) (values : List Value) (x y : ℕ) : Type 0 where
  pub left : value_at values j.left ≡ Number x
  pub right : operand_value j.width j.right values ≡ Number y
  pub left_small : x < 2 ^ 64
  pub right_small : y < 2 ^ 64

-- a branch is possible, and its state contains the values.
abbrev pub IsOpenTo : ℕ → Option (List Kind) → List Value → Type 0
IsOpenTo depth None values = ⊥
IsOpenTo depth (Some kinds) values = Holds depth kinds values

-- a conditional jump's operands are numbers.
abbrev pub ComparesNumbers : Jump → List Kind → Type 0
ComparesNumbers j kinds = (is_number (kind_at kinds j.left) ≡ true) × (is_number (operand_kind W64 j.right kinds) ≡ true)

-- ---- the laws

-- if an instruction's preconditions hold in a wider state, they hold in a narrower one, and the
-- state after the instruction is narrower.
abbrev pub EffectsAreMonotone : Type 0
EffectsAreMonotone =
    (vars : ℕ) (insn : Insn) (ks wider after : List Kind) → IsInsn insn → AreKinds ks → Within ks wider
    → transfer vars insn wider ≡ Some after → IsNarrowerState (transfer vars insn ks) after

-- a branch that is possible in a narrower state is possible in a wider one, and has a wider state
-- there.
abbrev pub RefinementIsMonotone : Type 0
RefinementIsMonotone =
    (j : Jump) (taken : Bool) (ks wider : List Kind) → IsInsn (JumpIf j) → AreKinds ks → Within ks wider
    → ComparesNumbers j wider → IsNarrowerWay (when j taken ks) (when j taken wider)

-- on an instruction's branches the levels of stack frames grow by at most one.
abbrev pub WaysRaiseByOne : Type 0
WaysRaiseByOne =
    (top vars slot : ℕ) (insn : Insn) (ks after : List Kind) → AreShallow top ks → transfer vars insn ks ≡ Some after
    → AllShallow (top + 1) (ways_after slot insn ks after)

-- in a state that contains the registers' values, an instruction whose preconditions hold has a
-- step, along one of its branches.
abbrev pub EffectsContainTheStep : Type 0
EffectsContainTheStep =
    (vars : ℕ) (insn : Insn) (c : Config) (ks after : List Kind) → StaysInFunction insn → IsInsn insn → IsConfig vars c
    → Holds (depth c) ks c.regs → transfer vars insn ks ≡ Some after
    → StepsAlong vars (act insn c) c (ways_after c.place insn ks after)

-- with fewer than eight frames a local call has a step.
abbrev pub CallsContainTheStep : Type 0
CallsContainTheStep =
    (vars : ℕ) (offset : ℤ) (c : Config) (ks : List Kind) → depth c < 7 → IsConfig vars c → Holds (depth c) ks c.regs
    → StepsTo (IsEntered vars offset ks c) (act (CallLocal offset) c)

-- an exit whose preconditions hold, with a waiting caller, has a step.
abbrev pub ExitsContainTheStep : Type 0
ExitsContainTheStep =
    (vars : ℕ) (c : Config) (w : Caller) (callers : List Caller) (ks handed after : List Kind) → c.callers ≡ w ∷ callers
    → IsConfig vars c → Holds (depth c) ks c.regs → transfer vars Exit ks ≡ Some after → Waits (length callers) handed w.kept
    → StepsTo (IsLeft vars w callers handed c) (act Exit c)

-- if the state contains the values, the branch that a conditional jump takes is possible, and the
-- branch's state contains the values.
abbrev pub RefinementKeepsWhatTakesTheWay : Type 0
RefinementKeepsWhatTakesTheWay =
    (j : Jump) (depth : ℕ) (ks : List Kind) (values : List Value) (x y : ℕ) → TakesNumbers j values x y
    → Holds depth ks values → IsOpenTo depth (when j (truth j x y) ks) values
