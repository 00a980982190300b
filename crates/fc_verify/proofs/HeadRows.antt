-- Programs with counted loops, with and without a typing, and their costs, by computation.
use Rattle.std.proofs.Common.{◌≡◌, ℕ, pos, negsuc, true, false, Some, None, List, [], ◌∷◌, refl}
use Rattle.fc_isa.specs.declared.insn.Width.TheVariants.{W64}
use Rattle.fc_isa.specs.declared.insn.AluOp.TheVariants.{Add, Mov}
use Rattle.fc_isa.specs.declared.insn.Relation.TheVariants.{Lt}
use Rattle.fc_isa.specs.declared.insn.Operand.TheVariants.{Imm, Reg}
use Rattle.fc_isa.specs.declared.insn.Insn.{Insn}
use Rattle.fc_isa.specs.declared.insn.Insn.TheVariants.{Alu, JumpAlways, JumpIf, CallHelper, Exit}
use Rattle.fc_isa.specs.declared.rule.Rule.TheVariants.{BackwardJump, Cost}
use Rattle.fc_isa.specs.declared.version.ImageVersion.{ImageVersion}
use Rattle.fc_isa.specs.declared.version.ImageVersion.TheVariants.{Two}
use Rattle.fc_image.specs.Functions.{is_start, frames}
use Rattle.fc_image.specs.Head.{Head}
use Rattle.fc_image.specs.Loops.{is_written, has_call, loops_of}
use Rattle.fc_image.specs.Paths.{costs, cost_in, longest}
use Rattle.fc_image.specs.ShapeRules.{breaks_shape, shape_fault}
use Rattle.fc_kinds.specs.Intervals.{interval_of, alu_interval, refined}
use Rattle.fc_kinds.specs.Refinement.{when}
use Rattle.fc_kinds.specs.Transfer.{transfer, alu_kind}
use Rattle.fc_verify.specs.Heads.{settled}
use Rattle.fc_verify.specs.Pass.{pass_from, is_typable}

abbrev put : ℕ → ℕ → Insn
put r n = Alu Mov W64 r (Imm (pos n))

abbrev move : ℕ → ℕ → Insn
move r s = Alu Mov W64 r (Reg s)

abbrev add : ℕ → ℕ → Insn
add r n = Alu Add W64 r (Imm (pos n))

-- `jlt r, n` back over `over` slots and its own
abbrev jump : ℕ → ℕ → ℕ → Insn
jump r n over = JumpIf (record { width = W64; relation = Lt; left = r; right = Imm (pos n); offset = negsuc over })

-- a program that sums the payload's first bytes. Given are the instructions of its first and fifth
-- slots, the step and the bound, and the number of slots that the jump goes back over
abbrev sum_over : ℕ → Insn → Insn → ℕ → ℕ → List Insn
sum_over over first fifth step bound =
    first ∷ put 7 0 ∷ move 1 6 ∷ CallHelper (pos 2) ∷ fifth ∷ add 6 step ∷ jump 6 bound over ∷ move 1 7 ∷ CallHelper (pos 6) ∷ put 0 0 ∷ Exit ∷ []

abbrev sum_with : Insn → Insn → List Insn
sum_with first fifth = sum_over 4 first fifth 1 4

abbrev sum : ℕ → ℕ → List Insn
sum step bound = sum_over 4 (put 6 0) (Alu Add W64 7 (Reg 0)) step bound

-- a loop of two iterations in a loop of three
abbrev nested : List Insn
nested = put 6 0 ∷ put 7 0 ∷ put 0 0 ∷ add 7 1 ∷ jump 7 2 2 ∷ add 6 1 ∷ jump 6 3 5 ∷ Exit ∷ []

abbrev head : ImageVersion → ℕ → Head
head version budget = record { version = version; vars_size = 0; count = 11; budget = budget }

abbrev breaks_form : List Insn → Type 0
breaks_form code = shape_fault (head Two 65536) code ≡ Some (6, BackwardJump)

-- the body counts once for each iteration: 2 + 4 * 5 + 4 steps; a bound of 8 gives 8 iterations,
-- and a step of 3 gives two
sum_costs : (longest Two (sum 1 4) ≡ 26) × (longest Two (sum 1 8) ≡ 46) × (longest Two (sum 3 4) ≡ 16)
unfolding longest cost_in loops_of costs
sum_costs = (refl, refl, refl)

sum_budget : (shape_fault (head Two 26) (sum 1 4) ≡ None) × (shape_fault (head Two 25) (sum 1 4) ≡ Some (0, Cost))
unfolding shape_fault breaks_shape longest cost_in loops_of costs is_start frames
sum_budget = (refl, refl)

-- these jumps don't have the form of a back jump: a bound of 0, a bound of 1,025, and a jump to
-- itself
form_of_jumps : breaks_form (sum 1 0) × breaks_form (sum 1 1025) × breaks_form (sum_over 0 (put 6 0) (Alu Add W64 7 (Reg 0)) 1 4)
unfolding shape_fault breaks_shape longest cost_in loops_of costs is_start frames
form_of_jumps = (refl, refl, refl)

-- these bodies disturb the loop: one writes the counter, one has an exit, and one has a jump past
-- the addition
form_of_bodies : breaks_form (sum_with (put 6 0) (put 6 0)) × breaks_form (sum_with (put 6 0) Exit) × breaks_form (sum_with (put 6 0) (JumpAlways (pos 1)))
unfolding shape_fault breaks_shape longest cost_in loops_of costs is_start frames
form_of_bodies = (refl, refl, refl)

-- a sum has a typing; a sum whose body writes a pointer has none, and a sum whose counter starts at
-- the bound has none
sum_types : (is_typable Two 0 (sum 1 4) ≡ true) × (is_typable Two 0 (sum_with (put 6 0) (move 8 10)) ≡ false) × (is_typable Two 0 (sum_with (put 6 4) (Alu Add W64 7 (Reg 0))) ≡ false)
unfolding is_written has_call settled pass_from loops_of transfer alu_kind when alu_interval interval_of refined
sum_types = (refl, refl, refl)

-- the nested loops take 1 + 3 * (1 + 2 * 3 + 2) + 1 steps
nested_row : (longest Two nested ≡ 29) × (is_typable Two 0 nested ≡ true)
unfolding longest cost_in costs is_written has_call settled pass_from loops_of transfer alu_kind when alu_interval interval_of refined
nested_row = (refl, refl)
