-- Worked programs, with the result of the control-flow rules for each; and the bytes of a header's
-- magic.
use Rattle.std.proofs.Common.{◌≡◌, ℕ, [], ◌∷◌, Some, refl}
use Rattle.std.specs.Prelude.{pos, negsuc, take}
use Rattle.fc_isa.specs.declared.insn.Insn.{Insn}
use Rattle.fc_isa.specs.declared.insn.Insn.TheVariants.{Alu, LoadWide, WideSecond, JumpAlways, JumpIf, CallHelper, CallLocal, Exit}
use Rattle.fc_isa.specs.declared.insn.AluOp.TheVariants.{Mov}
use Rattle.fc_isa.specs.declared.insn.Relation.TheVariants.{Gt}
use Rattle.fc_isa.specs.declared.insn.Width.TheVariants.{W64}
use Rattle.fc_isa.specs.declared.insn.Operand.TheVariants.{Imm}
use Rattle.fc_isa.specs.declared.rule.Rule.TheVariants.{JumpTarget, BackwardJump, Boundary, BackwardCall, Cost, Helper}
use Rattle.fc_isa.specs.declared.version.ImageVersion.{ImageVersion}
use Rattle.fc_isa.specs.declared.version.ImageVersion.TheVariants.{One, Two}
use Rattle.fc_image.specs.Head.{Head}
use Rattle.fc_image.specs.Written.{head_bytes}
use Rattle.fc_image.specs.Functions.{is_start, frames}
use Rattle.fc_image.specs.Loops.{loops_of}
use Rattle.fc_image.specs.Paths.{costs, cost_in, longest}
use Rattle.fc_image.specs.ShapeRules.{breaks_shape, shape_fault}

-- a header of this version and budget
abbrev head : ImageVersion → ℕ → Head
head version budget = record { version = version; vars_size = 0; count = 1; budget = budget }

abbrev mov : Insn
mov = Alu Mov W64 0 (Imm (pos 0))

abbrev jgt : ℕ → Insn
jgt n = JumpIf (record { width = W64; relation = Gt; left = 3; right = Imm (pos 1023); offset = pos n })

abbrev caller : Insn
caller = CallLocal (pos 1)

-- the cost is that of the longer path, on which the jump isn't taken
branch_costs_five : longest One (jgt 4 ∷ mov ∷ mov ∷ mov ∷ Exit ∷ mov ∷ Exit ∷ []) ≡ 5
unfolding longest cost_in loops_of costs
branch_costs_five = refl

-- a function that is called twice is counted twice
callee_counts_twice : longest One (CallLocal (pos 2) ∷ CallLocal (pos 1) ∷ Exit ∷ mov ∷ Exit ∷ []) ≡ 7
unfolding longest cost_in loops_of costs
callee_counts_twice = refl

twice_is_above_six : shape_fault (head One 6) (CallLocal (pos 2) ∷ CallLocal (pos 1) ∷ Exit ∷ mov ∷ Exit ∷ []) ≡ Some (0, Cost)
unfolding shape_fault breaks_shape longest cost_in loops_of costs is_start frames
twice_is_above_six = refl

call_back : shape_fault (head One 8) (caller ∷ Exit ∷ CallLocal (negsuc 2) ∷ Exit ∷ []) ≡ Some (2, BackwardCall)
unfolding shape_fault breaks_shape longest cost_in loops_of costs is_start frames
call_back = refl

-- the target of a call back is the start of a function, so the function before it ends there
call_back_ends_a_function : shape_fault (head One 8) (mov ∷ CallLocal (negsuc 0) ∷ Exit ∷ []) ≡ Some (0, Boundary)
unfolding shape_fault breaks_shape longest cost_in loops_of costs is_start frames
call_back_ends_a_function = refl

jump_into_a_wide_load : shape_fault (head One 8) (JumpAlways (pos 1) ∷ LoadWide 0 7 ∷ WideSecond ∷ Exit ∷ []) ≡ Some (0, JumpTarget)
unfolding shape_fault breaks_shape longest cost_in loops_of costs is_start frames
jump_into_a_wide_load = refl

jump_below_zero : shape_fault (head One 8) (JumpAlways (negsuc 1) ∷ Exit ∷ []) ≡ Some (0, JumpTarget)
unfolding shape_fault breaks_shape longest cost_in loops_of costs is_start frames
jump_below_zero = refl

jump_to_itself : shape_fault (head One 8) (JumpAlways (negsuc 0) ∷ Exit ∷ []) ≡ Some (0, BackwardJump)
unfolding shape_fault breaks_shape longest cost_in loops_of costs is_start frames
jump_to_itself = refl

jump_out_of_its_function : shape_fault (head One 8) (caller ∷ JumpAlways (pos 1) ∷ mov ∷ Exit ∷ []) ≡ Some (1, Boundary)
unfolding shape_fault breaks_shape longest cost_in loops_of costs is_start frames
jump_out_of_its_function = refl

end_in_a_wide_load : shape_fault (head One 8) (mov ∷ LoadWide 0 7 ∷ WideSecond ∷ []) ≡ Some (1, Boundary)
unfolding shape_fault breaks_shape longest cost_in loops_of costs is_start frames
end_in_a_wide_load = refl

no_helper_zero : shape_fault (head One 8) (CallHelper (pos 0) ∷ mov ∷ Exit ∷ []) ≡ Some (0, Helper)
unfolding shape_fault breaks_shape longest cost_in loops_of costs is_start frames
no_helper_zero = refl

-- a cost above the budget is reported before a missing helper
cost_before_helper : shape_fault (head One 2) (CallHelper (negsuc 0) ∷ mov ∷ Exit ∷ []) ≡ Some (0, Cost)
unfolding shape_fault breaks_shape longest cost_in loops_of costs is_start frames
cost_before_helper = refl

-- ---- the magic

versions_have_magics : (take 4 (head_bytes (head One 1)) ≡ 70 ∷ 67 ∷ 66 ∷ 49 ∷ []) × (take 4 (head_bytes (head Two 1)) ≡ 70 ∷ 67 ∷ 66 ∷ 50 ∷ [])
versions_have_magics = (refl, refl)
