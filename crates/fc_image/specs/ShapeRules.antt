-- The rules of a program's control flow.
use Rattle.std.specs.Prelude.{◌≡◌, ℕ, ◌+◌, ◌-◌, ◌<◌, ◌==◌, ◌||◌, ◌&&◌, not, nat_lt, Bool, true, false, if◌then◌else◌, min, max, ℤ, is_some, List, [], ◌∷◌, ◌++◌, length, Option, Some, None, slice_get}
use Rattle.std.specs.List.{AllByRecursion}
use Rattle.fc_isa.specs.declared.insn.Insn.{Insn}
use Rattle.fc_isa.specs.declared.insn.Insn.TheVariants.{CallHelper}
use Rattle.fc_isa.specs.declared.version.ImageVersion.{ImageVersion}
use Rattle.fc_isa.specs.declared.rule.Rule.{Rule}
use Rattle.fc_isa.specs.declared.rule.Rule.TheVariants.{JumpTarget, BackwardJump, Boundary, BackwardCall, FrameDepth, Cost, Helper}
use Rattle.fc_isa.specs.Program.{is_wide_second}
use Rattle.fc_isa.specs.Flow.{jump_offset, call_offset, target}
use Rattle.fc_help.specs.Helpers.{helper_of}
use Rattle.fc_image.specs.Functions.{with_offset, starts_within, is_open_end, frames}
use Rattle.fc_image.specs.Head.{Head, frames_allowed, loops_allowed}
use Rattle.fc_image.specs.Loops.{is_undisturbed, loop_if}
use Rattle.fc_image.specs.Paths.{longest}

abbrev pub is_instruction : Option Insn → Bool
is_instruction None = false
is_instruction (Some insn) = not (is_wide_second insn)

-- there is an instruction of the program at the place.
abbrev pub is_place : List Insn → Option ℕ → Bool
is_place code None = false
is_place code (Some t) = is_instruction (slice_get code t)

abbrev pub is_later : ℕ → Option ℕ → Bool
is_later slot None = false
is_later slot (Some t) = nat_lt slot t

-- the instruction is a jump whose target isn't a later slot.
abbrev pub leads_back : ℕ → Insn → Bool
leads_back slot insn = with_offset (jump_offset insn) (λ o. not (is_later slot (target slot o)))

-- the instruction is such a jump, and isn't the jump of a counted loop. If loops aren't allowed,
-- there are no counted loops.
abbrev pub breaks_back : Bool → List Insn → ℕ → Insn → Bool
breaks_back allowed code slot insn = not (is_undisturbed code (loop_if allowed code slot insn)) && leads_back slot insn

-- the target t is in the program, and a function starts after the lower of the two slots, up to the
-- higher.
abbrev pub leaves : List Insn → ℕ → Option ℕ → Bool
leaves code slot None = false
leaves code slot (Some t) = nat_lt t (length code) && starts_within code (min slot t) (max slot t - min slot t)

-- a helper has the number.
abbrev pub is_helper : ℤ → Bool
is_helper number = is_some (helper_of number)

abbrev pub calls_no_helper : Insn → Bool
calls_no_helper (CallHelper number) = not (is_helper number)
calls_no_helper other = false

-- the slot breaks the rule of the control flow:
-- - 11: a target isn't an instruction of the program.
-- - 12: a jump leads to no later slot and isn't the jump of a counted loop.
-- - 13: a jump leaves its function, or the function's last instruction isn't an exit.
-- - 14: a call leads to no later slot.
-- - 17: a helper doesn't exist.
abbrev pub breaks_flow : Bool → List Insn → ℕ → Insn → Rule → Bool
breaks_flow allowed code slot insn JumpTarget =
    with_offset (jump_offset insn) (λ o. not (is_place code (target slot o)))
    || with_offset (call_offset insn) (λ o. not (is_place code (target slot o)))
breaks_flow allowed code slot insn BackwardJump = breaks_back allowed code slot insn
breaks_flow allowed code slot insn Boundary = with_offset (jump_offset insn) (λ o. leaves code slot (target slot o)) || is_open_end code slot insn
breaks_flow allowed code slot insn BackwardCall = with_offset (call_offset insn) (λ o. not (is_later slot (target slot o)))
breaks_flow allowed code slot insn Helper = calls_no_helper insn
breaks_flow allowed code slot insn other = false

-- in addition, at slot 0: the frames exceed the version's limit, or the longest path exceeds the
-- header's budget.
unfoldable pub breaks_shape : Head → List Insn → ℕ → Insn → Rule → Bool
breaks_shape head code slot insn FrameDepth = (slot == 0) && nat_lt (frames_allowed head.version) (frames code)
breaks_shape head code slot insn Cost = (slot == 0) && nat_lt head.budget (longest head.version code)
breaks_shape head code slot insn rule = breaks_flow (loops_allowed head.version) code slot insn rule

-- no slot breaks a rule of the control flow; `allowed` says whether counted loops are allowed.
pub record IsShapedBy (allowed : Bool) (code : List Insn) : Type 0 where
  pub each :
      (rule : Rule) (slot : ℕ) (insn : Insn) → slice_get code slot ≡ Some insn → breaks_flow allowed code slot insn rule ≡ false

-- no slot breaks a rule of the control flow; the version says whether counted loops are allowed.
abbrev pub IsShaped : ImageVersion → List Insn → Type 0
IsShaped version code = IsShapedBy (loops_allowed version) code

-- no slot breaks the rule.
pub record KeepsRule (head : Head) (code : List Insn) (rule : Rule) : Type 0 where
  pub each : (slot : ℕ) (insn : Insn) → slice_get code slot ≡ Some insn → breaks_shape head code slot insn rule ≡ false

-- the rules in their order. A rule is checked at all slots before the next rule is checked.
abbrev pub flow_rules : List Rule
flow_rules = JumpTarget ∷ BackwardJump ∷ Boundary ∷ BackwardCall ∷ FrameDepth ∷ Cost ∷ Helper ∷ []

-- the rules before `rule` hold, and `slot` is the first slot that breaks `rule`.
pub record IsShapeFault (head : Head) (code : List Insn) (slot : ℕ) (rule : Rule) : Type 0 where
  pub before : List Rule
  pub after : List Rule
  pub order : flow_rules ≡ before ++ (rule ∷ after)
  pub kept : AllByRecursion (KeepsRule head code) before
  pub insn : Insn
  pub stands : slice_get code slot ≡ Some insn
  pub broken : breaks_shape head code slot insn rule ≡ true
  pub slots_before : (k : ℕ) (i : Insn) → k < slot → slice_get code k ≡ Some i → breaks_shape head code k i rule ≡ false

-- ---- the fault as a function

-- the first slot that passes a test; `slot` is the slot of the first instruction.
abbrev pub least : (ℕ → Insn → Bool) → ℕ → List Insn → Option ℕ
least test slot [] = None
least test slot (insn ∷ code) = if test slot insn then Some slot else least test (slot + 1) code

abbrev pub or_next : Option ℕ → Rule → Option (ℕ × Rule) → Option (ℕ × Rule)
or_next (Some slot) rule more = Some (slot, rule)
or_next None rule more = more

-- the first of these rules that some slot breaks, with the first such slot.
abbrev pub first_broken : Head → List Insn → List Rule → Option (ℕ × Rule)
first_broken head code [] = None
first_broken head code (rule ∷ rules) =
    or_next (least (λ slot insn. breaks_shape head code slot insn rule) 0 code) rule (first_broken head code rules)

unfoldable pub shape_fault : Head → List Insn → Option (ℕ × Rule)
shape_fault head code = first_broken head code flow_rules
