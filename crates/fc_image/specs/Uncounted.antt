-- The reasons why a jump back isn't that of a counted loop.
use Rattle.std.specs.Prelude.{◌≡◌, ℕ, suc, ◌-◌, ◌==◌, ◌&&◌, not, nat_lt, Bool, true, false, List, Option, Some, None, slice_get}
use Rattle.fc_isa.specs.declared.insn.Width.{Width}
use Rattle.fc_isa.specs.declared.insn.Width.TheVariants.{W64}
use Rattle.fc_isa.specs.declared.insn.Relation.{Relation}
use Rattle.fc_isa.specs.declared.insn.Relation.TheVariants.{Lt}
use Rattle.fc_isa.specs.declared.insn.Operand.{Operand}
use Rattle.fc_isa.specs.declared.insn.Operand.TheVariants.{Imm}
use Rattle.fc_isa.specs.declared.insn.Insn.{Insn}
use Rattle.fc_isa.specs.declared.insn.Insn.TheVariants.{JumpIf}
use Rattle.fc_isa.specs.Flow.{jump_offset, landing, target}
use Rattle.fc_isa.specs.Writes.{writes}
use Rattle.fc_image.specs.Functions.{with_offset}
use Rattle.fc_image.specs.Loops.{bound_of, step_of, loop_at, loop_if, is_in, is_exit, crosses, disturbs, is_undisturbed}
use Rattle.fc_image.specs.declared.loops.Loop.{Loop}
use Rattle.fc_image.specs.declared.uncounted.Uncounted.{Uncounted as Reason}
use Rattle.fc_image.specs.declared.uncounted.Uncounted.TheVariants.{NoLoops, Jump, Bound, Step, Target, Disturbed}
use Rattle.fc_image.specs.declared.uncounted.Disturbance.{Disturbance}
use Rattle.fc_image.specs.declared.uncounted.Disturbance.TheVariants.{Write, Exit, Skip, Leave, Enter}

-- ---- the jump, and the addition before it

-- a jump tests whether a register is below an immediate, in 64 bits.
abbrev pub is_below : Width → Relation → Operand → Bool
is_below W64 Lt (Imm n) = true
is_below width relation operand = false

abbrev pub compares_below : Insn → Bool
compares_below (JumpIf j) = is_below j.width j.relation j.right
compares_below insn = false

-- the bound of a conditional jump, if it is an immediate of 1 to 1,024.
abbrev pub has_bound : Insn → Option ℕ
has_bound (JumpIf j) = bound_of j.width j.relation j.right
has_bound insn = None

-- the step by which the instruction before a jump counts up the jump's register.
abbrev pub has_step : List Insn → ℕ → Insn → Option ℕ
has_step code slot (JumpIf j) = step_of (slice_get code (slot - 1)) j.left
has_step code slot insn = None

abbrev pub leads_earlier : ℕ → Insn → Bool
leads_earlier slot (JumpIf j) = nat_lt (landing slot j.offset) slot
leads_earlier slot insn = false

-- ---- the rest of the program

-- the way in which a jump to a place crosses a loop: past the addition to the back jump; out of the
-- body; into the body from outside.
abbrev pub crosses_by : Disturbance → Loop → ℕ → Option ℕ → Bool
crosses_by Skip l slot (Some t) = t == l.last
crosses_by Leave l slot (Some t) = is_in l slot && not (is_in l t)
crosses_by Enter l slot (Some t) = not (is_in l slot) && is_in l t
crosses_by by l slot place = false

-- the way in which an instruction disturbs a loop: in the body it writes the counter, and isn't the
-- addition; it is an exit in the body; or it is a jump that crosses the loop.
abbrev pub disturbs_by : Disturbance → Loop → ℕ → Insn → Bool
disturbs_by Write l slot insn = is_in l slot && (writes insn l.counter && not (suc slot == l.last))
disturbs_by Exit l slot insn = is_in l slot && is_exit insn
disturbs_by by l slot insn = with_offset (jump_offset insn) (λ o. crosses_by by l slot (target slot o))

-- the instruction at a slot of the program disturbs this loop in this way.
abbrev pub IsDisturbance : List Insn → Loop → Reason → Type 0
IsDisturbance code l (Disturbed m slot insn by) = (m ≡ l) × (slice_get code slot ≡ Some insn) × (disturbs_by by l slot insn ≡ true)
IsDisturbance code l reason = ⊥

-- the reason why the instruction at a slot isn't a counted loop's back jump; it is `NoLoops`
-- exactly if loops aren't allowed.
abbrev pub IsUncountedBy : Bool → List Insn → ℕ → Insn → Reason → Type 0
IsUncountedBy allowed code slot insn NoLoops = allowed ≡ false
IsUncountedBy allowed code slot insn Jump = (allowed ≡ true) × (compares_below insn ≡ false)
IsUncountedBy allowed code slot insn Bound = (allowed ≡ true) × (compares_below insn ≡ true) × (has_bound insn ≡ None)
IsUncountedBy allowed code slot insn Step = (allowed ≡ true) × (compares_below insn ≡ true) × (has_step code slot insn ≡ None)
IsUncountedBy allowed code slot insn Target = (allowed ≡ true) × (compares_below insn ≡ true) × (leads_earlier slot insn ≡ false)
IsUncountedBy allowed code slot insn (Disturbed l k i by) =
    (allowed ≡ true) × (loop_at code slot insn ≡ Some l) × IsDisturbance code l (Disturbed l k i by)

-- ---- results, if there are any

abbrev pub IsCrossing : Loop → ℕ → Option ℕ → Option Disturbance → Type 0
IsCrossing l slot place None = crosses l slot place ≡ false
IsCrossing l slot place (Some by) = (crosses l slot place ≡ true) × (crosses_by by l slot place ≡ true)

abbrev pub IsHow : Loop → ℕ → Insn → Option Disturbance → Type 0
IsHow l slot insn None = disturbs l slot insn ≡ false
IsHow l slot insn (Some by) = (disturbs l slot insn ≡ true) × (disturbs_by by l slot insn ≡ true)

abbrev pub IsDisturbed : List Insn → Loop → Option Reason → Type 0
IsDisturbed code l None = is_undisturbed code (Some l) ≡ true
IsDisturbed code l (Some reason) = (is_undisturbed code (Some l) ≡ false) × IsDisturbance code l reason

-- the instruction at a slot is a counted loop's back jump, or this is the reason why it isn't.
abbrev pub IsReason : Bool → List Insn → ℕ → Insn → Option Reason → Type 0
IsReason allowed code slot insn None = is_undisturbed code (loop_if allowed code slot insn) ≡ true
IsReason allowed code slot insn (Some reason) =
    (is_undisturbed code (loop_if allowed code slot insn) ≡ false) × IsUncountedBy allowed code slot insn reason
