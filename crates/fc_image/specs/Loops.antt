-- Counted loops: `add64 r, c`, directly followed by `jlt r, n` back to the head of the loop.
use Rattle.std.specs.Prelude.{ℕ, suc, ◌-◌, ◌==◌, ◌||◌, ◌&&◌, not, nat_lt, nat_le, Bool, true, false, if◌then◌else◌, pos, List, [], ◌∷◌, take, drop, Option, Some, None, slice_get}
use Rattle.std.specs.List.{list_any}
use Rattle.fc_isa.specs.declared.insn.Width.{Width}
use Rattle.fc_isa.specs.declared.insn.Width.TheVariants.{W64}
use Rattle.fc_isa.specs.declared.insn.AluOp.TheVariants.{Add}
use Rattle.fc_isa.specs.declared.insn.Relation.{Relation}
use Rattle.fc_isa.specs.declared.insn.Relation.TheVariants.{Lt}
use Rattle.fc_isa.specs.declared.insn.Operand.{Operand}
use Rattle.fc_isa.specs.declared.insn.Operand.TheVariants.{Imm}
use Rattle.fc_isa.specs.declared.insn.Jump.{Jump}
use Rattle.fc_isa.specs.declared.insn.Insn.{Insn}
use Rattle.fc_isa.specs.declared.insn.Insn.TheVariants.{Alu, JumpIf, Exit}
use Rattle.fc_isa.specs.declared.version.ImageVersion.{ImageVersion}
use Rattle.fc_isa.specs.Flow.{jump_offset, target, landing}
use Rattle.fc_isa.specs.Writes.{is_call, writes}
use Rattle.fc_image.specs.Functions.{with_offset}
use Rattle.fc_image.specs.Head.{loops_allowed}
use Rattle.fc_image.specs.declared.loops.Loop.{Loop}

-- the bound of a jump that tests whether its register is below an immediate of 1 to 1,024.
abbrev pub bound_of : Width → Relation → Operand → Option ℕ
bound_of W64 Lt (Imm (pos n)) = if nat_le 1 n && nat_le n 1024 then Some n else None
bound_of width relation operand = None

-- the step by which an instruction counts a register up.
abbrev pub step_of : Option Insn → ℕ → Option ℕ
step_of (Some (Alu Add W64 dst (Imm (pos c)))) r = if (dst == r) && nat_le 1 c then Some c else None
step_of insn r = None

abbrev pub loop_by : ℕ → Jump → Option ℕ → Option ℕ → Option Loop
loop_by slot j (Some bound) (Some step) =
    if nat_lt (landing slot j.offset) slot
    then Some (record { head = landing slot j.offset; last = slot; counter = j.left; bound = bound; step = step })
    else None
loop_by slot j bound step = None

-- the loop of which an instruction would be the back jump, if only this instruction and the one
-- before it are considered.
abbrev pub loop_at : List Insn → ℕ → Insn → Option Loop
loop_at code slot (JumpIf j) =
    loop_by slot j (bound_of j.width j.relation j.right) (step_of (slice_get code (slot - 1)) j.left)
loop_at code slot insn = None

-- ---- the instructions of a body, and jumps into it

abbrev pub is_in : Loop → ℕ → Bool
is_in l slot = nat_le l.head slot && nat_le slot l.last

abbrev pub is_exit : Insn → Bool
is_exit Exit = true
is_exit insn = false

-- an instruction of the body other than the addition writes the counter, or is an exit.
abbrev pub spoils : Loop → ℕ → Insn → Bool
spoils l slot insn = is_in l slot && ((writes insn l.counter && not (suc slot == l.last)) || is_exit insn)

-- a jump leads into the body from outside, out of the body, or to the loop's back jump.
abbrev pub crosses : Loop → ℕ → Option ℕ → Bool
crosses l slot None = false
crosses l slot (Some t) = (if is_in l slot then not (is_in l t) else is_in l t) || (t == l.last)

abbrev pub disturbs : Loop → ℕ → Insn → Bool
disturbs l slot insn = spoils l slot insn || with_offset (jump_offset insn) (λ o. crosses l slot (target slot o))

-- one of these slots passes the test; `slot` is the first of them.
abbrev pub some_slot : (ℕ → Insn → Bool) → ℕ → List Insn → Bool
some_slot test slot [] = false
some_slot test slot (insn ∷ code) = test slot insn || some_slot test (suc slot) code

abbrev pub is_undisturbed : List Insn → Option Loop → Bool
is_undisturbed code None = false
is_undisturbed code (Some l) = not (some_slot (disturbs l) 0 code)

-- ---- the loops of a program

-- the loop of which an instruction would be the back jump, if loops are allowed.
abbrev pub loop_if : Bool → List Insn → ℕ → Insn → Option Loop
loop_if false code slot insn = None
loop_if true code slot insn = loop_at code slot insn

abbrev pub and_loop : Option Loop → List Loop → List Loop
and_loop None loops = loops
and_loop (Some l) loops = l ∷ loops

abbrev pub loops_from : Bool → List Insn → ℕ → List Insn → List Loop
loops_from allowed code slot [] = []
loops_from allowed code slot (insn ∷ rest) = and_loop (loop_if allowed code slot insn) (loops_from allowed code (suc slot) rest)

unfoldable pub loops_of : Bool → List Insn → List Loop
loops_of allowed code = loops_from allowed code 0 code

-- the loops of a program of an image's version.
abbrev pub loops_in : ImageVersion → List Insn → List Loop
loops_in version code = loops_of (loops_allowed version) code

-- the loop that begins at a slot, and the one with its back jump at the slot.
abbrev pub begins : List Loop → ℕ → Option Loop
begins [] slot = None
begins (l ∷ loops) slot = if l.head == slot then Some l else begins loops slot

abbrev pub ends : List Loop → ℕ → Option Loop
ends [] slot = None
ends (l ∷ loops) slot = if l.last == slot then Some l else ends loops slot

-- ---- the registers that a body writes, statically: whether or not the code is reachable

abbrev pub body : List Insn → Loop → List Insn
body code l = take (suc l.last - l.head) (drop l.head code)

unfoldable pub is_written : List Insn → Loop → ℕ → Bool
is_written code l r = list_any (λ insn. writes insn r) (body code l)

unfoldable pub has_call : List Insn → Loop → Bool
has_call code l = list_any is_call (body code l)
