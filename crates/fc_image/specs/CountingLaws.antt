-- The form of a counted loop in a program: its back jump and the addition before it, and the
-- instructions that don't disturb it.
use Rattle.std.specs.Prelude.{◌≡◌, ◌≢◌, ◌⊎◌, ℕ, suc, ◌-◌, ◌<◌, ◌≤◌, false, ℤ, pos, List, Some, slice_get}
use Rattle.fc_isa.specs.declared.insn.Width.TheVariants.{W64}
use Rattle.fc_isa.specs.declared.insn.AluOp.TheVariants.{Add}
use Rattle.fc_isa.specs.declared.insn.Relation.TheVariants.{Lt}
use Rattle.fc_isa.specs.declared.insn.Operand.TheVariants.{Imm}
use Rattle.fc_isa.specs.declared.insn.Jump.{Jump}
use Rattle.fc_isa.specs.declared.insn.Insn.{Insn}
use Rattle.fc_isa.specs.declared.insn.Insn.TheVariants.{Alu, Exit}
use Rattle.fc_isa.specs.Flow.{jump_offset, landing, target}
use Rattle.fc_isa.specs.Writes.{writes}
use Rattle.fc_image.specs.declared.loops.Loop.{Loop}

-- the jump at a slot, `jlt counter, bound`, directly follows `add64 counter, step` and leads back
-- to the head; the bound is 1 to 1,024, and the step at least 1.
pub record CountsUp (code : List Insn) (slot : ℕ) (j : Jump) (l : Loop) : Type 0 where
  pub width : j.width ≡ W64
  pub relation : j.relation ≡ Lt
  pub left : j.left ≡ l.counter
  pub right : j.right ≡ Imm (pos l.bound)
  pub some : 1 ≤ l.bound
  pub few : l.bound ≤ 1024
  pub adds : slice_get code (slot - 1) ≡ Some (Alu Add W64 l.counter (Imm (pos l.step)))
  pub step : 1 ≤ l.step
  pub head : landing slot j.offset ≡ l.head
  pub last : l.last ≡ slot
  pub back : l.head < slot

-- a slot is in a loop's body: from the loop's head to its back jump.
abbrev pub IsInBody : Loop → ℕ → Type 0
IsInBody l k = (l.head ≤ k) × (k ≤ l.last)

abbrev pub IsOutside : Loop → ℕ → Type 0
IsOutside l k = (k < l.head) ⊎ (l.last < k)

-- the jump of the instruction at slot k, if it has one, leads to slot t.
abbrev pub JumpsTo : ℕ → Insn → ℕ → Type 0
JumpsTo k insn t = (o : ℤ) × (jump_offset insn ≡ Some o) × (target k o ≡ Some t)

-- the instruction at slot k doesn't disturb the loop: in the body it isn't an exit, and only the
-- addition writes the counter; it doesn't jump out of the body, into the body from outside, or to
-- the back jump.
pub record LeavesLoop (l : Loop) (k : ℕ) (insn : Insn) : Type 0 where
  pub no_exit : IsInBody l k → insn ≢ Exit
  pub no_write : IsInBody l k → suc k ≢ l.last → writes insn l.counter ≡ false
  pub no_way_out : (t : ℕ) → JumpsTo k insn t → IsInBody l k → IsOutside l t → ⊥
  pub no_way_in : (t : ℕ) → JumpsTo k insn t → IsOutside l k → IsInBody l t → ⊥
  pub no_skip : (t : ℕ) → JumpsTo k insn t → t ≢ l.last
