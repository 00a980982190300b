-- Short programs for which the checks of the two versions differ.
use Rattle.std.specs.Prelude.{ℕ, zero, suc, pos, negsuc, List, [], ◌∷◌}
use Rattle.fc_isa.specs.declared.insn.AluOp.TheVariants.{Add, Mov}
use Rattle.fc_isa.specs.declared.insn.Insn.{Insn}
use Rattle.fc_isa.specs.declared.insn.Insn.TheVariants.{Alu, JumpIf, CallLocal, Exit}
use Rattle.fc_isa.specs.declared.insn.Operand.TheVariants.{Imm}
use Rattle.fc_isa.specs.declared.insn.Relation.TheVariants.{Lt}
use Rattle.fc_isa.specs.declared.insn.Width.TheVariants.{W64}

-- a function that sets R0 to zero, and exits.
abbrev pub zero_function : List Insn
zero_function = Alu Mov W64 0 (Imm (pos 0)) ∷ Exit ∷ []

-- a program of n functions, each of which calls the next.
abbrev pub call_chain : ℕ → List Insn
call_chain zero = []
call_chain (suc zero) = zero_function
call_chain (suc (suc n)) = CallLocal (pos 1) ∷ Exit ∷ call_chain (suc n)

-- a loop in which R1 counts from 0 by ones to a bound: `add64 r1, 1`, and `jlt r1, bound` back to
-- the addition.
abbrev pub counted_to : ℕ → List Insn
counted_to bound =
    Alu Mov W64 1 (Imm (pos 0)) ∷ Alu Add W64 1 (Imm (pos 1))
    ∷ JumpIf (record { width = W64; relation = Lt; left = 1; right = Imm (pos bound); offset = negsuc 1 }) ∷ zero_function
