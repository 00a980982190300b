-- The result of an arithmetic instruction.
use Rattle.std.specs.Prelude.{ℕ, Bool, true, false}
use Rattle.fc_isa.specs.declared.insn.Insn.{Insn}
use Rattle.fc_isa.specs.declared.insn.Insn.TheVariants.{Alu, Unary, SignExtend}
use Rattle.fc_alu.specs.Arithmetic.{computed_at, sign_extended, unary_result}

abbrev pub is_computation : Insn → Bool
is_computation (Alu op width dst operand) = true
is_computation (Unary op dst) = true
is_computation (SignExtend extension dst src) = true
is_computation other = false

-- the value of the destination after an arithmetic instruction: a is the destination's value
-- before, and b the value of the operand or source.
unfoldable pub alu : Insn → ℕ → ℕ → ℕ
alu (Alu op width dst operand) a b = computed_at op width a b
alu (Unary op dst) a b = unary_result op a
alu (SignExtend extension dst src) a b = sign_extended extension b
alu other a b = a
