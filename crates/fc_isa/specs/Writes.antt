-- The registers that an instruction writes.
use Rattle.std.specs.Prelude.{ℕ, ◌==◌, ◌||◌, ◌&&◌, Bool, true, false, nat_le, Option, Some, None}
use Rattle.fc_isa.specs.declared.insn.Insn.{Insn}
use Rattle.fc_isa.specs.declared.insn.Insn.TheVariants.{Alu, Unary, SignExtend, LoadWide, Load, CallHelper, CallLocal}

-- the register that an instruction computes.
abbrev pub computes : Insn → Option ℕ
computes (Alu op width dst operand) = Some dst
computes (Unary op dst) = Some dst
computes (SignExtend extension dst src) = Some dst
computes (LoadWide dst value) = Some dst
computes (Load loaded dst base offset) = Some dst
computes other = None

abbrev pub is_call : Insn → Bool
is_call (CallHelper number) = true
is_call (CallLocal offset) = true
is_call other = false

abbrev pub is_that : Option ℕ → ℕ → Bool
is_that None r = false
is_that (Some dst) r = dst == r

-- an instruction writes register r. A call writes R0 to R5.
abbrev pub writes : Insn → ℕ → Bool
writes insn r = is_that (computes insn) r || (is_call insn && nat_le r 5)
