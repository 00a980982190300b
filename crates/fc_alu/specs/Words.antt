-- Numbers of w bits, read with and without a sign (RFC 9669, sections 2.1 and 2.3).
use Rattle.std.specs.Prelude.{ℕ, ◌-◌, ◌%◌, ◌^◌, nat_lt, if◌then◌else◌, ℤ, pos, negsuc, ◌-ℤ◌}
use Rattle.fc_isa.specs.declared.insn.Width.{Width}
use Rattle.fc_isa.specs.declared.insn.Width.TheVariants.{W32, W64}

abbrev pub bits_of : Width → ℕ
bits_of W32 = 32
bits_of W64 = 64

-- the low w bits.
abbrev pub low_bits : ℕ → ℕ → ℕ
low_bits w n = n % 2 ^ w

-- a number of w bits in two's complement: from 2 ^ (w - 1) on it is negative.
abbrev pub signed : ℕ → ℕ → ℤ
signed w n = if nat_lt n (2 ^ (w - 1)) then pos n else (pos n -ℤ pos (2 ^ w))

-- a whole number in w bits: its non-negative remainder modulo 2 ^ w.
abbrev pub unsigned : ℕ → ℤ → ℕ
unsigned w (pos n) = n % 2 ^ w
unsigned w (negsuc n) = 2 ^ w - 1 - n % 2 ^ w
