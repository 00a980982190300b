-- Intervals of numbers, and the interval of each operation's results.
use Rattle.std.specs.Prelude.{ℕ, zero, suc, ◌+◌, ◌-◌, ◌*◌, ◌/◌, ◌%◌, ◌^◌, ◌==◌, ◌&&◌, not, Bool, true, false, nat_lt, nat_le, if◌then◌else◌, min, max, Option, Some, None}
use Rattle.fc_isa.specs.declared.insn.Width.{Width}
use Rattle.fc_isa.specs.declared.insn.AluOp.{AluOp}
use Rattle.fc_isa.specs.declared.insn.AluOp.TheVariants.{Add, Sub, Mul, Div, Or, And, Lsh, Rsh, Mod, Xor, Mov, Arsh, Sdiv, Smod}
use Rattle.fc_isa.specs.declared.insn.SignExtension.{SignExtension}
use Rattle.fc_isa.specs.declared.insn.SignExtension.TheVariants.{Byte, HalfWord, Word}
use Rattle.fc_isa.specs.declared.insn.Relation.{Relation}
use Rattle.fc_isa.specs.declared.insn.Relation.TheVariants.{Eq, Gt, Ge, Ne, Lt, Le}
use Rattle.fc_alu.specs.Words.{bits_of}
use Rattle.fc_kinds.specs.declared.interval.Interval.{Interval}

abbrev pub interval : ℕ → ℕ → Interval
interval lo hi = record { lo = lo; hi = hi }

-- every number of w bits.
abbrev pub all : ℕ → Interval
all w = interval 0 (2 ^ w - 1)

-- an interval of the low w bits of the numbers in an interval.
abbrev pub clipped : ℕ → Interval → Interval
clipped w s = if nat_lt s.hi (2 ^ w) then s else all w

abbrev pub added : ℕ → Interval → Interval → Interval
added w a b = if nat_lt (a.hi + b.hi) (2 ^ w) then interval (a.lo + b.lo) (a.hi + b.hi) else all w

abbrev pub subtracted : ℕ → Interval → Interval → Interval
subtracted w a b = if nat_le b.hi a.lo then interval (a.lo - b.hi) (a.hi - b.lo) else all w

abbrev pub multiplied : ℕ → Interval → Interval → Interval
multiplied w a b = if nat_lt (a.hi * b.hi) (2 ^ w) then interval (a.lo * b.lo) (a.hi * b.hi) else all w

abbrev pub divided : Interval → Interval → Interval
divided a b = if nat_le 1 b.lo then interval (a.lo / b.hi) (a.hi / b.lo) else interval 0 a.hi

abbrev pub moded : Interval → Interval → Interval
moded a b = if nat_le 1 b.lo then interval 0 (min a.hi (b.hi - 1)) else interval 0 a.hi

-- the least k up to w with n < 2 ^ k.
abbrev pub bits_needed : ℕ → ℕ → ℕ
bits_needed zero n = zero
bits_needed (suc k) n = if nat_lt n (2 ^ k) then bits_needed k n else suc k

abbrev pub merged : ℕ → Interval → Interval → Interval
merged w a b = interval 0 (2 ^ bits_needed w (max a.hi b.hi) - 1)

abbrev pub masked : Interval → Interval → Interval
masked a b = interval 0 (min a.hi b.hi)

abbrev pub shifted_left : ℕ → Interval → Interval → Interval
shifted_left w a b =
    if (b.lo == b.hi) && nat_lt (a.hi * 2 ^ (b.lo % w)) (2 ^ w)
    then interval (a.lo * 2 ^ (b.lo % w)) (a.hi * 2 ^ (b.lo % w))
    else all w

abbrev pub shifted_right : ℕ → Interval → Interval → Interval
shifted_right w a b = if b.lo == b.hi then interval (a.lo / 2 ^ (b.lo % w)) (a.hi / 2 ^ (b.lo % w)) else interval 0 a.hi

abbrev pub shifted_signed : ℕ → Interval → Interval → Interval
shifted_signed w a b =
    if (b.lo == b.hi) && nat_lt a.hi (2 ^ (w - 1))
    then interval (a.lo / 2 ^ (b.lo % w)) (a.hi / 2 ^ (b.lo % w))
    else all w

-- the interval of the results of an operation on numbers of w bits in these intervals.
unfoldable pub interval_of : ℕ → AluOp → Interval → Interval → Interval
interval_of w Mov a b = b
interval_of w Add a b = added w a b
interval_of w Sub a b = subtracted w a b
interval_of w Mul a b = multiplied w a b
interval_of w Div a b = divided a b
interval_of w Mod a b = moded a b
interval_of w Or a b = merged w a b
interval_of w Xor a b = merged w a b
interval_of w And a b = masked a b
interval_of w Lsh a b = shifted_left w a b
interval_of w Rsh a b = shifted_right w a b
interval_of w Arsh a b = shifted_signed w a b
interval_of w Sdiv a b = all w
interval_of w Smod a b = all w

-- the interval of the results of an operation on two registers, or on their low halves.
unfoldable pub alu_interval : AluOp → Width → Interval → Interval → Interval
alu_interval op width a b = interval_of (bits_of width) op (clipped (bits_of width) a) (clipped (bits_of width) b)

-- an interval of the low v bits, sign-extended to w bits.
abbrev pub extended_interval : ℕ → ℕ → Interval → Interval
extended_interval v w b = if nat_lt b.hi (2 ^ (v - 1)) then b else all w

unfoldable pub extended_values : SignExtension → Interval → Interval
extended_values (Byte width) b = extended_interval 8 (bits_of width) b
extended_values (HalfWord width) b = extended_interval 16 (bits_of width) b
extended_values Word b = extended_interval 32 64 b

-- ---- refinement: the intervals of two numbers in a relation; `None` if no two numbers are in it

-- both intervals if the test is true, else `None`.
abbrev pub both : Bool → Interval → Interval → Option (Interval × Interval)
both true a b = Some (a, b)
both false a b = None

-- the refinement of two intervals if the first number is above the second.
abbrev pub above : Interval → Interval → Option (Interval × Interval)
above a b = both (nat_lt b.lo a.hi) (interval (max a.lo (b.lo + 1)) a.hi) (interval b.lo (min b.hi (a.hi - 1)))

abbrev pub above_equal : Interval → Interval → Option (Interval × Interval)
above_equal a b = both (nat_le b.lo a.hi) (interval (max a.lo b.lo) a.hi) (interval b.lo (min b.hi a.hi))

abbrev pub exchanged : Option (Interval × Interval) → Option (Interval × Interval)
exchanged None = None
exchanged (Some p) = Some (p.1, p.0)

-- the numbers in both intervals.
abbrev pub overlap : Interval → Interval → Interval
overlap a b = interval (max a.lo b.lo) (min a.hi b.hi)

abbrev pub equal : Interval → Interval → Option (Interval × Interval)
equal a b = both (nat_le (max a.lo b.lo) (min a.hi b.hi)) (overlap a b) (overlap a b)

-- the interval without a number at one of its ends.
abbrev pub without : Interval → ℕ → Interval
without a n = if a.lo == n then interval (a.lo + 1) a.hi else (if a.hi == n then interval a.lo (a.hi - 1) else a)

abbrev pub is_one : Interval → Bool
is_one a = a.lo == a.hi

abbrev pub unequal : Interval → Interval → Option (Interval × Interval)
unequal a b = both (not (is_one a && (is_one b && (a.lo == b.lo)))) (if is_one b then without a b.lo else a) b

-- the refinement by a relation of all 64 bits.
unfoldable pub refined : Relation → Interval → Interval → Option (Interval × Interval)
refined Eq a b = equal a b
refined Gt a b = above a b
refined Ge a b = above_equal a b
refined Ne a b = unequal a b
refined Lt a b = exchanged (above b a)
refined Le a b = exchanged (above_equal b a)
refined relation a b = Some (a, b)

-- the relation on the branch not taken, for the relations that refine.
abbrev pub opposite : Relation → Relation
opposite Eq = Ne
opposite Gt = Le
opposite Ge = Lt
opposite Ne = Eq
opposite Lt = Ge
opposite Le = Gt
opposite other = other
