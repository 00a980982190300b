-- The interval of an operation contains a number, and only numbers of the width.
use Rattle.std.proofs.Common.{ℕ, ◌*◌, ◌/◌, ◌%◌, ◌^◌, ◌≤◌, max, arith}
use Rattle.std.proofs.lemmas.Bool.Decides.{nat_tests}
use Rattle.std.proofs.lemmas.Nat.{pow_pos, mul-le, shr_le}
use Rattle.std.proofs.Math.Nat.{div-le_self, mul-le-mul_right}
use Rattle.fc_isa.specs.declared.insn.Width.{Width}
use Rattle.fc_isa.specs.declared.insn.AluOp.{AluOp}
use Rattle.fc_isa.specs.declared.insn.AluOp.TheVariants.{Add, Sub, Mul, Div, Or, And, Lsh, Rsh, Mod, Xor, Mov, Arsh, Sdiv, Smod}
use Rattle.fc_isa.specs.declared.insn.SignExtension.{SignExtension}
use Rattle.fc_isa.specs.declared.insn.SignExtension.TheVariants.{Byte, HalfWord, Word}
use Rattle.fc_alu.specs.Words.{bits_of}
use Rattle.fc_kinds.specs.declared.interval.Interval.{Interval}
use Rattle.fc_kinds.specs.Intervals.{all, clipped, multiplied, divided, bits_needed, merged, shifted_left, shifted_right, shifted_signed, interval_of, alu_interval, extended_interval, extended_values}
use Rattle.fc_kinds.specs.Containing.{IsInterval}
use Rattle.fc_kinds.proofs.IntervalsGrow.{div_grows, needed_least, pow_up, clipped_proper}

pub all_proper : (w : ℕ) → IsInterval w (all w)
all_proper w = let p = pow_pos w in (omega arith, omega (arith, p))

merged_proper : (w : ℕ) (a b : Interval) → IsInterval w a → IsInterval w b → IsInterval w (merged w a b)
merged_proper w a b p q =
    let few : bits_needed w (max a.hi b.hi) ≤ w = needed_least w (max a.hi b.hi) w (grind (arith, p, q)) in
    let up = pow_up (bits_needed w (max a.hi b.hi)) w few in
    let some = pow_pos (bits_needed w (max a.hi b.hi)) in
    (omega arith, omega (arith, up, some))

multiplied_proper : (w : ℕ) (a b : Interval) → IsInterval w a → IsInterval w b → IsInterval w (multiplied w a b)
multiplied_proper w a b p q =
    let m : a.lo * b.lo ≤ a.hi * b.hi = mul-le a.lo b.lo a.hi b.hi p.0 q.0 in
    let some = pow_pos w in
    grind (arith, nat_tests, m, some)

divided_proper : (w : ℕ) (a b : Interval) → IsInterval w a → IsInterval w b → IsInterval w (divided a b)
divided_proper w a b p q =
    let m : 1 ≤ b.lo → a.lo / b.hi ≤ a.hi / b.lo = λ one. div_grows a.lo a.hi b.hi b.lo p.0 (omega (arith, one)) q.0 in
    let self : a.hi / b.lo ≤ a.hi = div-le_self a.hi b.lo in
    grind (arith, nat_tests, p, q, m, self)

shifted_left_proper : (w : ℕ) (a b : Interval) → IsInterval w a → IsInterval w b → IsInterval w (shifted_left w a b)
shifted_left_proper w a b p q =
    let m : a.lo * 2 ^ (b.lo % w) ≤ a.hi * 2 ^ (b.lo % w) = mul-le-mul_right (2 ^ (b.lo % w)) p.0 in
    let some = pow_pos w in
    grind (arith, nat_tests, m, some)

shifted_right_proper : (w : ℕ) (a b : Interval) → IsInterval w a → IsInterval w b → IsInterval w (shifted_right w a b)
shifted_right_proper w a b p q =
    let m = div_grows a.lo a.hi (2 ^ (b.lo % w)) (2 ^ (b.lo % w)) p.0 (pow_pos (b.lo % w)) (omega arith) in
    let less = shr_le a.hi (b.lo % w) in
    grind (arith, nat_tests, p, m, less)

shifted_signed_proper : (w : ℕ) (a b : Interval) → IsInterval w a → IsInterval w b → IsInterval w (shifted_signed w a b)
shifted_signed_proper w a b p q =
    let m = div_grows a.lo a.hi (2 ^ (b.lo % w)) (2 ^ (b.lo % w)) p.0 (pow_pos (b.lo % w)) (omega arith) in
    let less = shr_le a.hi (b.lo % w) in
    let some = pow_pos w in
    grind (arith, nat_tests, p, m, less, some)

pub span_proper : (w : ℕ) (op : AluOp) (a b : Interval) → IsInterval w a → IsInterval w b → IsInterval w (interval_of w op a b)
unfolding interval_of
span_proper w Add a b p q = let some = pow_pos w in grind (arith, nat_tests, p, q, some)
span_proper w Sub a b p q = let some = pow_pos w in grind (arith, nat_tests, p, q, some)
span_proper w Mul a b p q = multiplied_proper w a b p q
span_proper w Div a b p q = divided_proper w a b p q
span_proper w Or a b p q = merged_proper w a b p q
span_proper w And a b p q = grind (arith, p, q)
span_proper w Lsh a b p q = shifted_left_proper w a b p q
span_proper w Rsh a b p q = shifted_right_proper w a b p q
span_proper w Mod a b p q = grind (arith, nat_tests, p, q)
span_proper w Xor a b p q = merged_proper w a b p q
span_proper w Mov a b p q = q
span_proper w Arsh a b p q = shifted_signed_proper w a b p q
span_proper w Sdiv a b p q = all_proper w
span_proper w Smod a b p q = all_proper w

pub alu_interval_proper : (op : AluOp) (width : Width) (a b : Interval) → a.lo ≤ a.hi → b.lo ≤ b.hi → IsInterval (bits_of width) (alu_interval op width a b)
unfolding alu_interval
alu_interval_proper op width a b p q =
    span_proper (bits_of width) op (clipped (bits_of width) a) (clipped (bits_of width) b) (clipped_proper (bits_of width) a p) (clipped_proper (bits_of width) b q)

extended_proper : (v w : ℕ) (b : Interval) → b.lo ≤ b.hi → (extended_interval v w b).lo ≤ (extended_interval v w b).hi
extended_proper v w b p = grind (arith, nat_tests, p)

pub sign_extended_proper : (e : SignExtension) (b : Interval) → b.lo ≤ b.hi → (extended_values e b).lo ≤ (extended_values e b).hi
unfolding extended_values
sign_extended_proper (Byte width) b p = extended_proper 8 (bits_of width) b p
sign_extended_proper (HalfWord width) b p = extended_proper 16 (bits_of width) b p
sign_extended_proper Word b p = extended_proper 32 64 b p
