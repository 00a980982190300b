-- Wider intervals of the operands have a wider interval of results.
use Rattle.std.proofs.Common.{◌≡◌, inl, inr, ℕ, zero, suc, ◌-◌, ◌*◌, ◌/◌, ◌%◌, ◌^◌, ◌<◌, ◌≤◌, ◌==◌, ◌&&◌, Bool, true, false, nat_lt, if◌then◌else◌, max, refl, subst, arith}
use Rattle.std.proofs.lemmas.Bool.Decides.{nat_tests}
use Rattle.std.proofs.lemmas.Bool.{cases_lt}
use Rattle.std.proofs.lemmas.Nat.{pow_pos, pow_below, mul-le, le-div, shr_le}
use Rattle.std.proofs.Math.Nat.{div-le_self, mul-le-mul_left, mul-le-mul_right, div-mul-le_self}
use Rattle.fc_kinds.specs.declared.interval.Interval.{Interval}
use Rattle.fc_isa.specs.declared.insn.Width.{Width}
use Rattle.fc_isa.specs.declared.insn.Width.TheVariants.{W32, W64}
use Rattle.fc_isa.specs.declared.insn.AluOp.{AluOp}
use Rattle.fc_isa.specs.declared.insn.AluOp.TheVariants.{Add, Sub, Mul, Div, Or, And, Lsh, Rsh, Mod, Xor, Mov, Arsh, Sdiv, Smod}
use Rattle.fc_isa.specs.declared.insn.SignExtension.{SignExtension}
use Rattle.fc_isa.specs.declared.insn.SignExtension.TheVariants.{Byte, HalfWord, Word}
use Rattle.fc_alu.specs.Words.{bits_of}
use Rattle.fc_kinds.specs.Intervals.{alu_interval, extended_interval, extended_values, interval, all, clipped, added, subtracted, multiplied, divided, moded, bits_needed, merged, masked, shifted_left, shifted_right, shifted_signed, interval_of}
use Rattle.fc_kinds.specs.Containing.{IntervalWithin, IsInterval}

pub pow_up : (i j : ℕ) → i ≤ j → 2 ^ i ≤ 2 ^ j
pow_up i j h = elim (cases_lt i j) [
  | inl lt ↦ let p = pow_below i j lt in omega (arith, p)
  | inr ge ↦ let e : i ≡ j = omega (arith, h, ge) in subst (λ k. 2 ^ i ≤ 2 ^ k) e (omega arith)
]

-- quotients grow with the dividend, and fall with the divisor
pub div_grows : (a b d e : ℕ) → a ≤ b → 0 < e → e ≤ d → a / d ≤ b / e
div_grows a b d e h p q =
    let up : a / d * e ≤ a / d * d = mul-le-mul_left (a / d) q in
    let low : a / d * d ≤ a = div-mul-le_self a d in
    le-div (a / d) b e p (omega (arith, up, low, h))

added_grows : (w : ℕ) (a b a' b' : Interval) → IsInterval w a → IsInterval w b → IntervalWithin a a' → IntervalWithin b b' → IntervalWithin (added w a b) (added w a' b')
added_grows w a b a' b' p q h i = grind (arith, nat_tests, p, q, h, i)

subtracted_grows : (w : ℕ) (a b a' b' : Interval) → IsInterval w a → IsInterval w b → IntervalWithin a a' → IntervalWithin b b' → IntervalWithin (subtracted w a b) (subtracted w a' b')
subtracted_grows w a b a' b' p q h i = grind (arith, nat_tests, p, q, h, i)

multiplied_grows : (w : ℕ) (a b a' b' : Interval) → IsInterval w a → IsInterval w b → IntervalWithin a a' → IntervalWithin b b' → IntervalWithin (multiplied w a b) (multiplied w a' b')
multiplied_grows w a b a' b' p q h i =
    let m : a'.lo * b'.lo ≤ a.lo * b.lo = mul-le a'.lo b'.lo a.lo b.lo h.0 i.0 in
    let n : a.hi * b.hi ≤ a'.hi * b'.hi = mul-le a.hi b.hi a'.hi b'.hi h.1 i.1 in
    grind (arith, nat_tests, m, n)

divided_grows : (w : ℕ) (a b a' b' : Interval) → IsInterval w a → IsInterval w b → IntervalWithin a a' → IntervalWithin b b' → IntervalWithin (divided a b) (divided a' b')
divided_grows w a b a' b' p q h i =
    let low : 1 ≤ b'.lo → a'.lo / b'.hi ≤ a.lo / b.hi = λ one. div_grows a'.lo a.lo b'.hi b.hi h.0 (omega (arith, one, i, q)) i.1 in
    let high : 1 ≤ b'.lo → a.hi / b.lo ≤ a'.hi / b'.lo = λ one. div_grows a.hi a'.hi b.lo b'.lo h.1 (omega (arith, one)) i.0 in
    let self : a.hi / b.lo ≤ a.hi = div-le_self a.hi b.lo in
    grind (arith, nat_tests, p, q, h, i, low, high, self)

moded_grows : (w : ℕ) (a b a' b' : Interval) → IsInterval w a → IsInterval w b → IntervalWithin a a' → IntervalWithin b b' → IntervalWithin (moded a b) (moded a' b')
moded_grows w a b a' b' p q h i = grind (arith, nat_tests, p, q, h, i)

masked_grows : (w : ℕ) (a b a' b' : Interval) → IsInterval w a → IsInterval w b → IntervalWithin a a' → IntervalWithin b b' → IntervalWithin (masked a b) (masked a' b')
masked_grows w a b a' b' p q h i = grind (arith, nat_tests, p, q, h, i)

-- a number has at most the bits that `bits_needed` gives
pub needed_enough : (w n : ℕ) → n < 2 ^ w → n < 2 ^ bits_needed w n
needed_enough zero n h = h
needed_enough (suc k) n h = go (nat_lt n (2 ^ k)) refl (needed_enough k n)
  where
    go : (t : Bool) → nat_lt n (2 ^ k) ≡ t → (n < 2 ^ k → n < 2 ^ bits_needed k n) → n < 2 ^ (if t then bits_needed k n else suc k)
    go true e rest = rest (grind (arith, nat_tests, e))
    go false e rest = h

pub needed_least : (w n k : ℕ) → n < 2 ^ k → bits_needed w n ≤ k
needed_least zero n k h = omega arith
needed_least (suc w) n k h = go (nat_lt n (2 ^ w)) refl (needed_least w n k h)
  where
    go : (t : Bool) → nat_lt n (2 ^ w) ≡ t → bits_needed w n ≤ k → (if t then bits_needed w n else suc w) ≤ k
    go true e rest = rest
    go false e rest =
        let above : 2 ^ w ≤ n = grind (arith, nat_tests, e) in
        elim (cases_lt w k) [
          | inl lt ↦ omega (arith, lt)
          | inr ge ↦ let up = pow_up k w ge in absurd (omega (arith, h, above, up))
        ]

merged_grows : (w : ℕ) (a b a' b' : Interval) → IsInterval w a → IsInterval w b → IsInterval w a' → IsInterval w b' → IntervalWithin a a' → IntervalWithin b b' → IntervalWithin (merged w a b) (merged w a' b')
merged_grows w a b a' b' p q p' q' h i =
    let enough : max a'.hi b'.hi < 2 ^ bits_needed w (max a'.hi b'.hi) = needed_enough w (max a'.hi b'.hi) (grind (arith, p', q')) in
    let few : bits_needed w (max a.hi b.hi) ≤ bits_needed w (max a'.hi b'.hi) = needed_least w (max a.hi b.hi) (bits_needed w (max a'.hi b'.hi)) (grind (arith, h, i, enough)) in
    let up : 2 ^ bits_needed w (max a.hi b.hi) ≤ 2 ^ bits_needed w (max a'.hi b'.hi) = pow_up (bits_needed w (max a.hi b.hi)) (bits_needed w (max a'.hi b'.hi)) few in
    (omega arith, omega (arith, up))

shifted_left_grows : (w : ℕ) (a b a' b' : Interval) → IsInterval w a → IsInterval w b → IntervalWithin a a' → IntervalWithin b b' → IntervalWithin (shifted_left w a b) (shifted_left w a' b')
shifted_left_grows w a b a' b' p q h i = go (b'.lo == b'.hi) refl
  where
    go : (t : Bool) → (b'.lo == b'.hi) ≡ t → IntervalWithin (shifted_left w a b) (if t && nat_lt (a'.hi * 2 ^ (b'.lo % w)) (2 ^ w) then interval (a'.lo * 2 ^ (b'.lo % w)) (a'.hi * 2 ^ (b'.lo % w)) else all w)
    go false e = grind (arith, nat_tests, p)
    go true e =
        let one : b'.lo ≡ b'.hi = grind (arith, nat_tests, e) in
        let same : b.lo ≡ b'.lo = omega (arith, one, i, q) in
        let single : b.lo ≡ b.hi = omega (arith, one, i, q) in
        let m : a'.lo * 2 ^ (b'.lo % w) ≤ a.lo * 2 ^ (b'.lo % w) = mul-le-mul_right (2 ^ (b'.lo % w)) h.0 in
        let n : a.hi * 2 ^ (b'.lo % w) ≤ a'.hi * 2 ^ (b'.lo % w) = mul-le-mul_right (2 ^ (b'.lo % w)) h.1 in
        grind (arith, nat_tests, same, single, m, n)

shifted_right_grows : (w : ℕ) (a b a' b' : Interval) → IsInterval w a → IsInterval w b → IntervalWithin a a' → IntervalWithin b b' → IntervalWithin (shifted_right w a b) (shifted_right w a' b')
shifted_right_grows w a b a' b' p q h i = go (b'.lo == b'.hi) refl
  where
    go : (t : Bool) → (b'.lo == b'.hi) ≡ t → IntervalWithin (shifted_right w a b) (if t then interval (a'.lo / 2 ^ (b'.lo % w)) (a'.hi / 2 ^ (b'.lo % w)) else interval 0 a'.hi)
    go false e = let less : a.hi / 2 ^ (b.lo % w) ≤ a.hi = shr_le a.hi (b.lo % w) in grind (arith, nat_tests, h, less)
    go true e =
        let one : b'.lo ≡ b'.hi = grind (arith, nat_tests, e) in
        let same : b.lo ≡ b'.lo = omega (arith, one, i, q) in
        let single : b.lo ≡ b.hi = omega (arith, one, i, q) in
        let m : a'.lo / 2 ^ (b'.lo % w) ≤ a.lo / 2 ^ (b'.lo % w) = div_grows a'.lo a.lo (2 ^ (b'.lo % w)) (2 ^ (b'.lo % w)) h.0 (pow_pos (b'.lo % w)) (omega arith) in
        let n : a.hi / 2 ^ (b'.lo % w) ≤ a'.hi / 2 ^ (b'.lo % w) = div_grows a.hi a'.hi (2 ^ (b'.lo % w)) (2 ^ (b'.lo % w)) h.1 (pow_pos (b'.lo % w)) (omega arith) in
        grind (arith, nat_tests, same, single, m, n)

shifted_signed_grows : (w : ℕ) (a b a' b' : Interval) → IsInterval w a → IsInterval w b → IntervalWithin a a' → IntervalWithin b b' → IntervalWithin (shifted_signed w a b) (shifted_signed w a' b')
shifted_signed_grows w a b a' b' p q h i = go (b'.lo == b'.hi) refl
  where
    go : (t : Bool) → (b'.lo == b'.hi) ≡ t → IntervalWithin (shifted_signed w a b) (if t && nat_lt a'.hi (2 ^ (w - 1)) then interval (a'.lo / 2 ^ (b'.lo % w)) (a'.hi / 2 ^ (b'.lo % w)) else all w)
    go false e = let less : a.hi / 2 ^ (b.lo % w) ≤ a.hi = shr_le a.hi (b.lo % w) in grind (arith, nat_tests, p, less)
    go true e =
        let one : b'.lo ≡ b'.hi = grind (arith, nat_tests, e) in
        let same : b.lo ≡ b'.lo = omega (arith, one, i, q) in
        let single : b.lo ≡ b.hi = omega (arith, one, i, q) in
        let less : a.hi / 2 ^ (b'.lo % w) ≤ a.hi = shr_le a.hi (b'.lo % w) in
        let m : a'.lo / 2 ^ (b'.lo % w) ≤ a.lo / 2 ^ (b'.lo % w) = div_grows a'.lo a.lo (2 ^ (b'.lo % w)) (2 ^ (b'.lo % w)) h.0 (pow_pos (b'.lo % w)) (omega arith) in
        let n : a.hi / 2 ^ (b'.lo % w) ≤ a'.hi / 2 ^ (b'.lo % w) = div_grows a.hi a'.hi (2 ^ (b'.lo % w)) (2 ^ (b'.lo % w)) h.1 (pow_pos (b'.lo % w)) (omega arith) in
        grind (arith, nat_tests, p, h, same, single, less, m, n)

pub clipped_grows : (w : ℕ) (a a' : Interval) → IntervalWithin a a' → IntervalWithin (clipped w a) (clipped w a')
clipped_grows w a a' h = grind (arith, nat_tests, h)

pub clipped_proper : (w : ℕ) (a : Interval) → a.lo ≤ a.hi → IsInterval w (clipped w a)
clipped_proper w a h = let p = pow_pos w in grind (arith, nat_tests, h, p)

wider_proper : (a a' : Interval) → a.lo ≤ a.hi → IntervalWithin a a' → a'.lo ≤ a'.hi
wider_proper a a' p h = omega (arith, p, h)

all_within : (w : ℕ) → IntervalWithin (all w) (all w)
all_within w = (omega arith, omega arith)

span_grows : (w : ℕ) (op : AluOp) (a b a' b' : Interval) → IsInterval w a → IsInterval w b → IsInterval w a' → IsInterval w b' → IntervalWithin a a' → IntervalWithin b b' → IntervalWithin (interval_of w op a b) (interval_of w op a' b')
unfolding interval_of
span_grows w Add a b a' b' p q p' q' h i = added_grows w a b a' b' p q h i
span_grows w Sub a b a' b' p q p' q' h i = subtracted_grows w a b a' b' p q h i
span_grows w Mul a b a' b' p q p' q' h i = multiplied_grows w a b a' b' p q h i
span_grows w Div a b a' b' p q p' q' h i = divided_grows w a b a' b' p q h i
span_grows w Or a b a' b' p q p' q' h i = merged_grows w a b a' b' p q p' q' h i
span_grows w And a b a' b' p q p' q' h i = masked_grows w a b a' b' p q h i
span_grows w Lsh a b a' b' p q p' q' h i = shifted_left_grows w a b a' b' p q h i
span_grows w Rsh a b a' b' p q p' q' h i = shifted_right_grows w a b a' b' p q h i
span_grows w Mod a b a' b' p q p' q' h i = moded_grows w a b a' b' p q h i
span_grows w Xor a b a' b' p q p' q' h i = merged_grows w a b a' b' p q p' q' h i
span_grows w Mov a b a' b' p q p' q' h i = i
span_grows w Arsh a b a' b' p q p' q' h i = shifted_signed_grows w a b a' b' p q h i
span_grows w Sdiv a b a' b' p q p' q' h i = all_within w
span_grows w Smod a b a' b' p q p' q' h i = all_within w

-- the interval of an operation on wider intervals is wider
pub alu_interval_grows : (op : AluOp) (width : Width) (a b a' b' : Interval) → a.lo ≤ a.hi → b.lo ≤ b.hi → IntervalWithin a a' → IntervalWithin b b' → IntervalWithin (alu_interval op width a b) (alu_interval op width a' b')
unfolding alu_interval
alu_interval_grows op width a b a' b' p q h i =
    let w = bits_of width in
    span_grows w op (clipped w a) (clipped w b) (clipped w a') (clipped w b') (clipped_proper w a p) (clipped_proper w b q)
    (clipped_proper w a' (wider_proper a a' p h)) (clipped_proper w b' (wider_proper b b' q i)) (clipped_grows w a a' h) (clipped_grows w b b' i)

extended_grows : (v w : ℕ) (b b' : Interval) → v ≤ w → IntervalWithin b b' → IntervalWithin (extended_interval v w b) (extended_interval v w b')
extended_grows v w b b' le h =
    let up : 2 ^ (v - 1) ≤ 2 ^ w = pow_up (v - 1) w (omega (arith, le)) in
    grind (arith, nat_tests, h, up)

pub sign_extended_grows : (e : SignExtension) (b b' : Interval) → IntervalWithin b b' → IntervalWithin (extended_values e b) (extended_values e b')
unfolding extended_values
sign_extended_grows (Byte W32) b b' h = extended_grows 8 32 b b' (omega arith) h
sign_extended_grows (Byte W64) b b' h = extended_grows 8 64 b b' (omega arith) h
sign_extended_grows (HalfWord W32) b b' h = extended_grows 16 32 b b' (omega arith) h
sign_extended_grows (HalfWord W64) b b' h = extended_grows 16 64 b b' (omega arith) h
sign_extended_grows Word b b' h = extended_grows 32 64 b b' (omega arith) h
