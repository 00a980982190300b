-- The results of an operation are in its interval.
use Rattle.std.proofs.Common.{◌≡◌, ℕ, ◌+◌, ◌-◌, ◌*◌, ◌/◌, ◌%◌, ◌^◌, ◌<◌, ◌≤◌, ◌==◌, ◌&&◌, Bool, true, false, nat_lt, nat_le, if◌then◌else◌, max, ℤ, pos, negsuc, refl, ap, ◌∙◌, arith}
use Rattle.std.proofs.lemmas.Bool.Decides.{nat_tests}
use Rattle.std.proofs.lemmas.Nat.{pow_pos, mul-le, shr_le, or_lt, xor_lt, and_le_l, and_le_r, mod_below}
use Rattle.std.proofs.Math.Nat.{div-le_self, mul-le-mul_right, mod-eq_of_lt, mod-le, add-mod_right}
use Rattle.std.specs.Int.Bits.{bit_and, bit_or, bit_xor}
use Rattle.fc_isa.specs.declared.insn.Width.{Width}
use Rattle.fc_isa.specs.declared.insn.Width.TheVariants.{W32, W64}
use Rattle.fc_isa.specs.declared.insn.AluOp.{AluOp}
use Rattle.fc_isa.specs.declared.insn.AluOp.TheVariants.{Add, Sub, Mul, Div, Or, And, Lsh, Rsh, Mod, Xor, Mov, Arsh, Sdiv, Smod}
use Rattle.fc_isa.specs.declared.insn.SignExtension.{SignExtension}
use Rattle.fc_isa.specs.declared.insn.SignExtension.TheVariants.{Byte, HalfWord, Word}
use Rattle.fc_alu.specs.Arithmetic as D
use Rattle.fc_alu.specs.Words.{bits_of, signed, unsigned}
use Rattle.fc_alu.specs.Arithmetic.{floor_halved, computed, computed_at, extended_sign}
use Rattle.fc_kinds.specs.declared.interval.Interval.{Interval}
use Rattle.fc_kinds.specs.Intervals.{interval, all, clipped, added, subtracted, multiplied, divided, moded, bits_needed, merged, masked, shifted_left, shifted_right, shifted_signed, interval_of, alu_interval, extended_interval, extended_values}
use Rattle.fc_kinds.specs.Containing.{Inside, IsInterval}
use Rattle.fc_kinds.proofs.IntervalsGrow.{div_grows, needed_enough, pow_up, clipped_proper}

-- the two's complement of a whole number is below 2 ^ w
pub unsigned_below : (w : ℕ) (z : ℤ) → unsigned w z < 2 ^ w
unsigned_below w (pos n) = mod_below n (2 ^ w) (pow_pos w)
unsigned_below w (negsuc n) = let p = pow_pos w in omega (arith, p)

in_all : (w n : ℕ) → n < 2 ^ w → Inside n (all w)
in_all w n h = (omega arith, omega (arith, h))

any : (w : ℕ) (z : ℤ) → Inside (unsigned w z) (all w)
any w z = in_all w (unsigned w z) (unsigned_below w z)

added_in : (w x y : ℕ) (a b : Interval) → x < 2 ^ w → y < 2 ^ w → Inside x a → Inside y b → Inside ((x + y) % 2 ^ w) (added w a b)
added_in w x y a b p q h i =
    let r : (x + y) % 2 ^ w < 2 ^ w = mod_below (x + y) (2 ^ w) (pow_pos w) in
    let small : x + y < 2 ^ w → (x + y) % 2 ^ w ≡ x + y = λ lt. mod-eq_of_lt lt in
    grind (arith, nat_tests, h, i, r, small)

-- adding the modulus doesn't change a remainder
turn : (m d : ℕ) → d < m → (d + m) % m ≡ d
turn m d h = add-mod_right d m ∙ mod-eq_of_lt h

subtracted_in : (w x y : ℕ) (a b : Interval) → x < 2 ^ w → y < 2 ^ w → Inside x a → Inside y b → Inside ((x + (2 ^ w - y)) % 2 ^ w) (subtracted w a b)
subtracted_in w x y a b p q h i = go (nat_le b.hi a.lo) refl
  where
    go : (t : Bool) → nat_le b.hi a.lo ≡ t → Inside ((x + (2 ^ w - y)) % 2 ^ w) (if t then interval (a.lo - b.hi) (a.hi - b.lo) else all w)
    go false e = in_all w _ (mod_below (x + (2 ^ w - y)) (2 ^ w) (pow_pos w))
    go true e =
        let le : b.hi ≤ a.lo = grind (arith, nat_tests, e) in
        let turned : x + (2 ^ w - y) ≡ (x - y) + 2 ^ w = omega (arith, h, i, q, le) in
        let same : (x + (2 ^ w - y)) % 2 ^ w ≡ x - y = ap (λ n. n % 2 ^ w) turned ∙ turn (2 ^ w) (x - y) (omega (arith, p)) in
        (omega (arith, same, h, i, le), omega (arith, same, h, i, le))

multiplied_in : (w x y : ℕ) (a b : Interval) → x < 2 ^ w → y < 2 ^ w → Inside x a → Inside y b → Inside ((x * y) % 2 ^ w) (multiplied w a b)
multiplied_in w x y a b p q h i =
    let m : a.lo * b.lo ≤ x * y = mul-le a.lo b.lo x y h.0 i.0 in
    let n : x * y ≤ a.hi * b.hi = mul-le x y a.hi b.hi h.1 i.1 in
    let r : (x * y) % 2 ^ w < 2 ^ w = mod_below (x * y) (2 ^ w) (pow_pos w) in
    let small : x * y < 2 ^ w → (x * y) % 2 ^ w ≡ x * y = λ lt. mod-eq_of_lt lt in
    grind (arith, nat_tests, m, n, r, small)

divided_in : (w x y : ℕ) (a b : Interval) → Inside x a → Inside y b → Inside (if y == 0 then 0 else (x / y)) (divided a b)
divided_in w x y a b h i =
    let low : 1 ≤ b.lo → a.lo / b.hi ≤ x / y = λ one. div_grows a.lo x b.hi y h.0 (omega (arith, one, i)) i.1 in
    let high : 1 ≤ b.lo → x / y ≤ a.hi / b.lo = λ one. div_grows x a.hi y b.lo h.1 (omega (arith, one)) i.0 in
    let self : x / y ≤ x = div-le_self x y in
    grind (arith, nat_tests, h, i, low, high, self)

moded_in : (w x y : ℕ) (a b : Interval) → Inside x a → Inside y b → Inside (if y == 0 then x else (x % y)) (moded a b)
moded_in w x y a b h i =
    let self : x % y ≤ x = mod-le x y in
    let less : 0 < y → x % y < y = λ lt. mod_below x y lt in
    grind (arith, nat_tests, h, i, self, less)

or_in : (w x y : ℕ) (a b : Interval) → IsInterval w a → IsInterval w b → Inside x a → Inside y b → Inside (bit_or x y) (merged w a b)
or_in w x y a b p q h i =
    let k = bits_needed w (max a.hi b.hi) in
    let enough : max a.hi b.hi < 2 ^ k = needed_enough w (max a.hi b.hi) (grind (arith, p, q)) in
    let r : bit_or x y < 2 ^ k = or_lt k x y (grind (arith, enough, h)) (grind (arith, enough, i)) in
    (omega arith, omega (arith, r))

xor_in : (w x y : ℕ) (a b : Interval) → IsInterval w a → IsInterval w b → Inside x a → Inside y b → Inside (bit_xor x y) (merged w a b)
xor_in w x y a b p q h i =
    let k = bits_needed w (max a.hi b.hi) in
    let enough : max a.hi b.hi < 2 ^ k = needed_enough w (max a.hi b.hi) (grind (arith, p, q)) in
    let r : bit_xor x y < 2 ^ k = xor_lt k x y (grind (arith, enough, h)) (grind (arith, enough, i)) in
    (omega arith, omega (arith, r))

and_in : (x y : ℕ) (a b : Interval) → Inside x a → Inside y b → Inside (bit_and x y) (masked a b)
and_in x y a b h i = let l = and_le_l x y in let r = and_le_r x y in grind (arith, h, i, l, r)

shifted_left_in : (w x y : ℕ) (a b : Interval) → x < 2 ^ w → y < 2 ^ w → Inside x a → Inside y b → Inside ((x * 2 ^ (y % w)) % 2 ^ w) (shifted_left w a b)
shifted_left_in w x y a b p q h i = go (b.lo == b.hi) refl
  where
    go : (t : Bool) → (b.lo == b.hi) ≡ t → Inside ((x * 2 ^ (y % w)) % 2 ^ w) (if t && nat_lt (a.hi * 2 ^ (b.lo % w)) (2 ^ w) then interval (a.lo * 2 ^ (b.lo % w)) (a.hi * 2 ^ (b.lo % w)) else all w)
    go false e = in_all w _ (mod_below (x * 2 ^ (y % w)) (2 ^ w) (pow_pos w))
    go true e =
        let one : b.lo ≡ b.hi = grind (arith, nat_tests, e) in
        let same : b.lo ≡ y = omega (arith, one, i) in
        let m : a.lo * 2 ^ (b.lo % w) ≤ x * 2 ^ (b.lo % w) = mul-le-mul_right (2 ^ (b.lo % w)) h.0 in
        let n : x * 2 ^ (b.lo % w) ≤ a.hi * 2 ^ (b.lo % w) = mul-le-mul_right (2 ^ (b.lo % w)) h.1 in
        let r : (x * 2 ^ (b.lo % w)) % 2 ^ w < 2 ^ w = mod_below (x * 2 ^ (b.lo % w)) (2 ^ w) (pow_pos w) in
        let small : x * 2 ^ (b.lo % w) < 2 ^ w → (x * 2 ^ (b.lo % w)) % 2 ^ w ≡ x * 2 ^ (b.lo % w) = λ lt. mod-eq_of_lt lt in
        rw (← same) (grind (arith, nat_tests, m, n, r, small))

shifted_right_in : (w x y : ℕ) (a b : Interval) → Inside x a → Inside y b → Inside (x / 2 ^ (y % w)) (shifted_right w a b)
shifted_right_in w x y a b h i = go (b.lo == b.hi) refl
  where
    go : (t : Bool) → (b.lo == b.hi) ≡ t → Inside (x / 2 ^ (y % w)) (if t then interval (a.lo / 2 ^ (b.lo % w)) (a.hi / 2 ^ (b.lo % w)) else interval 0 a.hi)
    go false e = let less = shr_le x (y % w) in (omega arith, omega (arith, less, h))
    go true e =
        let one : b.lo ≡ b.hi = grind (arith, nat_tests, e) in
        let same : b.lo ≡ y = omega (arith, one, i) in
        rw (← same) (div_grows a.lo x (2 ^ (b.lo % w)) (2 ^ (b.lo % w)) h.0 (pow_pos (b.lo % w)) (omega arith), div_grows x a.hi (2 ^ (b.lo % w)) (2 ^ (b.lo % w)) h.1 (pow_pos (b.lo % w)) (omega arith))

-- a number in the lower half of its width, read as signed, isn't negative
low_signed : (w n : ℕ) → n < 2 ^ (w - 1) → signed w n ≡ pos n
low_signed w n h = grind (arith, nat_tests, h)

shifted_signed_in : (w x y : ℕ) (a b : Interval) → x < 2 ^ w → Inside x a → Inside y b → Inside (unsigned w (floor_halved (signed w x) (y % w))) (shifted_signed w a b)
shifted_signed_in w x y a b p h i = go ((b.lo == b.hi) && nat_lt a.hi (2 ^ (w - 1))) refl
  where
    go : (t : Bool) → ((b.lo == b.hi) && nat_lt a.hi (2 ^ (w - 1))) ≡ t → Inside (unsigned w (floor_halved (signed w x) (y % w))) (if t then interval (a.lo / 2 ^ (b.lo % w)) (a.hi / 2 ^ (b.lo % w)) else all w)
    go false e = any w _
    go true e =
        let one : b.lo ≡ b.hi = grind (arith, nat_tests, e) in
        let low : a.hi < 2 ^ (w - 1) = grind (arith, nat_tests, e) in
        let same : b.lo ≡ y = omega (arith, one, i) in
        let less = shr_le x (y % w) in
        let is : unsigned w (floor_halved (signed w x) (y % w)) ≡ x / 2 ^ (y % w) = ap (λ z. unsigned w (floor_halved z (y % w))) (low_signed w x (omega (arith, h, low))) ∙ mod-eq_of_lt (omega (arith, less, p)) in
        rw (is, ← same) (div_grows a.lo x (2 ^ (b.lo % w)) (2 ^ (b.lo % w)) h.0 (pow_pos (b.lo % w)) (omega arith), div_grows x a.hi (2 ^ (b.lo % w)) (2 ^ (b.lo % w)) h.1 (pow_pos (b.lo % w)) (omega arith))

-- a signed quotient, also by zero, is a number of the width
sdiv_in : (w y : ℕ) (z : ℤ) → Inside (if y == 0 then 0 else unsigned w z) (all w)
sdiv_in w y z = let r = unsigned_below w z in let p = pow_pos w in grind (arith, nat_tests, r, p)

smod_in : (w x y : ℕ) (z : ℤ) → x < 2 ^ w → Inside (if y == 0 then x else unsigned w z) (all w)
smod_in w x y z h = let r = unsigned_below w z in let p = pow_pos w in grind (arith, nat_tests, h, r, p)

span_sound : (w : ℕ) (op : AluOp) (x y : ℕ) (a b : Interval) → IsInterval w a → IsInterval w b → Inside x a → Inside y b → x < 2 ^ w → y < 2 ^ w → Inside (computed w op x y) (interval_of w op a b)
unfolding interval_of computed
span_sound w Add x y a b p q h i m n = added_in w x y a b m n h i
span_sound w Sub x y a b p q h i m n = subtracted_in w x y a b m n h i
span_sound w Mul x y a b p q h i m n = multiplied_in w x y a b m n h i
span_sound w Div x y a b p q h i m n = divided_in w x y a b h i
span_sound w Or x y a b p q h i m n = or_in w x y a b p q h i
span_sound w And x y a b p q h i m n = and_in x y a b h i
span_sound w Lsh x y a b p q h i m n = shifted_left_in w x y a b m n h i
span_sound w Rsh x y a b p q h i m n = shifted_right_in w x y a b h i
span_sound w Mod x y a b p q h i m n = moded_in w x y a b h i
span_sound w Xor x y a b p q h i m n = xor_in w x y a b p q h i
span_sound w Mov x y a b p q h i m n = i
span_sound w Arsh x y a b p q h i m n = shifted_signed_in w x y a b m h i
span_sound w Sdiv x y a b p q h i m n = sdiv_in w y _
span_sound w Smod x y a b p q h i m n = smod_in w x y _ m

-- the low bits of a number in an interval are in the clipped interval
pub clipped_in : (w x : ℕ) (a : Interval) → Inside x a → Inside (x % 2 ^ w) (clipped w a)
clipped_in w x a h =
    let r : x % 2 ^ w < 2 ^ w = mod_below x (2 ^ w) (pow_pos w) in
    let small : x < 2 ^ w → x % 2 ^ w ≡ x = λ lt. mod-eq_of_lt lt in
    grind (arith, nat_tests, h, r, small)

-- the result of an operation on numbers in two intervals is in the interval that `alu_interval`
-- gives
pub alu_interval_sound : (op : AluOp) (width : Width) (x y : ℕ) (a b : Interval) → Inside x a → Inside y b → Inside (computed_at op width x y) (alu_interval op width a b)
unfolding alu_interval computed_at
alu_interval_sound op width x y a b h i =
    let w = bits_of width in
    span_sound w op (x % 2 ^ w) (y % 2 ^ w) (clipped w a) (clipped w b) (clipped_proper w a (omega (arith, h))) (clipped_proper w b (omega (arith, i)))
    (clipped_in w x a h) (clipped_in w y b i) (mod_below x (2 ^ w) (pow_pos w)) (mod_below y (2 ^ w) (pow_pos w))

extended_in : (v w x : ℕ) (b : Interval) → v ≤ w → 1 ≤ v → Inside x b → Inside (extended_sign v w x) (extended_interval v w b)
extended_in v w x b le one h = go (nat_lt b.hi (2 ^ (v - 1))) refl
  where
    go : (t : Bool) → nat_lt b.hi (2 ^ (v - 1)) ≡ t → Inside (extended_sign v w x) (if t then b else all w)
    go false e = any w _
    go true e =
        let low : b.hi < 2 ^ (v - 1) = grind (arith, nat_tests, e) in
        let up = pow_up (v - 1) v (omega arith) in
        let up' = pow_up v w le in
        let same : x % 2 ^ v ≡ x = mod-eq_of_lt (omega (arith, h, low, up)) in
        let is : extended_sign v w x ≡ x = ap (λ n. unsigned w (signed v n)) same ∙ ap (unsigned w) (low_signed v x (omega (arith, h, low))) ∙ mod-eq_of_lt (omega (arith, h, low, up, up')) in
        rw is h

pub sign_extended_sound : (e : SignExtension) (x : ℕ) (b : Interval) → Inside x b → Inside (D.sign_extended e x) (extended_values e b)
unfolding extended_values D.sign_extended
sign_extended_sound (Byte W32) x b h = extended_in 8 32 x b (omega arith) (omega arith) h
sign_extended_sound (Byte W64) x b h = extended_in 8 64 x b (omega arith) (omega arith) h
sign_extended_sound (HalfWord W32) x b h = extended_in 16 32 x b (omega arith) (omega arith) h
sign_extended_sound (HalfWord W64) x b h = extended_in 16 64 x b (omega arith) (omega arith) h
sign_extended_sound Word x b h = extended_in 32 64 x b (omega arith) (omega arith) h
