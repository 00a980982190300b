-- Decoding the encoding of an integer gives that integer.
use Rattle.std.proofs.Common.{◌≡◌, ◌≢◌, ℕ, zero, suc, ◌<◌, ◌≤◌, ◌^◌, List, [], ◌∷◌, length, get_or, refl, ◌∙◌, arith}
use Rattle.std.specs.Int.{w64, to_be_bytes}
use Rattle.std.proofs.lemmas.Nat.{from_be_bytes-to_be_bytes_8}
use Rattle.coap_opts.specs.Values.{uint_value, without_zeros, uint_bytes}

uint_value-without_zeros : (bytes : List ℕ) → uint_value (without_zeros bytes) ≡ uint_value bytes
uint_value-without_zeros [] = refl
uint_value-without_zeros (zero ∷ bytes) = uint_value-without_zeros bytes
uint_value-without_zeros (suc b ∷ bytes) = refl

without_zeros-first : (bytes : List ℕ) → 0 < length (without_zeros bytes) → get_or (without_zeros bytes) 0 0 ≢ 0
without_zeros-first [] h = absurd (omega (arith, h))
without_zeros-first (zero ∷ bytes) h = without_zeros-first bytes h
without_zeros-first (suc b ∷ bytes) h = λ e. absurd (omega (arith, e))

without_zeros-shorter : (bytes : List ℕ) → length (without_zeros bytes) ≤ length bytes
without_zeros-shorter [] = omega arith
without_zeros-shorter (zero ∷ bytes) = omega (arith, without_zeros-shorter bytes)
without_zeros-shorter (suc b ∷ bytes) = omega arith

pub whole : (n : ℕ) → n < 2 ^ 64 → uint_value (to_be_bytes w64 n) ≡ n
whole n h = omega (arith, from_be_bytes-to_be_bytes_8 n h)

pub uint_again : (n : ℕ) → n < 2 ^ 64 → uint_value (uint_bytes n) ≡ n
unfolding uint_bytes
uint_again n h = uint_value-without_zeros (to_be_bytes w64 n) ∙ whole n h

pub uint_first : (n : ℕ) → 0 < length (uint_bytes n) → get_or (uint_bytes n) 0 0 ≢ 0
unfolding uint_bytes
uint_first n h = without_zeros-first (to_be_bytes w64 n) h

pub uint_short : (n : ℕ) → length (uint_bytes n) ≤ 8
unfolding uint_bytes
uint_short n = without_zeros-shorter (to_be_bytes w64 n)
