-- Integers of a few bytes.
use Rattle.std.proofs.Common.{ℕ, ◌+◌, ◌*◌, ◌^◌, ◌<◌, ◌≤◌, arith}
use Rattle.std.proofs.Math.Nat.{pow-le-pow_right}

-- an integer that fits into k bytes fits into m bytes if k is at most m
pub below_power : (k m n : ℕ) → n < 256 ^ k → k ≤ m → n < 256 ^ m
below_power k m n h l = let wider : 256 ^ k ≤ 256 ^ m = pow-le-pow_right {n = 256} (omega arith) {i = k} {j = m} l in omega arith

-- an integer that fits into fewer than eight bytes fits into eight with one byte appended
pub one_more_byte : (k n b : ℕ) → k < 8 → n < 256 ^ k → b < 256 → 256 * n + b < 2 ^ 64
one_more_byte k n b l h s = let seven : n < 256 ^ 7 = below_power k 7 n h (omega arith) in omega arith
