-- The values of options: unsigned integers and blocks (RFC 7252, section 3.2; RFC 7959, section
-- 2.2).
use Rattle.std.specs.Prelude.{ℕ, suc, zero, ◌+◌, ◌*◌, ◌^◌, ◌/◌, ◌%◌, ◌==◌, Bool, if◌then◌else◌, List, [], ◌∷◌}
use Rattle.std.specs.List.{fold}
use Rattle.std.specs.Int.{w64, to_be_bytes}

-- the integer that bytes in network order represent; leading zeros don't change it.
abbrev pub uint_value : List ℕ → ℕ
uint_value bytes = fold (λ n b. 256 * n + b) 0 bytes

-- the bytes without their leading zeros.
abbrev pub without_zeros : List ℕ → List ℕ
without_zeros [] = []
without_zeros (zero ∷ bytes) = without_zeros bytes
without_zeros (suc b ∷ bytes) = suc b ∷ bytes

-- the encoding of a number below 2 ^ 64, without leading zeros.
unfoldable pub uint_bytes : ℕ → List ℕ
uint_bytes n = without_zeros (to_be_bytes w64 n)

-- a block of a body: its number, whether more blocks follow, and the exponent of its size less 4
-- (RFC 7959, section 2.2).
pub record Place : Type 0 where
  pub number : ℕ
  pub more : Bool
  pub szx : ℕ

-- a block's size in bytes.
abbrev pub block_size : ℕ → ℕ
block_size szx = 2 ^ (szx + 4)

-- the block that an option's value represents, from this value as an integer.
abbrev pub place_at : ℕ → Place
place_at value = record { number = value / 16; more = (value / 8) % 2 == 1; szx = value % 8 }

-- the block that the bytes of an option's value represent.
abbrev pub place_in : List ℕ → Place
place_in bytes = place_at (uint_value bytes)

-- a block as an integer: the size exponent in the lower three bits, the M bit above, then the block
-- number.
abbrev pub block_value : Place → ℕ
block_value b = 16 * b.number + ((if b.more then 8 else 0) + b.szx)

-- the encoding of a block.
abbrev pub block_bytes : Place → List ℕ
block_bytes b = uint_bytes (block_value b)
