-- The random bytes that a client draws.
use Rattle.std.specs.Prelude.{◌≡◌, ℕ, List, length}
use Rattle.std.specs.Int.{from_be_bytes, w16}

-- a message ID is two random bytes that were drawn.
abbrev pub IsDrawnId : (List ℕ → Type 0) → ℕ → Type 0
IsDrawnId drawn id = (bytes : List ℕ) × (length bytes ≡ 2) × drawn bytes × (id ≡ from_be_bytes w16 bytes)
