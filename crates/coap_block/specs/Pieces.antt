-- The blocks of a body with one size (RFC 7959, section 2.4).
use Rattle.std.specs.Prelude.{◌≡◌, ℕ, zero, suc, ◌+◌, ◌*◌, ◌<◌, ◌≤◌, Bool, true, false, List, [], ◌++◌, length, Some}
use Rattle.coap_opts.specs.Values.{block_size}
use Rattle.coap_block.specs.Cuts.{Part, cut_at, part_bytes}

-- the first `k` blocks of a body, joined.
abbrev pub joined_cuts : List ℕ → ℕ → ℕ → List ℕ
joined_cuts bytes szx zero = []
joined_cuts bytes szx (suc k) = joined_cuts bytes szx k ++ part_bytes (cut_at bytes k szx)

-- a block of `bytes` bytes from `start` on: if more blocks follow, it has exactly the block size
-- and ends before the end of the body. The last block has at most the block size, and ends where
-- the body ends.
abbrev pub EndsBy : Bool → ℕ → ℕ → ℕ → ℕ → Type 0
EndsBy true size start bytes body = (bytes ≡ size) × (start + bytes < body)
EndsBy false size start bytes body = (bytes ≤ size) × (start + bytes ≡ body)

-- the part is the block with number `k` and size exponent `szx`.
pub record IsBlockOf (body : List ℕ) (k szx : ℕ) (part : Part) : Type 0 where
  pub more : Bool
  pub place : part.place ≡ Some (record { number = k; more = more; szx = szx })
  pub ends : EndsBy more (block_size szx) (k * block_size szx) (length part.bytes) (length body)
