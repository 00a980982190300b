-- The block of a body that a GET requests (RFC 7959, section 2.4).
use Rattle.std.specs.Prelude.{ℕ, ◌+◌, ◌*◌, ◌&&◌, Bool, nat_lt, not, List, [], length, take, drop, Option, Some, None, if◌then◌else◌}
use Rattle.coap_opts.specs.Values.{Place, block_size}

-- a part of a body: the part's bytes, and its place, or no place if the part is the whole body.
pub record Part : Type 0 where
  pub bytes : List ℕ
  pub place : Option Place

-- the bytes of a part, or no bytes if there is no part.
abbrev pub part_bytes : Option Part → List ℕ
part_bytes None = []
part_bytes (Some part) = part.bytes

-- the block isn't the first, and begins at or past the end of the body.
abbrev pub is_past : List ℕ → ℕ → ℕ → Bool
is_past bytes number szx = nat_lt 0 number && not (nat_lt (number * block_size szx) (length bytes))

-- the block with this number and size; the M bit is set if the body continues after it.
abbrev pub block_at : List ℕ → ℕ → ℕ → Part
block_at bytes number szx = record {
  bytes = take (block_size szx) (drop (number * block_size szx) bytes);
  place = Some (record { number = number; more = nat_lt (number * block_size szx + block_size szx) (length bytes); szx = szx });
}

abbrev pub cut_at : List ℕ → ℕ → ℕ → Option Part
cut_at bytes number szx = if is_past bytes number szx then None else Some (block_at bytes number szx)

-- the requested block, by its number and size alone. `None` if the block isn't the first, and
-- begins at or past the end of the body. If no block is requested, the result is the whole body, or
-- its first 1,024 bytes (SZX 6) if the body is longer than that.
abbrev pub cut_of : List ℕ → Option Place → Option Part
cut_of bytes None = if nat_lt 1024 (length bytes) then cut_at bytes 0 6 else Some (record { bytes = bytes; place = None })
cut_of bytes (Some place) = cut_at bytes place.number place.szx
