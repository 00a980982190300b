-- The causes of a refused block, in terms of the blocks added before it (RFC 7959, section 2.9).
use Rattle.std.specs.Prelude.{◌≡◌, ◌≢◌, ℕ, ◌+◌, ◌<◌, ◌≤◌, List, length}
use Rattle.coap_opts.specs.Values.{Place, block_size}
use Rattle.coap_block.specs.Transfers.{Addition}
use Rattle.coap_block.specs.UnderWay.{BeginsBehind, HasLength, others_at}

-- the block has number 0, and 16 transfers of other endpoints and slots are in progress.
pub record FindsNoRoom (h : List Addition) (a : Addition) (b : Place) : Type 0 where
  pub first : b.number ≡ 0
  pub others : 16 ≤ others_at a h

-- the block has a number other than 0, and doesn't begin at the end of the payloads before it.
pub record IsOutOfPlace (h : List Addition) (a : Addition) (b : Place) : Type 0 where
  pub later : b.number ≢ 0
  pub nowhere : (before : List ℕ) → BeginsBehind h a b before → ⊥

-- the block begins at the end of the payloads before it, but its payload doesn't have the length of
-- the block.
pub record HasWrongLength (h : List Addition) (a : Addition) (b : Place) : Type 0 where
  pub before : List ℕ
  pub begins : BeginsBehind h a b before
  pub wrong : HasLength b.more (block_size b.szx) (length a.payload) → ⊥

-- the block begins at the end of the payloads before it, and its payload has the right length. All
-- payloads together have more than 8,208 bytes.
pub record HasLargeSum (h : List Addition) (a : Addition) (b : Place) : Type 0 where
  pub before : List ℕ
  pub begins : BeginsBehind h a b before
  pub long : HasLength b.more (block_size b.szx) (length a.payload)
  pub large : 8208 < length before + length a.payload
