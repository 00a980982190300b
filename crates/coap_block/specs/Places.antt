-- The place of a block's transfer in the list of transfers.
use Rattle.std.specs.Prelude.{◌≡◌, ℕ, ◌<◌, ◌≤◌, List, length, filter, find, slice_get, true, false, Some, Result, Ok, Err}
use Rattle.std.specs.List.{remove}
use Rattle.coap_msg.specs.declared.types.Endpoint.{Endpoint}
use Rattle.coap_opts.specs.Values.{Place}
use Rattle.coap_block.specs.declared.transfer.Transfer.{Transfer}
use Rattle.coap_block.specs.declared.uploads.UploadRefusal.{UploadRefusal}
use Rattle.coap_block.specs.Uploads.{before_of, body_among, is_full, is_transfer_of, others}
use Rattle.coap_block.specs.Views.{refusal_seen}

-- at most one transfer has a given endpoint and slot.
abbrev pub HasOneKey : List Transfer → Type 0
HasOneKey held = (to : Endpoint) (n : ℕ) → length (filter (is_transfer_of to n) held) ≤ 1

-- `own`, at this place, is the transfer to which a block is joined: it has the block's endpoint and
-- slot, and the payloads before the block. The other transfers are those in `held` with another
-- endpoint or slot.
pub record IsOwnTransfer (held after : List Transfer) (to : Endpoint) (n : ℕ) (b : Place) (place : ℕ) : Type 0 where
  pub own : Transfer
  pub within : place < length after
  pub at : slice_get after place ≡ Some own
  pub key : is_transfer_of to n own ≡ true
  pub rest : remove after place ≡ others to n held
  pub room : is_full b.number (length (others to n held)) ≡ false
  pub before : before_of b.number (Some own) ≡ before_of b.number (find (is_transfer_of to n) held)

-- a block that starts no transfer and has none is refused, and no transfer of its key is stored.
pub record HasNoTransfer (held after : List Transfer) (to : Endpoint) (n : ℕ) (b : Place) (refusal : UploadRefusal) : Type 0 where
  pub rest : after ≡ others to n held
  pub refused : (bytes : List ℕ) → refusal_seen refusal ≡ body_among held to n b bytes

abbrev pub IsPlaced : List Transfer → List Transfer → Endpoint → ℕ → Place → Result ℕ UploadRefusal → Type 0
IsPlaced held after to n b (Ok place) = IsOwnTransfer held after to n b place
IsPlaced held after to n b (Err refusal) = HasNoTransfer held after to n b refusal
