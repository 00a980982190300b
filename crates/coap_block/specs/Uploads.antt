-- The transfers in progress (RFC 7959, section 2.5).
use Rattle.std.specs.Prelude.{ℕ, ◌+◌, ◌*◌, ◌==◌, ◌&&◌, Bool, true, false, not, nat_lt, List, [], ◌∷◌, ◌++◌, length, filter, find, Option, Some, None, if◌then◌else◌}
use Rattle.coap_msg.specs.declared.types.Endpoint.{Endpoint}
use Rattle.coap_msg.specs.Endpoints.{same_endpoint}
use Rattle.coap_msg.specs.Windows.{within_window}
use Rattle.coap_block.specs.declared.transfer.Transfer.{Transfer}
use Rattle.coap_opts.specs.Values.{Place, block_size}

-- the transfer's latest block arrived less than EXCHANGE_LIFETIME before `now`.
abbrev pub is_under_way : ℕ → Transfer → Bool
is_under_way now t = within_window now t.at

-- two keys are equal; the key of a transfer is its endpoint and its slot.
abbrev pub same_key : Endpoint → ℕ → Endpoint → ℕ → Bool
same_key from m to n = same_endpoint from to && (m == n)

-- the transfer has this endpoint and slot.
abbrev pub is_transfer_of : Endpoint → ℕ → Transfer → Bool
is_transfer_of to n t = same_key t.endpoint t.slot to n

-- the transfers whose latest block arrived less than EXCHANGE_LIFETIME before `now`.
abbrev pub live : ℕ → List Transfer → List Transfer
live now held = filter (is_under_way now) held

-- the transfers of other endpoints or slots.
abbrev pub others : Endpoint → ℕ → List Transfer → List Transfer
others to n held = filter (λ t. not (is_transfer_of to n t)) held

-- the result for a block, in the order of the variants: more blocks are expected; the body is
-- whole; the block doesn't begin at the end of the payloads before it (4.08); the block's payload
-- has a wrong length (4.00); the body is too large (4.13); there is no room for another transfer
-- (5.03).
pub data Add : Type 0 where
  Continues : Add
  IsWhole : (body : List ℕ) → Add
  IsIncomplete : Add
  IsBadLength : Add
  IsTooLarge : Add
  IsFull : Add

-- the payloads before a block, joined: no bytes before number 0, and else those of the transfer in
-- progress. `None` if no transfer is in progress.
abbrev pub before_by : Bool → Option Transfer → Option (List ℕ)
before_by true under_way = Some []
before_by false None = None
before_by false (Some t) = Some t.body.items

abbrev pub before_of : ℕ → Option Transfer → Option (List ℕ)
before_of number under_way = before_by (number == 0) under_way

-- if more blocks follow, a payload has exactly the block size; the last payload has at most that
-- size.
abbrev pub has_length : Bool → ℕ → ℕ → Bool
has_length true size bytes = bytes == size
has_length false size bytes = not (nat_lt size bytes)

-- the body with more bytes appended, or `IsTooLarge` if it then has more than 8,208 bytes.
abbrev pub body_with : List ℕ → List ℕ → Add
body_with before bytes = if nat_lt 8208 (length before + length bytes) then IsTooLarge else IsWhole (before ++ bytes)

-- the result of two checks, in this order: of the block's beginning, and of the payload's length.
-- If both pass, the result is `extended`.
abbrev pub checked_by : Bool → Bool → Add → Add
checked_by true true extended = extended
checked_by true false extended = IsBadLength
checked_by false length extended = IsIncomplete

-- the body with a block appended to the payloads before it, or the reason for the block's refusal.
abbrev pub body_behind : Option (List ℕ) → Place → List ℕ → Add
body_behind None b bytes = IsIncomplete
body_behind (Some before) b bytes = checked_by (b.number * block_size b.szx == length before) (has_length b.more (block_size b.szx) (length bytes)) (body_with before bytes)

-- the block starts a transfer while 16 or more others are in progress. This is the first check.
abbrev pub is_full : ℕ → ℕ → Bool
is_full number others = (number == 0) && not (nat_lt others 16)

-- the body with a block, or the reason for the block's refusal, given the transfers in progress.
abbrev pub body_among : List Transfer → Endpoint → ℕ → Place → List ℕ → Add
body_among held to n b bytes = if is_full b.number (length (others to n held)) then IsFull else body_behind (before_of b.number (find (is_transfer_of to n) held)) b bytes

-- a whole body becomes `Continues` if more blocks follow; any other result stays.
abbrev pub unless_more : Bool → Add → Add
unless_more true (IsWhole body) = Continues
unless_more more other = other

-- the transfer that is stored for a block; none if the block doesn't fit or is the last one.
abbrev pub kept_transfer : Bool → ℕ → Endpoint → ℕ → Add → List Transfer
kept_transfer true now to n (IsWhole body) = record { endpoint = to; slot = n; at = now; body = record { items = body } } ∷ []
kept_transfer more now to n other = []

-- the result for a block (`block_added`), and the transfers after the block (`after_block`). The
-- transfers idle for EXCHANGE_LIFETIME are removed. The block's own transfer is extended and
-- becomes the last in order, or is removed.
abbrev pub block_added : List Transfer → ℕ → Endpoint → ℕ → Place → List ℕ → Add
block_added held now to n b bytes = unless_more b.more (body_among (live now held) to n b bytes)

abbrev pub after_block : List Transfer → ℕ → Endpoint → ℕ → Place → List ℕ → List Transfer
after_block held now to n b bytes = others to n (live now held) ++ kept_transfer b.more now to n (body_among (live now held) to n b bytes)

-- without a block the payload is the whole body, and no transfer changes.
abbrev pub add_of : List Transfer → ℕ → Endpoint → ℕ → Option Place → List ℕ → Add
add_of held now to n None bytes = body_with [] bytes
add_of held now to n (Some b) bytes = block_added held now to n b bytes

abbrev pub after_add : List Transfer → ℕ → Endpoint → ℕ → Option Place → List ℕ → List Transfer
after_add held now to n None bytes = held
after_add held now to n (Some b) bytes = after_block held now to n b bytes
