-- The message that bytes encode, as a function, and the classification of bytes that encode none.
use Rattle.std.specs.Prelude.{◌≡◌, ℕ, zero, suc, ◌+◌, ◌*◌, ◌/◌, ◌%◌, ◌≤◌, ◌==◌, ◌&&◌, Bool, true, false, nat_lt, nat_le, if◌then◌else◌, List, [], ◌∷◌, length, take, drop, slice_index, Option, Some, None, option_and_then, Result, Ok, Err}
use Rattle.coap_msg.specs.declared.types.MessageType.{MessageType}
use Rattle.coap_msg.specs.declared.types.MessageType.TheVariants.{Confirmable, NonConfirmable, Acknowledgement, Reset}
use Rattle.coap_msg.specs.declared.types.Bad.{Bad}
use Rattle.coap_msg.specs.declared.types.Bad.TheVariants as bad
use Rattle.coap_msg.specs.Wire.{Message, SpellsMessage}

-- applies the next step to a value; `None` if the value is missing.
infixl 10 ◌>>=◌
abbrev pub ◌>>=◌ : {A B : Type 0} → Option A → (A → Option B) → Option B
o >>= f = option_and_then f o

-- a value if the test holds, and otherwise `None`.
abbrev pub guard : {A : Type 0} → Bool → A → Option A
guard false x = None
guard true x = Some x

-- ---- bytes that encode no message

-- the bytes encode no message.
abbrev pub SpellsNone : List ℕ → Type 0
SpellsNone bytes = (m : Message) → SpellsMessage bytes m → ⊥

-- the bytes, at most 1,280, begin with a complete header of version 1 and type 0 (confirmable).
pub record IsConfirmable (bytes : List ℕ) : Type 0 where
  pub long : 4 ≤ length bytes
  pub short : length bytes ≤ 1280
  pub first : slice_index bytes 0 / 16 ≡ 4

-- the message ID in a header.
abbrev pub id_of : List ℕ → ℕ
id_of bytes = 256 * slice_index bytes 2 + slice_index bytes 3

-- a format error in a confirmable message is rejected; every other datagram that encodes no message
-- is ignored.
abbrev pub IsBad : List ℕ → Bad → Type 0
IsBad bytes bad.Ignore = SpellsNone bytes × (IsConfirmable bytes → ⊥)
IsBad bytes (bad.Reset id) = SpellsNone bytes × IsConfirmable bytes × (id ≡ id_of bytes)

-- ---- as functions

-- the type that the first byte states; `None` if the version isn't 1.
abbrev pub type_of : ℕ → Option MessageType
type_of first =
    if first / 16 == 4 then Some Confirmable else (if first / 16 == 5 then Some NonConfirmable else (
    if first / 16 == 6 then Some Acknowledgement else (if first / 16 == 7 then Some Reset else None)))

-- the token's length that the first byte states; `None` if it is above 8.
abbrev pub token_length : ℕ → Option ℕ
token_length first = guard (nat_le (first % 16) 8) (first % 16)

-- the first `count` bytes and the bytes after them; `None` if there are fewer than `count`.
abbrev pub split : ℕ → List ℕ → Option (List ℕ × List ℕ)
split count bytes = guard (nat_le count (length bytes)) (take count bytes, drop count bytes)

-- the number of an 8-bit extended value, with its bias of 13, and the bytes after the value.
abbrev pub ext8 : List ℕ → Option (ℕ × List ℕ)
ext8 (b ∷ rest) = Some (b + 13, rest)
ext8 _ = None

-- the number of a 16-bit extended value, with its bias of 269, and the bytes after the value.
abbrev pub ext16 : List ℕ → Option (ℕ × List ℕ)
ext16 (b ∷ c ∷ rest) = Some (256 * b + c + 269, rest)
ext16 _ = None

-- the delta or length from its nibble and the extended value at the start of the bytes, if it has
-- one. The second part of the result is the bytes after the extended value.
abbrev pub number_at : ℕ → List ℕ → Option (ℕ × List ℕ)
number_at nibble bytes =
    if nat_lt nibble 13 then Some (nibble, bytes) else (if nibble == 13 then ext8 bytes else (if nibble == 14 then ext16 bytes else None))

-- a decoded option, and the bytes after it.
pub record RawOption : Type 0 where
  pub number : ℕ
  pub value : List ℕ
  pub after : List ℕ

-- the option at the start of the bytes, after an option with the number `before`; `None` if it is
-- malformed.
unfoldable pub option_at : ℕ → List ℕ → Option RawOption
option_at before [] = None
option_at before (first ∷ rest) =
    number_at (first / 16) rest >>= λ (delta, after_delta).
    number_at (first % 16) after_delta >>= λ (count, after_count).
    guard (nat_lt (before + delta) 65536) (before + delta) >>= λ number.
    split count after_count >>= λ (value, after).
    Some (record { number = number; value = value; after = after })

-- options, and the bytes after them: no bytes, or the bytes from a marker on.
abbrev pub Listed : Type 0
Listed = List (ℕ × List ℕ) × List ℕ

-- the decoded options with an option prepended; `None` stays `None`.
abbrev pub with_first : RawOption → Option Listed → Option Listed
with_first o None = None
with_first o (Some (options, after)) = Some (((o.number, o.value) ∷ options), after)

-- the options at the start of the bytes, and the bytes after them; `None` if an option is malformed
-- or if there are more than `count`. There are never more options than bytes.
unfoldable pub options_at : ℕ → ℕ → List ℕ → Option Listed
options_at count before [] = Some ([], [])
options_at zero before (b ∷ bytes) = None
options_at (suc count) before (b ∷ bytes) =
    if b == 255 then Some ([], b ∷ bytes) else
    (option_at before (b ∷ bytes) >>= λ o. with_first o (options_at count o.number o.after))

-- the payload from the bytes after the options, which are no bytes, or the marker and at least one
-- byte; otherwise `None`.
abbrev pub payload_at : List ℕ → Option (List ℕ)
payload_at [] = Some []
payload_at (b ∷ []) = None
payload_at (b ∷ c ∷ payload) = guard (b == 255) (c ∷ payload)

-- the message from a header's bytes and the bytes after the header.
abbrev pub message_by : ℕ → ℕ → ℕ → List ℕ → Option Message
message_by first code id rest =
    type_of first >>= λ kind.
    token_length first >>= λ count.
    split count rest >>= λ (token, encoded).
    options_at (length encoded) 0 encoded >>= λ (options, after).
    payload_at after >>= λ payload.
    Some (record { kind = kind; code = code; id = id; token = token; options = options; payload = payload })

-- a message with code 0.00 ends after its message ID, and a datagram has at most 1,280 bytes.
abbrev pub is_sized : ℕ → List ℕ → Bool
is_sized code rest = nat_le (length rest) (if code == 0 then 0 else 1276)

-- the message that the bytes encode.
unfoldable pub message_of : List ℕ → Option Message
message_of (first ∷ code ∷ high ∷ low ∷ rest) =
    if is_sized code rest then message_by first code (256 * high + low) rest else None
message_of _ = None

-- the way to reject bytes that encode no message.
unfoldable pub bad_of : List ℕ → Bad
bad_of bytes =
    if (nat_le 4 (length bytes) && nat_le (length bytes) 1280) && (slice_index bytes 0 / 16 == 4) then bad.Reset (id_of bytes) else bad.Ignore

-- the message, or the given rejection if there is no message.
abbrev pub or_bad : Option Message → Bad → Result Message Bad
or_bad None e = Err e
or_bad (Some m) e = Ok m

-- the message that the bytes encode, or the way to reject bytes that encode no message.
unfoldable pub reading_of : List ℕ → Result Message Bad
reading_of bytes = or_bad (message_of bytes) (bad_of bytes)
