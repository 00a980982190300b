-- The encoding of a message as bytes (RFC 7252, sections 3 and 3.1).
use Rattle.std.specs.Prelude.{◌≡◌, ℕ, ◌+◌, ◌-◌, ◌*◌, ◌/◌, ◌%◌, ◌<◌, ◌≤◌, nat_lt, if◌then◌else◌, List, [], ◌∷◌, ◌++◌, length}
use Rattle.coap_msg.specs.declared.types.MessageType.{MessageType}
use Rattle.coap_msg.specs.declared.types.MessageType.TheVariants.{Confirmable, NonConfirmable, Acknowledgement, Reset}

-- a message: its type, the byte of its code, its message ID, its token, its options by number and
-- value in order, its payload.
pub record Message : Type 0 where
  pub kind : MessageType
  pub code : ℕ
  pub id : ℕ
  pub token : List ℕ
  pub options : List (ℕ × List ℕ)
  pub payload : List ℕ

-- the number of a type.
abbrev pub type_number : MessageType → ℕ
type_number Confirmable = 0
type_number NonConfirmable = 1
type_number Acknowledgement = 2
type_number Reset = 3

-- version 1 in the upper two bits, the type in the next two, the token's length in the lower four.
abbrev pub first_byte : MessageType → List ℕ → ℕ
first_byte kind token = 64 + 16 * type_number kind + length token

-- the first byte, the code, the message ID in network order, the token.
abbrev pub header : MessageType → ℕ → ℕ → List ℕ → List ℕ
header kind code id token = first_byte kind token ∷ code ∷ (id / 256) ∷ (id % 256) ∷ token

-- a delta or length nibble: the number itself below 13; 13 if an 8-bit extended value follows, 14
-- if a 16-bit one does.
abbrev pub nibble : ℕ → ℕ
nibble n = if nat_lt n 13 then n else (if nat_lt n 269 then 13 else 14)

-- the extended value of n: no bytes if n is below 13, one byte with n - 13 if n is below 269, else
-- two bytes with n - 269.
abbrev pub extension : ℕ → List ℕ
extension n = if nat_lt n 13 then [] else (if nat_lt n 269 then (n - 13) ∷ [] else ((n - 269) / 256) ∷ ((n - 269) % 256) ∷ [])

-- the bytes of an option with this value; `delta` is its number minus the number of the option
-- before it.
abbrev pub option_bytes : ℕ → List ℕ → List ℕ
option_bytes delta value = (16 * nibble delta + nibble (length value)) ∷ (extension delta ++ (extension (length value) ++ value))

-- the bytes of options in order; `before` is the number of the option before the first.
abbrev pub options_bytes : ℕ → List (ℕ × List ℕ) → List ℕ
options_bytes before [] = []
options_bytes before ((number, value) ∷ options) = option_bytes (number - before) value ++ options_bytes number options

-- the marker and the payload; no bytes if the payload is empty.
abbrev pub payload_bytes : List ℕ → List ℕ
payload_bytes [] = []
payload_bytes (b ∷ payload) = 255 ∷ b ∷ payload

-- the one encoding of a message.
abbrev pub message_bytes : Message → List ℕ
message_bytes m = header m.kind m.code m.id m.token ++ (options_bytes 0 m.options ++ payload_bytes m.payload)

-- an option's number has 16 bits, and is at least `before`, the number of the option before it; the
-- value has at most 65,804 bytes.
pub record IsOption (before number : ℕ) (value : List ℕ) : Type 0 where
  pub rises : before ≤ number
  pub is_number : number < 65536
  pub is_short : length value < 65805

-- options in rising order; `before` is the number of the option before the first.
abbrev pub AreOptions : ℕ → List (ℕ × List ℕ) → Type 0
AreOptions before [] = Unit {0}
AreOptions before ((number, value) ∷ options) = IsOption before number value × AreOptions number options

-- the limits of a message's parts; a message with code 0.00 ends after its message ID (RFC 7252,
-- section 4.1).
pub record IsMessage (m : Message) : Type 0 where
  pub code : m.code < 256
  pub id : m.id < 65536
  pub token : length m.token ≤ 8
  pub options : AreOptions 0 m.options
  pub size : length (message_bytes m) ≤ 1280
  pub empty : m.code ≡ 0 → length (message_bytes m) ≡ 4

-- the bytes encode the message.
pub record SpellsMessage (bytes : List ℕ) (m : Message) : Type 0 where
  pub bytes_are : bytes ≡ message_bytes m
  pub limits : IsMessage m
