-- Results of the parser's steps on the bytes after a token: the options, and the place of their
-- end.
use Rattle.std.specs.Prelude.{◌≡◌, ℕ, ◌==◌, Bool, true, List, [], ◌∷◌, length, Option, Some, None}
use Rattle.coap_msg.specs.declared.types.MessageType.{MessageType}
use Rattle.coap_msg.specs.Wire.{Message, AreOptions, options_bytes}
use Rattle.coap_msg.specs.Reading.{Listed, options_at}

-- the bytes are empty or begin with the payload marker, so they begin with no option.
abbrev pub is_end : List ℕ → Bool
is_end [] = true
is_end (b ∷ bytes) = b == 255

-- the decoded options without the bytes after them; the empty list if nothing was decoded.
abbrev pub all_of : Option Listed → List (ℕ × List ℕ)
all_of None = []
all_of (Some (options, after)) = options

-- the options at the start of the bytes, or the empty list if an option there is malformed;
-- `before` is the number of the option before the first.
unfoldable pub options_of : ℕ → List ℕ → List (ℕ × List ℕ)
options_of before bytes = all_of (options_at (length bytes) before bytes)

-- the message with these parts; `options` is the encoding of its options.
abbrev pub message_from : MessageType → ℕ → ℕ → List ℕ → List ℕ → List ℕ → Message
message_from kind code id token options payload = record { kind = kind; code = code; id = id; token = token; options = options_of 0 options; payload = payload }

-- the bytes encode options and nothing else.
pub record HasOptions (before : ℕ) (bytes : List ℕ) : Type 0 where
  pub bytes_are : bytes ≡ options_bytes before (options_of before bytes)
  pub options : AreOptions before (options_of before bytes)

-- `bytes` begin with options, and `after` are the bytes after these options.
pub record EndsIn (bytes after : List ℕ) : Type 0 where
  pub options : List (ℕ × List ℕ)
  pub found : options_at (length bytes) 0 bytes ≡ Some (options, after)

-- `bytes` begin with the options that `options` encode, and `after` are the bytes after them.
pub record AreSplit (bytes options after : List ℕ) : Type 0 where
  pub found : options_at (length bytes) 0 bytes ≡ Some (options_of 0 options, after)
  pub has_options : HasOptions 0 options
