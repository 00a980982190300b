-- The printed form of a response's bytes.
use Rattle.std.specs.Prelude.{◌≡◌, ℕ, ◌==◌, ◌&&◌, ◌||◌, not, nat_le, Bool, if◌then◌else◌, List, Option, Some, None}
use Rattle.std.specs.Borrow.{Bor}
use Rattle.std.specs.List.{list_all, list_any}
use Rattle.std.specs.Str.{chars, is_utf8}
use Rattle.hex.specs.Hex.{encode_lower}
use Rattle.fc_fetch.specs.declared.printer.Shown.{Shown}
use Rattle.fc_fetch.specs.declared.printer.Shown.TheVariants.{Hex, Text}

-- whether a character is a tab, a line feed, or no control character (Unicode, general category
-- Cc).
abbrev pub is_shown_char : ℕ → Bool
is_shown_char c = (c == 9) || ((c == 10) || (nat_le 32 c && not (nat_le 127 c && nat_le c 159)))

abbrev pub is_text : List ℕ → Bool
is_text bytes = is_utf8 bytes && list_all is_shown_char (chars bytes)

-- the printed form of bytes: text is unchanged if text is wanted, and all other bytes are in hex.
abbrev pub shown_bytes : Shown → List ℕ → List ℕ
shown_bytes Hex bytes = encode_lower bytes
shown_bytes Text bytes = if is_text bytes then bytes else encode_lower bytes

-- the text that is printed for the bytes, or none if they are printed in hex.
abbrev pub IsShownText : Shown → List ℕ → Option (Bor (List ℕ)) → Type 0
IsShownText shown bytes None = shown_bytes shown bytes ≡ encode_lower bytes
IsShownText shown bytes (Some text) = shown_bytes shown bytes ≡ text.now

-- the printed form of bytes on one line: bytes with a line feed are in hex, and all others are
-- printed as above.
abbrev pub line_bytes : Shown → List ℕ → List ℕ
line_bytes shown bytes = if list_any (λ b. b == 10) bytes then encode_lower bytes else shown_bytes shown bytes

-- the text that is printed for the bytes on one line, or none if they are printed in hex.
abbrev pub IsShownLine : Shown → List ℕ → Option (Bor (List ℕ)) → Type 0
IsShownLine shown bytes None = line_bytes shown bytes ≡ encode_lower bytes
IsShownLine shown bytes (Some text) = line_bytes shown bytes ≡ text.now
