-- Codes: a class of three bits and a detail of five bits (RFC 7252, section 3).
use Rattle.std.specs.Prelude.{ℕ, ◌+◌, ◌*◌, ◌/◌, ◌%◌, ◌++◌, List, codes}
use Rattle.std.specs.Fmt.{decimal}

-- the byte of a class and a detail.
abbrev pub code : ℕ → ℕ → ℕ
code class detail = 32 * class + detail

-- the text of a code: the class, a full stop, and the detail in two digits.
abbrev pub code_text : ℕ → List ℕ
code_text code = decimal (code / 32) ++ (codes "." ++ (decimal (code % 32 / 10) ++ decimal (code % 32 % 10)))
