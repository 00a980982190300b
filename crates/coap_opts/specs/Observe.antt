-- The values of the Observe option (RFC 7641, section 2).
use Rattle.std.specs.Prelude.{ℕ, ◌==◌, Bool, false, Option, Some, None}

-- whether the option has this value.
abbrev pub has_observe : ℕ → Option ℕ → Bool
has_observe value None = false
has_observe value (Some own) = own == value
