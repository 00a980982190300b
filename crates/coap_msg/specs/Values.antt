-- The options with one number (RFC 7252, section 5.4.5).
use Rattle.std.specs.Prelude.{ℕ, ◌==◌, if◌then◌else◌, List, [], ◌∷◌}

-- the values of the options with this number, in order.
abbrev pub values_in : ℕ → List (ℕ × List ℕ) → List (List ℕ)
values_in wanted [] = []
values_in wanted ((number, value) ∷ options) = if number == wanted then value ∷ values_in wanted options else values_in wanted options
