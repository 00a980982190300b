-- Recognition of a message's options (RFC 7252, sections 5.4.1, 5.4.3 and 5.4.5).
use Rattle.std.specs.Prelude.{ℕ, ◌%◌, ◌==◌, ◌&&◌, ◌||◌, not, Bool, true, false, nat_le, if◌then◌else◌, List, [], ◌∷◌, length, Option, Some, None}
use Rattle.std.specs.List.{find, position}
use Rattle.coap_msg.specs.declared.code.Code.{Code}
use Rattle.coap_opts.specs.declared.served.Row.{Row}
use Rattle.coap_opts.specs.Served.{rows}

-- the table's row for the option with this number.
unfoldable pub row_of : ℕ → Option Row
row_of number = find (λ r. r.number == number) rows

-- the place of that row in the table, from 0.
unfoldable pub row_place : ℕ → Option ℕ
row_place number = position (λ r. r.number == number) rows

-- the row, if there is one, allows only values of at most `most` bytes.
abbrev pub allows_at_most : ℕ → Option Row → Bool
allows_at_most most None = true
allows_at_most most (Some r) = nat_le r.greatest most

-- the option before has the same number. Options come in the order of their numbers, so a
-- repetition directly follows the first option with its number.
abbrev pub is_repeat : Option ℕ → ℕ → Bool
is_repeat None number = false
is_repeat (Some before) number = before == number

-- the row allows every method, or its only method has this code.
abbrev pub is_defined_for : Option Code → ℕ → Bool
is_defined_for None code = true
is_defined_for (Some only) code = only.byte == code

-- the option of the row has a legal length, is defined for the method, and doesn't repeat an option
-- that isn't repeatable.
abbrev pub fits : Row → ℕ → Option ℕ → ℕ → Bool
fits r code before count = (nat_le r.least count && nat_le count r.greatest) && (is_defined_for r.only code && (r.repeatable || not (is_repeat before r.number)))

-- the option of a row fits by `fits`; an option without a row doesn't fit.
abbrev pub fits_row : Option Row → ℕ → Option ℕ → ℕ → Bool
fits_row None code before count = false
fits_row (Some r) code before count = fits r code before count

-- whether an option is recognised, from the message's code, the number of the option before, the
-- option's own number and the length of its value.
unfoldable pub is_recognised : ℕ → Option ℕ → ℕ → ℕ → Bool
is_recognised code before number count = fits_row (row_of number) code before count

-- an unrecognised critical option: its number is odd (RFC 7252, section 5.4.6).
abbrev pub is_unknown_critical : ℕ → Option ℕ → ℕ → ℕ → Bool
is_unknown_critical code before number count = (number % 2 == 1) && not (is_recognised code before number count)

-- one of the options is an unrecognised critical one.
abbrev pub has_unknown_critical : ℕ → Option ℕ → List (ℕ × List ℕ) → Bool
has_unknown_critical code before [] = false
has_unknown_critical code before ((number, value) ∷ options) =
    is_unknown_critical code before number (length value) || has_unknown_critical code (Some number) options

-- the values of the recognised options with the number `wanted`, in order; `before` is the number
-- of the option before the first, if there is one.
abbrev pub values_of : ℕ → ℕ → Option ℕ → List (ℕ × List ℕ) → List (List ℕ)
values_of wanted code before [] = []
values_of wanted code before ((number, value) ∷ options) =
    if (number == wanted) && is_recognised code before number (length value)
    then value ∷ values_of wanted code (Some number) options
    else values_of wanted code (Some number) options
