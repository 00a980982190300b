-- The first values of a message's recognised options, one for each row of the table of options.
use Rattle.std.specs.Prelude.{◌≡◌, ℕ, ◌≤◌, Bool, true, false, List, ◌∷◌, length, Option, Some, None, IfSome, slice_index_or}
use Rattle.std.specs.Option.{option_map}
use Rattle.std.specs.Borrow.{Bor}
use Rattle.coap_msg.specs.Wire.{Message}
use Rattle.coap_msg.specs.Reading.{◌>>=◌}
use Rattle.coap_opts.specs.Recognition.{allows_at_most, row_place, row_of}
use Rattle.coap_opts.specs.Verdict.{first_of, values}

-- a value without its borrow.
abbrev pub lent : Option (Bor (List ℕ)) → Option (List ℕ)
lent value = option_map (λ v. v.now) value

-- the first values, one for each row of the table of options.
abbrev pub FirstValues : Type 0
FirstValues = List (Option (Bor (List ℕ)))

-- the first value of the option with this number; `None` also if the table has no row for it.
abbrev pub first_at : FirstValues → ℕ → Option (List ℕ)
first_at firsts number = row_place number >>= λ place. lent (slice_index_or firsts place None)

-- the stored values are those of the message's options.
abbrev pub AreFirsts : Message → FirstValues → Type 0
AreFirsts m firsts = (number : ℕ) → first_at firsts number ≡ first_of (values number m)

-- the stored value, or else the first value that is left.
abbrev pub first_with : Option (List ℕ) → List (List ℕ) → Option (List ℕ)
first_with None left = first_of left
first_with (Some first) left = Some first

-- `value` prepended if the test holds.
abbrev pub cons_if : Bool → List ℕ → List (List ℕ) → List (List ℕ)
cons_if false value left = left
cons_if true value left = value ∷ left

-- each stored value has at most the length that its option's row allows.
abbrev pub AreShort : FirstValues → Type 0
AreShort firsts = (number most : ℕ) → allows_at_most most (row_of number) ≡ true → IfSome (first_at firsts number) (λ v. length v ≤ most)
