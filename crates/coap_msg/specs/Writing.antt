-- Outgoing messages: their parts, and their options one after another.
use Rattle.std.specs.Prelude.{ℕ, List, [], ◌∷◌, Option, Some, None, map}
use Rattle.std.specs.Borrow.{Bor}
use Rattle.std.specs.Option.{option_map}
use Rattle.arrayvec.specs.ArrayVec.{ArrayVec}
use Rattle.coap_msg.specs.declared.writer.Outgoing.{Outgoing}
use Rattle.coap_msg.specs.Wire.{Message}

-- the options by value, without their borrows.
abbrev pub options_in : List (ℕ × Bor (List ℕ)) → List (ℕ × List ℕ)
options_in options = map (λ o. (o.0, o.1.now)) options

-- the message by value, without the borrows of its parts.
abbrev pub message_stated : Outgoing → Message
message_stated m = record { kind = m.kind; code = m.code.byte; id = m.id; token = m.token.now; options = options_in m.options.now; payload = m.payload.now }

-- the option with this number, if it has a value.
abbrev pub optional : ℕ → Option (List ℕ) → List (ℕ × List ℕ)
optional number None = []
optional number (Some value) = (number, value) ∷ []

-- the option with this number, if it has a value of at most 8 bytes.
abbrev pub short_option : ℕ → Option (ArrayVec ℕ) → List (ℕ × List ℕ)
short_option number value = optional number (option_map (λ v. v.items) value)

-- the number of the last option, or `before` if there are no options; the next option's delta
-- counts from it.
abbrev pub last_number : ℕ → List (ℕ × List ℕ) → ℕ
last_number before [] = before
last_number before ((number, value) ∷ options) = last_number number options
