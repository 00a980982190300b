-- Options as the code decodes them.
use Rattle.std.specs.Prelude.{◌≡◌, ℕ, List, Some}
use Rattle.coap_msg.specs.declared.options.RawOption.{RawOption}
use Rattle.coap_msg.specs.Reading.{option_at}

-- the option is the first that these bytes encode, after an option with the number `before`.
abbrev pub IsFirstOf : ℕ → List ℕ → RawOption → Type 0
IsFirstOf before bytes o = option_at before bytes ≡ Some (record { number = o.number; value = o.value.now; after = o.after.now })
