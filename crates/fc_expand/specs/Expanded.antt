-- Sources with nothing to expand.
use Rattle.std.specs.Prelude.{ℕ, ◌==◌, ◌||◌, ◌&&◌, not, nat_le, if◌then◌else◌, Bool, true, false, List, [], ◌∷◌}

-- the byte is a tab or a carriage return, which are read as a space.
abbrev pub is_tab : ℕ → Bool
is_tab b = (b == 9) || (b == 13)

abbrev pub as_space : ℕ → ℕ
as_space b = if is_tab b then 32 else b

-- the byte is `:`, `'` or `"`.
abbrev pub is_mark : ℕ → Bool
is_mark b = (b == 58) || ((b == 39) || (b == 34))

-- the two bytes are `0x`, or the `.c` of `.const`.
abbrev pub is_short_form : ℕ → ℕ → Bool
is_short_form a b = ((a == 48) && (b == 120)) || ((a == 46) && (b == 99))

-- the byte is a space, or is read as one.
abbrev pub is_space : ℕ → Bool
is_space b = (b == 32) || is_tab b

-- the byte is a space, or is read as one, or is a comma.
abbrev pub parts_words : ℕ → Bool
parts_words b = is_space b || (b == 44)

-- the byte is `-` or a digit.
abbrev pub begins_number : ℕ → Bool
begins_number b = (b == 45) || (nat_le 48 b && nat_le b 57)

-- the bytes begin with `call`, a separator, and then no number: possibly a helper's name.
abbrev pub begins_named_call : List ℕ → Bool
begins_named_call (c ∷ a ∷ l ∷ m ∷ b ∷ first ∷ more) = ((c == 99) && ((a == 97) && ((l == 108) && (m == 108)))) && (parts_words b && not (begins_number first))
begins_named_call other = false

abbrev pub begins_pair : List ℕ → Bool
begins_pair (a ∷ b ∷ more) = is_short_form a b
begins_pair other = false

-- a mark begins at the first byte of these bytes.
abbrev pub begins_mark : List ℕ → Bool
begins_mark [] = false
begins_mark (b ∷ more) = is_mark b || (begins_pair (b ∷ more) || begins_named_call (b ∷ more))

-- no mark begins anywhere in the source.
abbrev pub is_plain_but_for_tabs : List ℕ → Bool
is_plain_but_for_tabs [] = true
is_plain_but_for_tabs (b ∷ more) = not (begins_mark (b ∷ more)) && is_plain_but_for_tabs more

abbrev pub has_no_tab : List ℕ → Bool
has_no_tab [] = true
has_no_tab (b ∷ more) = not (is_tab b) && has_no_tab more

-- no mark begins anywhere in the source, and it has neither a tab nor a carriage return.
abbrev pub is_plain : List ℕ → Bool
is_plain text = is_plain_but_for_tabs text && has_no_tab text
