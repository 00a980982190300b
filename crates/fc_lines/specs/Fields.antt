-- The fields of a line.
use Rattle.std.specs.Prelude.{◌≡◌, ◌≢◌, ◌<◌, ℕ, List, [], ◌∷◌, ◌++◌, All}
use Rattle.std.specs.Str.Parse.{IsNumeral, digits_value}

abbrev pub space : ℕ
space = 32

abbrev pub dash : List ℕ
dash = 45 ∷ []

-- the second field of a line with readings: `dev`.
abbrev pub device : List ℕ
device = 100 ∷ 101 ∷ 118 ∷ []

-- no byte of the text is a space.
abbrev pub IsUnspaced : List ℕ → Type 0
IsUnspaced text = All (λ b. b ≢ space) text

-- three fields, separated by single spaces.
abbrev pub spaced : List ℕ → List ℕ → List ℕ → List ℕ
spaced first second third = first ++ (space ∷ (second ++ (space ∷ third)))

-- the text is one or more decimal digits, which represent `n`; leading zeros are allowed.
pub record IsNumber (text : List ℕ) (n : ℕ) : Type 0 where
  pub digits : IsNumeral 10 text
  pub value : digits_value 10 text ≡ n

-- the text isn't a number below a limit.
pub record IsNoNumber (text : List ℕ) (limit : ℕ) : Type 0 where
  pub none : (n : ℕ) → n < limit → IsNumber text n → ⊥

-- the text consists of these three fields; the third may have spaces.
pub record AreFields (text first second third : List ℕ) : Type 0 where
  pub text_is : text ≡ spaced first second third
  pub first_unspaced : IsUnspaced first
  pub second_unspaced : IsUnspaced second

-- a text has fewer than three fields.
pub record HasNoFields (text : List ℕ) : Type 0 where
  pub none : (first second third : List ℕ) → AreFields text first second third → ⊥
