-- The forms of the lines of a case, and the bytes of the pieces.
use Rattle.std.specs.Prelude.{◌≡◌, ◌⊎◌, ℕ, List, [], ◌∷◌, ◌++◌, true, false, if◌then◌else◌}
use Rattle.std.specs.List.{repeat}
use Rattle.fc_cli.specs.declared.status.Status.{Status}
use Rattle.fc_cli.specs.declared.status.Status.TheVariants.{Done, Refused, Bad, Failed}
use Rattle.fc_lines.specs.Fields.{space, IsNumber}
use Rattle.fcvectors.specs.declared.line.Stream.{Stream}
use Rattle.fcvectors.specs.declared.line.Stream.TheVariants.{Stdin, Stdout, Stderr}
use Rattle.fcvectors.specs.declared.line.Copies.{Copies}
use Rattle.fcvectors.specs.declared.line.CaseLine.{CaseLine}
use Rattle.fcvectors.specs.declared.line.CaseLine.TheVariants.{Blank, Command, Piece, Ending}

-- the marks `#`, `$`, `=`, `>`, `!`, `*` and `\`.
abbrev pub hash : ℕ
hash = 35

abbrev pub dollar : ℕ
dollar = 36

abbrev pub equals_sign : ℕ
equals_sign = 61

abbrev pub greater : ℕ
greater = 62

abbrev pub exclamation : ℕ
exclamation = 33

abbrev pub star : ℕ
star = 42

abbrev pub backslash : ℕ
backslash = 92

-- the line is the mark, a space and the text; or it is the mark alone, and the text is empty.
abbrev pub HasMark : ℕ → List ℕ → List ℕ → Type 0
HasMark mark line text = (line ≡ mark ∷ (space ∷ text)) ⊎ ((line ≡ mark ∷ []) × (text ≡ []))

-- the line doesn't begin with the mark and a space, and isn't the mark alone.
abbrev pub HasNoMark : ℕ → List ℕ → Type 0
HasNoMark mark line = (text : List ℕ) → HasMark mark line text → ⊥

-- the line is empty, or a comment.
abbrev pub IsBlank : List ℕ → Type 0
IsBlank line = (line ≡ []) ⊎ ((rest : List ℕ) × (line ≡ hash ∷ rest))

-- the line is a piece of this stream.
abbrev pub IsPieceOf : List ℕ → Stream → List ℕ → Type 0
IsPieceOf line Stdin piece = (piece ≡ line) × HasNoMark greater line × HasNoMark exclamation line
IsPieceOf line Stdout piece = HasMark greater line piece
IsPieceOf line Stderr piece = HasMark exclamation line piece

-- `*N*TEXT` is N copies of TEXT, and a text that doesn't begin with a star is one copy of itself.
abbrev pub IsCounted : List ℕ → ℕ → List ℕ → Type 0
IsCounted counted count text =
    ((digits : List ℕ) × (counted ≡ star ∷ (digits ++ (star ∷ text))) × IsNumber digits count)
    ⊎ ((counted ≡ text) × (count ≡ 1) × ((rest : List ℕ) → text ≡ star ∷ rest → ⊥))

-- a line feed follows each copy, unless the piece ends with a backslash.
abbrev pub IsPiece : List ℕ → Copies → Type 0
IsPiece piece copies =
    ((counted : List ℕ) × (piece ≡ counted ++ (backslash ∷ [])) × IsCounted counted copies.count copies.text.now × (copies.ends_line ≡ false))
    ⊎ (IsCounted piece copies.count copies.text.now × ((front : List ℕ) → piece ≡ front ++ (backslash ∷ []) → ⊥) × (copies.ends_line ≡ true))

-- the word for a status: `refused`, `bad` or `failed`. `Done` has none.
abbrev pub IsWordOf : Status → List ℕ → Type 0
IsWordOf Done word = ⊥
IsWordOf Refused word = word ≡ 114 ∷ 101 ∷ 102 ∷ 117 ∷ 115 ∷ 101 ∷ 100 ∷ []
IsWordOf Bad word = word ≡ 98 ∷ 97 ∷ 100 ∷ []
IsWordOf Failed word = word ≡ 102 ∷ 97 ∷ 105 ∷ 108 ∷ 101 ∷ 100 ∷ []

-- the line of a case has this form.
abbrev pub IsCaseLine : List ℕ → CaseLine → Type 0
IsCaseLine line Blank = IsBlank line
IsCaseLine line (Command command) = HasMark dollar line command.now
IsCaseLine line (Ending status) = (word : List ℕ) × HasMark equals_sign line word × IsWordOf status word
IsCaseLine line (Piece stream copies) = (piece : List ℕ) × IsPieceOf line stream piece × IsPiece piece copies
    × HasNoMark dollar line × HasNoMark equals_sign line × (IsBlank line → ⊥)

-- the bytes of one of the copies, and of all copies.
abbrev pub copy_bytes : Copies → List ℕ
copy_bytes copies = copies.text.now ++ (if copies.ends_line then 10 ∷ [] else [])

abbrev pub copies_bytes : Copies → List ℕ
copies_bytes copies = repeat copies.count (copy_bytes copies)
