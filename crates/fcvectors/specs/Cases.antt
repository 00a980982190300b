-- The content of a vector, given by its lines, and the outputs that the vector allows.
use Rattle.std.specs.Prelude.{IsTrue, nat_eq, ◌≡◌, ◌≢◌, fold, ◌⊎◌, ◌↔◌, ℕ, List, [], ◌∷◌, ◌++◌, ◌==◌, ⊤}
use Rattle.std.specs.List.{flat_map, slice_split, starts_with}
use Rattle.fc_cli.specs.declared.status.Status.{Status}
use Rattle.fc_cli.specs.declared.status.Status.TheVariants.{Done}
use Rattle.fcvectors.specs.declared.line.Stream.{Stream}
use Rattle.fcvectors.specs.declared.line.Stream.TheVariants.{Stdin, Stdout, Stderr}
use Rattle.fcvectors.specs.declared.line.CaseLine.{CaseLine}
use Rattle.fcvectors.specs.declared.line.CaseLine.TheVariants.{Blank, Command, Piece, Ending}
use Rattle.fcvectors.specs.declared.case.Output.{Output}
use Rattle.fcvectors.specs.declared.case.Vector.{Vector}
use Rattle.fcvectors.specs.Lines.{IsCaseLine, copies_bytes}

-- there are as many texts as lines, and each line has the form of the text at the same place.
abbrev pub AreWritten : List (List ℕ) → List CaseLine → Type 0
AreWritten [] [] = ⊤
AreWritten (text ∷ texts) (line ∷ lines) = IsCaseLine text line × AreWritten texts lines
AreWritten texts lines = ⊥

-- the lines of a text, which line feeds separate, have these forms.
abbrev pub AreLines : List ℕ → List CaseLine → Type 0
AreLines text lines = AreWritten (slice_split (λ byte. byte == 10) text) lines

-- the bytes that a line adds to a stream.
abbrev pub piece_bytes : Stream → CaseLine → List ℕ
piece_bytes Stdin (Piece Stdin copies) = copies_bytes copies
piece_bytes Stdout (Piece Stdout copies) = copies_bytes copies
piece_bytes Stderr (Piece Stderr copies) = copies_bytes copies
piece_bytes stream line = []

-- the status that a line gives, or the status before the line if it gives none.
abbrev pub status_after : Status → CaseLine → Status
status_after status (Ending said) = said
status_after status Blank = status
status_after status (Command command) = status
status_after status (Piece stream copies) = status

-- the last status that the lines give, or `Done` if they give none.
abbrev pub last_status : List CaseLine → Status
last_status lines = fold status_after Done lines

-- a vector's streams have the bytes of the lines, in order, and the vector has the last status that
-- the lines give.
pub record IsVectorOf (lines : List CaseLine) (vector : Vector) : Type 0 where
  pub stdin : vector.stdin.items ≡ flat_map (piece_bytes Stdin) lines
  pub stdout : vector.output.stdout.items ≡ flat_map (piece_bytes Stdout) lines
  pub stderr : vector.output.stderr.items ≡ flat_map (piece_bytes Stderr) lines
  pub status : vector.output.status ≡ last_status lines

-- `..` and a line feed.
abbrev pub dots : List ℕ
dots = 46 ∷ 46 ∷ 10 ∷ []

-- standard error `told` is the vector's, `said`, or begins with the vector's up to `..` at the end.
-- If the vector has none, standard error is empty exactly if the status is `Done`.
abbrev pub AllowsTold : Status → List ℕ → List ℕ → Type 0
AllowsTold status said told =
    ((said ≡ []) × ((told ≡ []) ↔ (status ≡ Done)))
    ⊎ ((said ≢ []) × (told ≡ said))
    ⊎ ((start : List ℕ) × (said ≡ start ++ dots) × IsTrue (starts_with nat_eq told start))

-- the vector's output `said` allows the output `other`.
pub record Allows (said other : Output) : Type 0 where
  pub status : said.status ≡ other.status
  pub stdout : said.stdout.items ≡ other.stdout.items
  pub stderr : AllowsTold said.status said.stderr.items other.stderr.items
