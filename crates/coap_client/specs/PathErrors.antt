-- The reasons why a text isn't a path.
use Rattle.std.specs.Prelude.{◌≡◌, ◌≢◌, ℕ, ◌+◌, ◌<◌, List, [], ◌∷◌, ◌++◌, length}
use Rattle.std.specs.List.{All}
use Rattle.coap_client.specs.declared.path.PathError.{PathError}
use Rattle.coap_client.specs.declared.path.PathError.TheVariants.{NoSlash, Empty, Long, NoMemory}
use Rattle.coap_client.specs.Paths.{HasNoSlash, IsFirstSegment, IsNoPath, IsSegment, path_text, slash}

-- `segment` is the text of a part between slashes, and isn't a segment: it is empty, or has more
-- than 255 bytes. The error has the part's number.
abbrev pub IsUnfit : List ℕ → ℕ → PathError → Type 0
IsUnfit segment number (Empty told) = (segment ≡ []) × (told ≡ number)
IsUnfit segment number (Long told) = (255 < length segment) × (told ≡ number)
IsUnfit segment number other = ⊥

-- the text isn't a path, or the error is `NoMemory`.
abbrev pub TellsNoPath : List ℕ → PathError → Type 0
TellsNoPath text NoMemory = Unit {0}
TellsNoPath text other = IsNoPath text

-- the first part that isn't a segment has this number, counted from 1. The text consists of the
-- segments before it, a slash, and a rest; the part is that rest up to its first slash, or all of
-- the rest.
pub record IsFirstUnfit (text : List ℕ) (number : ℕ) (Unfit : List ℕ → Type 0) : Type 0 where
  pub before : List (List ℕ)
  pub are : All IsSegment before
  pub number_is : number ≡ length before + 1
  pub after : List ℕ
  pub text_is : text ≡ path_text before ++ slash ∷ after
  pub segment : List ℕ
  pub rest : List ℕ
  pub cut : IsFirstSegment after segment rest
  pub unfit : Unfit segment

-- the errors of a path: the text doesn't begin with a slash; the first part that isn't a segment
-- has this number, and is empty or too long; or memory couldn't be allocated.
abbrev pub IsPathFault : List ℕ → PathError → Type 0
IsPathFault text NoSlash = (text ≢ []) × HasNoSlash text
IsPathFault text (Empty number) = IsFirstUnfit text number (λ segment. segment ≡ [])
IsPathFault text (Long number) = IsFirstUnfit text number (λ segment. 255 < length segment)
IsPathFault text NoMemory = Unit {0}
