-- Paths in the form of a command line.
use Rattle.std.specs.Prelude.{◌≡◌, ◌≢◌, ℕ, ◌<◌, ◌≤◌, List, [], ◌∷◌, ◌++◌, length, map}
use Rattle.std.specs.List.{All}
use Rattle.std.specs.Borrow.{Bor}

abbrev pub slash : ℕ
slash = 47

-- the value of a Uri-Path option, of 1 to 255 bytes without a slash. (RFC 7252, section 5.10 also
-- allows an empty value.)
pub record IsSegment (s : List ℕ) : Type 0 where
  pub some : 0 < length s
  pub short : length s ≤ 255
  pub unsplit : All (λ b. b ≢ slash) s

-- the text of a path: the segments, each with a slash before it.
abbrev pub path_text : List (List ℕ) → List ℕ
path_text [] = []
path_text (s ∷ segments) = slash ∷ (s ++ path_text segments)

-- the text encodes these segments.
pub record IsSlashed (text : List ℕ) (segments : List (List ℕ)) : Type 0 where
  pub text_is : text ≡ path_text segments
  pub are : All IsSegment segments

-- the text encodes no path.
pub record IsNoPath (text : List ℕ) : Type 0 where
  pub none : (segments : List (List ℕ)) → IsSlashed text segments → ⊥

-- the contents of the slices.
abbrev pub slices_in : List (Bor (List ℕ)) → List (List ℕ)
slices_in lent = map (λ s. s.now) lent

-- the text doesn't begin with a slash.
pub record HasNoSlash (text : List ℕ) : Type 0 where
  pub none : (after : List ℕ) → text ≡ slash ∷ after → ⊥

-- the text after a segment of a path: it is empty, or begins with a slash.
abbrev pub IsRest : List ℕ → Type 0
IsRest [] = Unit {0}
IsRest (b ∷ rest) = b ≡ slash

-- the text is split before its first slash.
pub record IsFirstSegment (text segment rest : List ℕ) : Type 0 where
  pub text_is : text ≡ segment ++ rest
  pub unsplit : All (λ b. b ≢ slash) segment
  pub rest_is : IsRest rest
