-- The list of the slots that have a program, as links (RFC 6690, section 2).
use Rattle.std.specs.Prelude.{ℕ, ◌+◌, if◌then◌else◌, List, [], ◌∷◌, ◌++◌, codes, drop}
use Rattle.std.specs.Fmt.{decimal}
use Rattle.fc_front.specs.Heads.{is_present}

-- a comma and the link to slot n's resource, which may be observed (RFC 7641, section 6).
abbrev pub link : ℕ → List ℕ
link n = codes ",</r/" ++ (decimal n ++ codes ">;obs")

-- the links to the slots from slot n on that have a program, according to these head words.
abbrev pub links_from : ℕ → List ℕ → List ℕ
links_from n [] = []
links_from n (word ∷ words) = (if is_present word then link n else []) ++ links_from (n + 1) words

-- the links to all slots that have a program, separated by commas.
abbrev pub links_text : List ℕ → List ℕ
links_text words = drop 1 (links_from 0 words)
