-- Blocks of response bodies, and the options that name them (RFC 7959, section 2).
use Rattle.std.specs.Prelude.{ℕ, List, [], ◌∷◌, Option, Some, None, min}
use Rattle.std.specs.Option.{option_map}
use Rattle.coap_opts.specs.declared.number.TheConstants as option
use Rattle.coap_opts.specs.Values.{Place, block_bytes}
use Rattle.coap_block.specs.Cuts.{Part, cut_of}

-- the requested block. The reserved size 7, which no accepted request has, counts as the greatest
-- size.
abbrev pub asked_place : Place → Place
asked_place p = record p { szx = min p.szx 6 }

-- the requested block of a body (see `cut_of` if none is requested); `None` if it isn't the first
-- and begins at or past the end.
abbrev pub cut_for : Option Place → List ℕ → Option Part
cut_for asked body = cut_of body (option_map asked_place asked)

-- the Block2 option of a block's place; no option without a place.
abbrev pub block2 : Option Place → List (ℕ × List ℕ)
block2 None = []
block2 (Some place) = (option.BLOCK2, block_bytes place) ∷ []

-- the Block1 option of a block's place; no option without a place.
abbrev pub block1 : Option Place → List (ℕ × List ℕ)
block1 None = []
block1 (Some place) = (option.BLOCK1, block_bytes place) ∷ []
