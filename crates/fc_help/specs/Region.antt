-- A request in a program's memory, in 1,104 bytes, and the readings there, in 64 bytes.
use Rattle.std.specs.Prelude.{ℕ, ◌-◌, List, ◌∷◌, ◌++◌, length, take, replicate, slice_index, Option, Some, None}
use Rattle.std.specs.Int.{w16, to_le_bytes}
use Rattle.fc_help.specs.declared.request.Method.{Method}
use Rattle.fc_help.specs.declared.request.Method.TheVariants.{Get, Post}
use Rattle.fc_help.specs.Request.{Request}

abbrev pub method_number : Method → ℕ
method_number Get = 1
method_number Post = 2

-- the number of a Content-Format; a missing one is zero.
abbrev pub format_number : Option ℕ → ℕ
format_number None = 0
format_number (Some format) = format

-- the byte that says whether there is a Content-Format: 1 if there is one, and otherwise 0.
abbrev pub said : Option ℕ → ℕ
said None = 0
said (Some format) = 1

-- bytes padded with zeros to a size.
abbrev pub padded : ℕ → List ℕ → List ℕ
padded size bytes = bytes ++ replicate (size - length bytes) 0

-- the first 16 bytes: the method, the slot, the payload's length in two bytes, the Content-Format
-- in two, whether there is one, the query's length, and eight zeros; numbers have their least
-- significant byte first.
abbrev pub region_head : Request → List ℕ
region_head r =
    method_number r.method ∷ r.slot
    ∷ slice_index (to_le_bytes w16 (length r.payload)) 0 ∷ slice_index (to_le_bytes w16 (length r.payload)) 1
    ∷ slice_index (to_le_bytes w16 (format_number r.content_format)) 0 ∷ slice_index (to_le_bytes w16 (format_number r.content_format)) 1
    ∷ said r.content_format ∷ length r.query ∷ replicate 8 0

-- the region of a request: its first 16 bytes, then 64 bytes for the query, and then 1,024 for the
-- payload.
unfoldable pub region_of : Request → List ℕ
region_of r = region_head r ++ (padded 64 r.query ++ padded 1024 r.payload)

-- readings of zeros.
abbrev pub no_readings : List ℕ
no_readings = replicate 64 0

-- the readings in a program's memory: 64 bytes, whatever was supplied.
unfoldable pub readings_region : List ℕ → List ℕ
readings_region bytes = take 64 (bytes ++ replicate 64 0)
