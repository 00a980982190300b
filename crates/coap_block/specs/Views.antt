-- The result for a block and a part of a body, as contracts see both.
use Rattle.coap_block.specs.declared.uploads.Added.{Added}
use Rattle.coap_block.specs.declared.uploads.Added.TheVariants as said
use Rattle.coap_block.specs.declared.uploads.UploadRefusal.{UploadRefusal}
use Rattle.coap_block.specs.declared.uploads.UploadRefusal.TheVariants as refused
use Rattle.coap_block.specs.Uploads.{Add, Continues, IsWhole, IsIncomplete, IsBadLength, IsTooLarge, IsFull}
use Rattle.std.specs.Prelude.{ℕ, List, Option, Some, None, Result, Ok, Err}
use Rattle.coap_block.specs.declared.cut.Cut.{Cut}
use Rattle.coap_block.specs.declared.cut.PastEnd.{PastEnd}
use Rattle.coap_block.specs.Cuts.{Part}

abbrev pub add_seen : Added → Add
add_seen said.Continue = Continues
add_seen (said.Whole body) = IsWhole body.items
add_seen said.Incomplete = IsIncomplete
add_seen said.BadLength = IsBadLength
add_seen said.TooLarge = IsTooLarge
add_seen said.Full = IsFull

abbrev pub refusal_seen : UploadRefusal → Add
refusal_seen refused.Incomplete = IsIncomplete
refusal_seen refused.BadLength = IsBadLength
refusal_seen refused.TooLarge = IsTooLarge
refusal_seen refused.Full = IsFull

-- the body after a payload is appended to it, or the refusal.
abbrev pub joined_seen : Result Unit UploadRefusal → List ℕ → Add
joined_seen (Ok done) body = IsWhole body
joined_seen (Err refusal) body = refusal_seen refusal

-- a part of a body, as contracts see it.
abbrev pub cut_seen : Result Cut PastEnd → Option Part
cut_seen (Ok cut) = Some (record { bytes = cut.bytes.now; place = cut.block })
cut_seen (Err past) = None
