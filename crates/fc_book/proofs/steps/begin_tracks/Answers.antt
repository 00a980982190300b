use Rattle.std.proofs.Common.{arith}
use Rattle.fc_book.specs.Calls.{keys_of}
use Rattle.fc_book.proofs.Kept.{begins_tracks}
use Rattle.fc_book.proofs.steps.begin_tracks.Goals as goal

pub split_seat-requires : goal.split_seat-requires
split_seat-requires c = (c.requires.table, (let s = c.requires.size in omega arith), λ s h at. record { log = h.log; views_of = begins_tracks keys_of _ c.requires.may_begin h.log s.views _ h.views_of at })
