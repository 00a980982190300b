use Rattle.std.proofs.Common.{arith}
use Rattle.fc_book.specs.Calls.{keys_of}
use Rattle.fc_book.proofs.Kept.{sits}
use Rattle.fc_book.proofs.steps.empty_seat.Goals as goal

pub split_seat-requires : goal.split_seat-requires
split_seat-requires c = (c.requires.table, (let s = c.requires.size in omega arith), λ s h at. record { log = h.log; views_of = sits keys_of h.log s.views _ _ h.views_of at })
