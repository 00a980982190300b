use Rattle.std.proofs.Common.{arith}
use Rattle.fc_book.specs.Calls.{keys_of}
use Rattle.fc_book.proofs.Kept.{takes}
use Rattle.fc_book.proofs.steps.merge.Goals as goal

pub join_seat-requires : goal.join_seat-requires
join_seat-requires c = (
  c.requires.table,
  c.requires.other_table,
  c.requires.other.2,
  (let s = c.requires.size in omega arith),
  λ s h at apart there. record { log = h.log; views_of = takes keys_of c.args.seat.now.me.0 c.args.other.me.0 c.requires.other.0 c.requires.other.1 h.log s.views _ _ h.views_of at apart there },
)
