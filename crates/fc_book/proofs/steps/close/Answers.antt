use Rattle.std.proofs.Common.{arith}
use Rattle.fc_book.specs.Calls.{keys_of}
use Rattle.fc_book.proofs.Kept.{closes}
use Rattle.fc_book.proofs.steps.close.Goals as goal

pub join_seat-requires : goal.join_seat-requires
join_seat-requires c =
    let p = c.requires.part in (
      c.requires.table,
      c.requires.part_table,
      p.2,
      (let s = c.requires.size in omega arith),
      λ s h at apart there. record { log = h.log; views_of = closes keys_of c.args.seat.now.me.0 c.args.part.me.0 p.0 p.1 p.3 h.log s.views _ _ h.views_of at apart there },
    )
