use Rattle.std.proofs.Common.{refl, arith}
use Rattle.atomic_table.specs.Table.{keeps}
use Rattle.fc_book.specs.Tracks.{with_begun}
use Rattle.fc_book.specs.Calls.{keys_of}
use Rattle.fc_book.proofs.Kept.{begins}
use Rattle.fc_book.proofs.steps.begin.Goals as goal

pub load-requires : goal.load-requires
load-requires c =
    let v = c.args.seat.now.me.0 in (
      c.requires.table,
      (let s = c.requires.size in omega arith),
      λ s h n at fits. (with_begun v, keeps, tt, record { log = h.log; views_of = begins keys_of v c.requires.may_begin h.log s.views _ h.views_of at }, refl),
    )
