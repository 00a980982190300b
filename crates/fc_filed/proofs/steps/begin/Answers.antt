use Rattle.std.proofs.Common.{refl, arith}
use Rattle.atomic_table.specs.Table.{keeps}
use Rattle.fc_book.specs.Tracks.{with_begun}
use Rattle.fc_filed.proofs.Rule.{held_begins}
use Rattle.fc_filed.proofs.steps.begin.Goals as goal

pub load-requires : goal.load-requires
load-requires c =
    let v = c.args.seat.now.me.0 in (
      c.requires.table,
      (let s = c.requires.size in omega arith),
      λ s h n at fits. (with_begun v, keeps, tt, held_begins c.args.words.now.shared.key s.words s.views _ v h at c.requires.may_begin, refl),
    )
