use Rattle.std.proofs.Common.{refl, arith}
use Rattle.atomic_table.specs.Table.{keeps}
use Rattle.fc_book.specs.Calls.{keys_of}
use Rattle.fc_book.proofs.Kept.{looks}
use Rattle.fc_book.proofs.steps.attest.Goals as goal

pub load-requires : goal.load-requires
load-requires c =
    let v = c.args.seat.now.me.0 in (
      c.requires.table,
      (let s = c.requires.size in omega arith),
      λ s h n at fits. (v, keeps, tt, record { log = h.log; views_of = looks keys_of h.log s.views _ v h.views_of at }, (refl, record { log = h.log; is = h.views_of.each _ v at })),
    )
