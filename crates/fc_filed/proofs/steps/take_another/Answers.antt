use Rattle.std.proofs.Common.{arith}
use Rattle.fc_filed.proofs.Rule.{held_takes_another}
use Rattle.fc_filed.proofs.steps.take_another.Goals as goal

pub join_seat-requires : goal.join_seat-requires
join_seat-requires c =
    let part = c.requires.part in (
      c.requires.table,
      c.requires.part_table,
      part.2,
      (let s = c.requires.size in omega arith),
      λ s h at apart there. held_takes_another c.args.words.now.shared.key s.words s.views _ c.args.seat.now.me.0 h at c.args.part.me.0 _ part.0 apart there,
    )
