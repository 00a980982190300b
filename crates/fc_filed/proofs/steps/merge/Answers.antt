use Rattle.std.proofs.Common.{arith}
use Rattle.fc_filed.proofs.Rule.{held_takes}
use Rattle.fc_filed.proofs.steps.merge.Goals as goal

pub join_seat-requires : goal.join_seat-requires
join_seat-requires c =
    let other = c.requires.other in (
      c.requires.table,
      c.requires.other_table,
      other.2,
      (let s = c.requires.size in omega arith),
      λ s h at apart there. held_takes c.args.words.now.shared.key s.words s.views _ c.args.seat.now.me.0 h at c.args.other.me.0 _ other.0 other.1 apart there,
    )
