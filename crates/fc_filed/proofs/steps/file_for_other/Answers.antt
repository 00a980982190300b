use Rattle.std.proofs.Common.{arith}
use Rattle.fc_filed.proofs.Rule.{held_files}
use Rattle.fc_filed.proofs.steps.file_for_other.Goals as goal

pub join_seat-requires : goal.join_seat-requires
join_seat-requires g c =
    let on = c.requires.on in
    let part = c.requires.part in (
      c.requires.table,
      c.requires.part_table,
      part.2,
      (let s = c.requires.size in omega arith),
      λ s h at apart there. held_files c.args.words.now.shared.key s.words s.views _ c.args.seat.now.me.0 h at g.X.FiledName.entry c.args.part.me.0 _ c.requires.on_part c.requires.unsaved on.0 on.1 part.0 part.1 c.requires.locked c.requires.keyed c.requires.other apart there,
    )
