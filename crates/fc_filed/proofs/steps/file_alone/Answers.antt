use Rattle.std.proofs.Common.{refl, arith}
use Rattle.atomic_table.specs.Table.{keeps}
use Rattle.fc_book.specs.Tracks.{with_filed}
use Rattle.fc_filed.specs.Entries.{entry_keys}
use Rattle.fc_filed.proofs.Rule.{held_no_part}
use Rattle.fc_filed.proofs.steps.file_alone.Goals as goal

pub load-requires : goal.load-requires
load-requires g c =
    let v = c.args.seat.now.me.0 in
    let e = g.X.FiledName.entry in
    let on = c.requires.on in (
      c.requires.table,
      (let s = c.requires.size in omega arith),
      λ s h n at fits. (with_filed entry_keys e v, keeps, tt, held_no_part c.args.words.now.shared.key s.words s.views _ v h at e c.requires.no_part c.requires.unsaved c.requires.for_job on.0 on.1 c.requires.keyed, refl),
    )
