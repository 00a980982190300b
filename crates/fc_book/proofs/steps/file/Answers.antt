use Rattle.std.proofs.Common.{◌++◌, ◌∷◌, [], arith}
use Rattle.fc_book.specs.Calls.{keys_of}
use Rattle.fc_book.proofs.Kept.{files}
use Rattle.fc_book.proofs.steps.file.Goals as goal

pub join_seat-requires : goal.join_seat-requires
join_seat-requires g c =
    let on = c.requires.on in (
      c.requires.table,
      c.requires.part_table,
      c.requires.part.2,
      (let s = c.requires.size in omega arith),
      λ s h at apart there. record {
        log = h.log ++ g.X.EntryName.entry ∷ [];
        views_of = files keys_of g.X.EntryName.entry c.args.seat.now.me.0 c.args.part.me.0 on.0 on.0 on.1 on.2 c.requires.part.1 h.log s.views _ _ h.views_of at apart there;
      },
    )
