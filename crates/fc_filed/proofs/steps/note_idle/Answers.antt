use Rattle.std.proofs.Common.{ap, refl, arith}
use Rattle.atomic_table.specs.Table.{keeps}
use Rattle.fc_filed.proofs.Rule.{held_notes_idle}
use Rattle.fc_filed.proofs.steps.note_idle.Goals as goal

pub store-requires : goal.store-requires
store-requires c =
    let v = c.args.seat.now.me.0 in (
      c.requires.table,
      (let s = c.requires.size in let i = c.requires.index in omega arith),
      λ s h n at fits. (
        v,
        keeps,
        tt,
        held_notes_idle c.args.words.now.shared.key s.words s.views _ v h at c.args.index c.requires.index c.args.until (ap (λ m. m.0.locked) c.requires.part) c.requires.idle,
        refl,
      ),
    )
