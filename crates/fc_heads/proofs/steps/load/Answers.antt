use Rattle.std.proofs.Common.{refl, ap, arith}
use Rattle.std.specs.Prelude.{slice_index}
use Rattle.atomic_table.specs.Table.{keeps}
use Rattle.fc_heads.specs.Heads.{peeked}
use Rattle.fc_heads.proofs.Moves.{peeks}
use Rattle.fc_heads.proofs.steps.load.Goals as goal

pub load-requires : goal.load-requires
load-requires c =
    let v = c.args.seat.now.me.0 in
    let i = c.args.slot in (
      c.requires.table,
      (let s = c.requires.size in let e = c.requires.slot in let w = ap (λ t. t.words) c.requires.table in omega arith),
      λ s h n at fits. let m = h.seen _ v at i c.requires.slot in (peeked v i (slice_index s.words i), keeps, tt, peeks s.words s.views _ i v h at c.requires.slot c.requires.whole.0, (m, refl)),
    )
