use Rattle.std.proofs.Common.{refl, ap, arith}
use Rattle.std.specs.Prelude.{slice_index}
use Rattle.atomic_table.specs.Table.{keeps}
use Rattle.fc_heads.specs.Heads.{raised_to}
use Rattle.fc_heads.proofs.Moves.{raises}
use Rattle.fc_heads.proofs.steps.raise.Goals as goal

pub fetch_max-requires : goal.fetch_max-requires
fetch_max-requires c =
    let v = c.args.seat.now.me.0 in
    let i = c.args.slot in
    let k = c.args.word in (
      c.requires.table,
      (let s = c.requires.size in let e = c.requires.slot in let w = ap (λ t. t.words) c.requires.table in omega arith),
      λ s h n at fits. let m = h.seen _ v at i c.requires.slot in (raised_to v i k (slice_index s.words i), keeps, tt, raises s.words s.views _ i k v h at c.requires.slot c.requires.whole.0 c.requires.whole.1, (m, refl)),
    )
