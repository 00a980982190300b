use Rattle.std.proofs.Common.{arith}
use Rattle.fc_heads.specs.Heads.{fresh}
use Rattle.fc_heads.proofs.Moves.{forks, zeros_at}
use Rattle.fc_heads.proofs.steps.another.Goals as goal

pub split_seat-requires : goal.split_seat-requires
split_seat-requires c =
    let v = c.args.seat.now.me.0 in (
      c.requires.table,
      (let s = c.requires.size in omega arith),
      λ s h at. forks s.words s.views _ v fresh h at zeros_at (λ slot l. let z = zeros_at slot l in omega arith),
    )
