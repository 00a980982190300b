use Rattle.std.proofs.Common.{refl, arith}
use Rattle.fc_heads.specs.Heads.{fresh}
use Rattle.fc_heads.proofs.Moves.{arrives}
use Rattle.fc_heads.proofs.steps.arrive.Goals as goal

pub load_new_seat-found-requires : goal.load_new_seat-found-requires
load_new_seat-found-requires c = (
  (let s = c.requires in omega arith),
  λ s h size fits. (fresh, arrives s.words s.views h, refl),
)
