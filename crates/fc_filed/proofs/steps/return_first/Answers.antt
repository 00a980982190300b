use Rattle.std.proofs.Common.{arith}
use Rattle.fc_filed.proofs.Rule.{held_returns_first}
use Rattle.fc_filed.proofs.steps.return_first.Goals as goal

pub split_seat-requires : goal.split_seat-requires
split_seat-requires c = (c.requires.table, (let s = c.requires.size in omega arith), λ s h at. held_returns_first c.args.words.now.shared.key s.words s.views _ _ h at c.requires.single)
