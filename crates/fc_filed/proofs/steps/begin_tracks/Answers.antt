use Rattle.std.proofs.Common.{arith}
use Rattle.fc_filed.proofs.Rule.{held_begins_tracks}
use Rattle.fc_filed.proofs.steps.begin_tracks.Goals as goal

pub split_seat-requires : goal.split_seat-requires
split_seat-requires c = (c.requires.table, (let s = c.requires.size in omega arith), λ s h at. held_begins_tracks c.args.words.now.shared.key s.words s.views _ _ h at c.requires.may_begin)
