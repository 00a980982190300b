use Rattle.fc_locked.proofs.TwoDraws.{two_ids}
use Rattle.fc_locked.proofs.laws.two_threads_draw_two_ids.Goals as goal

pub returns : goal.returns
returns c = two_ids
