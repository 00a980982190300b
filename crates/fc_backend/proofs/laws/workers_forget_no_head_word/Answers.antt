use Rattle.fc_backend.proofs.KnownWords.{knows_still}
use Rattle.fc_backend.proofs.laws.workers_forget_no_head_word.Goals as goal

pub returns : goal.returns
returns g c call slot before after is = knows_still slot call before after (g.B.Bench.files call before after is)
