use Rattle.fc_laws.proofs.turns.Clocks.{follows_shard}
use Rattle.fc_laws.proofs.turn_laws.observers_follow_their_shard.Goals as goal

pub returns : goal.returns
returns c = follows_shard
