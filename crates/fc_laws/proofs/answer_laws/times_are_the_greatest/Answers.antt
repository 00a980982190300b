use Rattle.fc_laws.proofs.front.Times.{time_is_greatest, shard_time_is_greatest}
use Rattle.fc_laws.proofs.answer_laws.times_are_the_greatest.Goals as goal

pub returns-clause-front : goal.returns-clause-front
returns-clause-front c = time_is_greatest

pub returns-clause-shard : goal.returns-clause-shard
returns-clause-shard c = shard_time_is_greatest
