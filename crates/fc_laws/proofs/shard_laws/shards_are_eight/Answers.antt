use Rattle.fc_laws.proofs.turns.EightShards.{as_before, is_silent}
use Rattle.fc_laws.proofs.shard_laws.shards_are_eight.Goals as goal

pub returns-clause-same : goal.returns-clause-same
returns-clause-same c = as_before

pub returns-clause-emitted : goal.returns-clause-emitted
returns-clause-emitted c = is_silent
