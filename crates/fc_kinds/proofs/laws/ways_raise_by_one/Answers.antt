use Rattle.fc_kinds.proofs.Levels.{ways_shallow, joined_shallow}
use Rattle.fc_kinds.proofs.laws.ways_raise_by_one.Goals as goal

pub returns-clause-ways : goal.returns-clause-ways
returns-clause-ways c = ways_shallow

pub returns-clause-join : goal.returns-clause-join
returns-clause-join c = joined_shallow
