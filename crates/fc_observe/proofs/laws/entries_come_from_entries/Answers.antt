use Rattle.fc_observe.proofs.Keeping.{come_from}
use Rattle.fc_observe.proofs.laws.entries_come_from_entries.Goals as goal

pub returns : goal.returns
returns c = come_from
