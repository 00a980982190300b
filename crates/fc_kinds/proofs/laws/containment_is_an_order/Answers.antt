use Rattle.fc_kinds.proofs.KindLaws.{within_same, within_then, holds_within}
use Rattle.fc_kinds.proofs.laws.containment_is_an_order.Goals as goal

pub returns-clause-same : goal.returns-clause-same
returns-clause-same c = within_same

pub returns-clause-then : goal.returns-clause-then
returns-clause-then c = within_then

pub returns-clause-values : goal.returns-clause-values
returns-clause-values c = holds_within
