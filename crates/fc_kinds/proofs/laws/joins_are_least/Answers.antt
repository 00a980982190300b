use Rattle.fc_kinds.proofs.JoinLaws.{joined_left, joined_right, joined_least, joined_kinds}
use Rattle.fc_kinds.proofs.laws.joins_are_least.Goals as goal

pub returns-clause-left : goal.returns-clause-left
returns-clause-left c = joined_left

pub returns-clause-right : goal.returns-clause-right
returns-clause-right c = joined_right

pub returns-clause-least : goal.returns-clause-least
returns-clause-least c = joined_least

pub returns-clause-kinds : goal.returns-clause-kinds
returns-clause-kinds c = joined_kinds
