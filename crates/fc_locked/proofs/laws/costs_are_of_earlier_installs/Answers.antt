use Rattle.fc_locked.proofs.CostReads.{cost_after, cost_before}
use Rattle.fc_locked.proofs.laws.costs_are_of_earlier_installs.Goals as goal

pub returns-clause-after : goal.returns-clause-after
returns-clause-after c = cost_after

pub returns-clause-before : goal.returns-clause-before
returns-clause-before c = cost_before
