use Rattle.fc_observe.proofs.Counting.{at_most_32, one_of_key}
use Rattle.fc_observe.proofs.laws.entries_are_few.Goals as goal

pub returns-clause-most : goal.returns-clause-most
returns-clause-most c = at_most_32

pub returns-clause-key : goal.returns-clause-key
returns-clause-key c = one_of_key
