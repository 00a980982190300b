use Rattle.fc_locked.proofs.TwoLooks.{found_after, found_before, found_first, found_greatest, found_other, found_stored}
use Rattle.fc_locked.proofs.laws.a_look_finds_the_raises_before_it.Goals as goal

pub returns-clause-least : goal.returns-clause-least
returns-clause-least c = found_after

pub returns-clause-before : goal.returns-clause-before
returns-clause-before c = found_before

pub returns-clause-first : goal.returns-clause-first
returns-clause-first c = found_first

pub returns-clause-stored : goal.returns-clause-stored
returns-clause-stored c = found_stored

pub returns-clause-other : goal.returns-clause-other
returns-clause-other c = found_other

pub returns-clause-greatest : goal.returns-clause-greatest
returns-clause-greatest c = found_greatest
