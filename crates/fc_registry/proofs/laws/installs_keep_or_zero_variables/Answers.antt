use Rattle.fc_registry.specs.Slots.{vars_in}
use Rattle.fc_registry.proofs.Installs.{empty_vars, installed_size, kept_answer, kept_present, other_vars}
use Rattle.fc_registry.proofs.laws.installs_keep_or_zero_variables.Goals as goal

pub returns-clause-kept : goal.returns-clause-kept
returns-clause-kept c slot found p is same = kept_present slot found p is same

pub returns-clause-other : goal.returns-clause-other
returns-clause-other c slot p differ = other_vars p (vars_in slot.present) differ

pub returns-clause-empty : goal.returns-clause-empty
returns-clause-empty c slot p v none = empty_vars p v slot none

pub returns-clause-size : goal.returns-clause-size
returns-clause-size c slot p v = installed_size v p (vars_in slot.present)

pub returns-clause-answer : goal.returns-clause-answer
returns-clause-answer c slot p = kept_answer slot p
