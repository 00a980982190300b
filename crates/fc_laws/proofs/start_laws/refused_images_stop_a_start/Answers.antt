use Rattle.fc_laws.proofs.starts.Refused.{names_it, names_rule, names_typing}
use Rattle.fc_laws.proofs.start_laws.refused_images_stop_a_start.Goals as goal

pub returns-clause-can : goal.returns-clause-can
returns-clause-can c = λ s refused can. refused can.program.program can.program.judged_as

pub returns-clause-slot : goal.returns-clause-slot
returns-clause-slot c = names_it

pub returns-clause-rule : goal.returns-clause-rule
returns-clause-rule c = names_rule

pub returns-clause-typing : goal.returns-clause-typing
returns-clause-typing c = names_typing
