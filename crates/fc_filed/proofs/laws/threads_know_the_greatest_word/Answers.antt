use Rattle.std.proofs.Common.{refl}
use Rattle.fc_filed.proofs.laws.threads_know_the_greatest_word.Goals as goal

pub returns-clause-any_track : goal.returns-clause-any_track
returns-clause-any_track c = refl

pub returns-clause-own_slot : goal.returns-clause-own_slot
returns-clause-own_slot c = refl
