use Rattle.std.proofs.Common.{ap, refl}
use Rattle.fc_front.specs.Heads.{word_at_start}
use Rattle.fc_registry.specs.Restored.{present_if}
use Rattle.fc_verify.specs.Accepted.{Judgement}
use Rattle.fc_laws.proofs.start_laws.raised_serials_keep_programs.Goals as goal

pub returns-clause-stored : goal.returns-clause-stored
returns-clause-stored c = λ s t. refl

pub returns-clause-word : goal.returns-clause-word
returns-clause-word c = λ s p is. ap (λ (j : Judgement). word_at_start 5 (present_if j s)) is
