use Rattle.std.proofs.Common.{◌≡◌, ℕ, List, ap, refl, subst, sym, ◌∙◌}
use Rattle.std.specs.Prelude.{◌%◌}
use Rattle.fc_verify.specs.Accepted.{Accepts}
use Rattle.fc_verify.specs.Judged.{judged}
use Rattle.fc_registry.specs.Changes.{installed}
use Rattle.fc_ticket.specs.declared.job.InitialVars.{InitialVars}
use Rattle.fc_linear.specs.Operations.{ShardPart}
use Rattle.fc_linear.proofs.laws.filed_refusals_name_their_job.Goals as goal

pub returns-clause-rejects : goal.returns-clause-rejects
returns-clause-rejects c = λ j job content s t m. (m.0, m.2)

pub returns-clause-refused : goal.returns-clause-refused
returns-clause-refused c = λ j job s t m. (m.0, m.1)

pub returns-clause-unsaved : goal.returns-clause-unsaved
returns-clause-unsaved c = λ u job s t m. (m.0, m.2)

pub returns-clause-install : goal.returns-clause-install
returns-clause-install c = λ slot serial image vars job s t m. (m.1.0, m.1.1)

pub returns-clause-accepted : goal.returns-clause-accepted
returns-clause-accepted c = λ slot serial image vars job s t m. (
  m.1.2,
  subst (λ (bytes : List ℕ). judged bytes ≡ Accepts m.1.2) (sym m.1.1) m.1.3,
  λ zeros. m.1.4.1 ∙ ap (λ (initial : InitialVars). (installed m.1.4.0 m.1.2 initial).vars) zeros,
)

pub returns-clause-commit : goal.returns-clause-commit
returns-clause-commit c = λ slot serial vars job s t m. m.1

pub returns-clause-removal : goal.returns-clause-removal
returns-clause-removal c = λ slot serial job s t m. m.1

pub returns-clause-no_part : goal.returns-clause-no_part
returns-clause-no_part c = λ job content. (refl, refl)

pub returns-clause-shard : goal.returns-clause-shard
returns-clause-shard c = λ u is. ap (λ (n : ℕ). ShardPart (n % 8)) is

pub returns-clause-unchanged : goal.returns-clause-unchanged
returns-clause-unchanged c = λ u x y same. same

pub returns-clause-events : goal.returns-clause-events
returns-clause-events c = λ k job content. (refl, refl)

pub returns-clause-unsaved_install : goal.returns-clause-unsaved_install
returns-clause-unsaved_install c = λ k slot serial image vars. refl

pub returns-clause-unsaved_changes : goal.returns-clause-unsaved_changes
returns-clause-unsaved_changes c = λ k slot serial vars. (refl, refl)
