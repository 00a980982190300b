use Rattle.std.proofs.Common.{ℕ, ◌∙◌, Some, ap}
use Rattle.fc_receive.specs.Rounds.{until_due}
use Rattle.fc_service.proofs.laws.first_wait_with_workers_is_100_ms.Goals as goal

pub returns-clause-pooled : goal.returns-clause-pooled
returns-clause-pooled g c = λ first left wait w. w.2 ∙ ap (λ (n : ℕ). until_due 0 n (Some 100)) w.1

pub returns-clause-pooled_reported : goal.returns-clause-pooled_reported
returns-clause-pooled_reported g c = λ first left wait w. w.2 ∙ ap (λ (n : ℕ). until_due 0 n (Some 100)) w.1
