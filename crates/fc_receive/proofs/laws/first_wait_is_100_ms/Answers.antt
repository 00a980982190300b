use Rattle.std.proofs.Common.{ℕ, ◌∙◌, Some, ap}
use Rattle.fc_receive.specs.Rounds.{until_due}
use Rattle.fc_receive.proofs.laws.first_wait_is_100_ms.Goals as goal

pub returns-clause-without : goal.returns-clause-without
returns-clause-without g c = λ left wait first w. w.2 ∙ ap (λ (n : ℕ). until_due 0 n (Some 100)) (first w.0 w.1)

pub returns-clause-timer : goal.returns-clause-timer
returns-clause-timer g c = λ left wait first w. w.2 ∙ ap (λ (n : ℕ). until_due 0 n (Some 100)) (first w.0 w.1)

pub returns-clause-later : goal.returns-clause-later
returns-clause-later g c = λ left wait first w. w.2 ∙ ap (λ (n : ℕ). until_due 0 n (Some 100)) (first w.0 w.1)

pub returns-clause-alone : goal.returns-clause-alone
returns-clause-alone g c = λ left wait w. w.2 ∙ ap (λ (n : ℕ). until_due 0 n (Some 100)) w.1

pub returns-clause-alone_reported : goal.returns-clause-alone_reported
returns-clause-alone_reported g c = λ left wait w. w.2 ∙ ap (λ (n : ℕ). until_due 0 n (Some 100)) w.1
