use Rattle.std.proofs.Common.{◌≡◌, ◌∙◌, Bool, true, false, not, ◌||◌, ap, refl}
use Rattle.fc_front.specs.Policies.{changes_program}
use Rattle.fc_laws.proofs.policy_laws.managers_are_wanted_for_changes_alone.Goals as goal

or_true : (b : Bool) → (b || true) ≡ true
or_true true = refl
or_true false = refl

pub returns-clause-get : goal.returns-clause-get
returns-clause-get c = λ managers to n. refl

pub returns-clause-post : goal.returns-clause-post
returns-clause-post c = λ managers to n. refl

pub returns-clause-describe : goal.returns-clause-describe
returns-clause-describe c = λ managers to n. refl

pub returns-clause-discover : goal.returns-clause-discover
returns-clause-discover c = λ managers to. refl

pub returns-clause-install : goal.returns-clause-install
returns-clause-install c = λ managers to n. refl

pub returns-clause-remove : goal.returns-clause-remove
returns-clause-remove c = λ managers to n. refl

pub returns-clause-managers : goal.returns-clause-managers
returns-clause-managers c = λ managers to action is. ap (λ (b : Bool). not (changes_program action) || b) is ∙ or_true (not (changes_program action))
