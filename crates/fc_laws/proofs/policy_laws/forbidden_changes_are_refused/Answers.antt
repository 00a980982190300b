use Rattle.std.proofs.Common.{refl, inr, not, ◌||◌}
use Rattle.fc_laws.proofs.policy_laws.forbidden_changes_are_refused.Goals as goal

pub returns : goal.returns
returns c = λ s now to bytes m r opens read asks changes not_one. record {
  opens = opens;
  read = read;
  refuses = inr (record { asked = r; asks = asks; allowed = (λ i. not (changes i) || not_one i); answer_is = refl });
}
