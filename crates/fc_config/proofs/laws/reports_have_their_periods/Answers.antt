use Rattle.std.proofs.Common.{Some, inl, inr, refl, rules}
use Rattle.fc_config.proofs.laws.reports_have_their_periods.Goals as goal

pub returns-clause-last : goal.returns-clause-last
returns-clause-last c = (
  Some 60000,
  inr (60000, search rules, refl),
  (Some 60000, inl (inr (inl refl), refl), (Some 5000, inr (5000, search rules, refl), refl)),
)
