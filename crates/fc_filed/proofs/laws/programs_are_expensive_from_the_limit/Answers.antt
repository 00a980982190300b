use Rattle.std.proofs.Common.{◌≡◌, ◌≤◌, None, Some, refl, sym, ap, ◌∙◌, arith}
use Rattle.fc_calls.specs.Doings.{cost_at}
use Rattle.fc_filed.proofs.laws.programs_are_expensive_from_the_limit.Goals as goal

pub returns-clause-expensive : goal.returns-clause-expensive
returns-clause-expensive c = λ job readings shard found is. ((sym is, refl), omega arith)

pub returns-clause-cheap : goal.returns-clause-cheap
returns-clause-cheap c = λ job readings before after cost found is does. let e : Some cost ≡ Some 9999 = does.0.0 ∙ is in let same : cost ≡ 9999 = cc e in let le = does.1 in absurd (omega (arith, same, le))

pub returns-clause-empty : goal.returns-clause-empty
returns-clause-empty c = λ job readings before after cost found is does. let e : Some cost ≡ None = does.0.0 ∙ ap cost_at is in absurd (cc e)

pub returns-clause-taken : goal.returns-clause-taken
returns-clause-taken c = λ job readings before after program found does is. let lt = does.1 in absurd (omega (arith, lt, is))
