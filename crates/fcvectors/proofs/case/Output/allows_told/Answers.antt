use Rattle.std.proofs.Common.{inr, sym, ◌∙◌, subst}
use Rattle.std.specs.Prelude.{IsTrue}
use Rattle.fcvectors.proofs.case.Output.allows_told.Goals as goal

pub returns-in-Some : goal.returns-in-Some
returns-in-Some c = λ is. inr (inr (c.in-Some.start.now, sym c.deref.ensures.value ∙ c.in-Some.ensures, subst (λ b. IsTrue b) c.starts_with.ensures.value is))
