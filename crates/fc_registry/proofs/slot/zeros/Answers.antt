use Rattle.std.proofs.Common.{◌≤◌, ℕ, ap, arith, replicate, ◌∙◌}
use Rattle.std.proofs.lemmas.List.{take-replicate}
use Rattle.fc_registry.proofs.slot.zeros.Goals as goal

pub returns-clause-vars : goal.returns-clause-vars
returns-clause-vars c =
    let few : c.from.result ≤ 256 = omega (arith, c.from.ensures, c.vars_size.ensures.within) in
    take-replicate c.from.result 256 0 few ∙ ap (λ (k : ℕ). replicate k 0) (c.from.ensures ∙ c.vars_size.ensures.size)
