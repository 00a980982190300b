use Rattle.std.proofs.Common.{◌∙◌, ap, subst, sym}
use Rattle.fc_filed.specs.Parts.{FrontCalls}
use Rattle.fc_locked.specs.Fronts.{BeganAt}
use Rattle.fc_locked.proofs.Fronts.{begins_at}
use Rattle.fc_locked.proofs.begun_front.BegunFront.new.Goals as goal

pub invariant_of-result : goal.invariant_of-result
invariant_of-result g c =
    let is = ap (λ (f : FrontCalls). f.front) c.new.ensures ∙ c.requires.front in
    record { began = ∣ subst (BeganAt g.B.Books.first.front) (sym is) (begins_at g.B.Books.first.front) ∣₁ }
