use Rattle.std.proofs.Common.{inl, refl}
use Rattle.fc_service.proofs.NextStarts.{begins_as_served}
use Rattle.fc_service.proofs.laws.next_starts_begin_as_served.Goals as goal

pub returns-clause-begins : goal.returns-clause-begins
returns-clause-begins g c = λ first next stored found opened closed calls later h finds begun clean may restored n low.
    begins_as_served g.P.Store first next stored found opened closed calls later h finds begun clean may restored n low

pub returns-clause-refused : goal.returns-clause-refused
returns-clause-refused g c = λ a b. inl (refl, refl)
