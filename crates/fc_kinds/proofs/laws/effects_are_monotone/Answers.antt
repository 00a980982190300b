use Rattle.std.proofs.Common.{sym, subst}
use Rattle.fc_kinds.specs.Laws.{IsNarrowerState}
use Rattle.fc_kinds.proofs.TransferLaws.{transfer_meets}
use Rattle.fc_kinds.proofs.laws.effects_are_monotone.Goals as goal

pub returns : goal.returns
returns c = λ vars insn ks wider after i a w e.
    let m = transfer_meets vars insn ks wider after i a w e in
    subst (λ o. IsNarrowerState o after) (sym m.is) (m.within, m.kinds)
