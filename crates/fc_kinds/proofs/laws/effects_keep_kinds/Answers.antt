use Rattle.std.proofs.Common.{◌≡◌, subst}
use Rattle.fc_kinds.specs.Containing.{AreKinds}
use Rattle.fc_kinds.proofs.KindLaws.{within_same}
use Rattle.fc_kinds.proofs.TransferLaws.{transfer_meets}
use Rattle.fc_kinds.proofs.laws.effects_keep_kinds.Goals as goal

pub returns : goal.returns
returns c = λ vars insn ks after i a e.
    let m = transfer_meets vars insn ks ks after i a (within_same ks) e in
    let same : m.after ≡ after = cc (m.is, e) in
    subst AreKinds same m.kinds
