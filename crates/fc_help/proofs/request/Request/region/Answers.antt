use Rattle.std.proofs.Common.{◌≡◌, length, rules}
use Rattle.fc_help.proofs.Laid.{laid_size}
use Rattle.fc_help.proofs.request.Request.region.Goals as goal

pub returns-clause-size : goal.returns-clause-size
returns-clause-size c =
    let size : length c.self.inside.region.items ≡ 1104 = laid_size c.self.invariant in
    search rules
