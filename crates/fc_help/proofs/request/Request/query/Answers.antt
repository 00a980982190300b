use Rattle.std.proofs.Common.{◌≡◌, length, rules}
use Rattle.fc_help.proofs.Laid.{laid_size}
use Rattle.fc_help.proofs.request.Request.query.Goals as goal

pub slice_bounds-result-end : goal.slice_bounds-result-end
slice_bounds-result-end c =
    let size : length c.self.inside.region.items ≡ 1104 = laid_size c.self.invariant in
    search rules
