use Rattle.std.proofs.Common.{rules, ◌≡◌, true}
use Rattle.std.specs.Prelude.{is_some}
use Rattle.fc_service.proofs.Ended.{when_some}
use Rattle.fc_service.proofs.serve.serve.Goals as goal

pub returns-after-listening-clause-served : goal.returns-after-listening-clause-served
returns-after-listening-clause-served g c done =
    let some : is_some c.serve_at.result ≡ true = search rules in
    when_some c.serve_at.result some c.serve_at.ensures.served (λ left served. served)
