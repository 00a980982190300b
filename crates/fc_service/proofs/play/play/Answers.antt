use Rattle.std.proofs.Common.{Err, ap}
use Rattle.fc_service.proofs.Played.{bad_line}
use Rattle.fc_service.proofs.play.play.Goals as goal

pub returns-in-Err-clause-bad : goal.returns-in-Err-clause-bad
returns-in-Err-clause-bad g c = λ bad.
    let line = bad_line c.in-Err.stop c.status.result c.tell.result c.status.ensures c.tell.ensures bad in
    (line.0, c.in-Err.ensures.bad line.0 (ap (λ (s : _). Err s) line.1))
