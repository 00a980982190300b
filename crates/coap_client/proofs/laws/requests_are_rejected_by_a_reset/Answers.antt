use Rattle.std.proofs.Common.{true}
use Rattle.coap_client.specs.Handled.{Tells}
use Rattle.coap_client.proofs.Scheduled.{rejected}
use Rattle.coap_client.proofs.Resets.{reset_requesting}
use Rattle.coap_client.proofs.laws.requests_are_rejected_by_a_reset.Goals as goal

pub returns-clause-reset : goal.returns-clause-reset
returns-clause-reset c = λ confirmable id earlier request calls s. reset_requesting confirmable id earlier request calls s

pub returns-clause-schedule : goal.returns-clause-schedule
returns-clause-schedule c = λ id earlier m calls coded s. rejected m coded (Tells true id earlier) calls s
