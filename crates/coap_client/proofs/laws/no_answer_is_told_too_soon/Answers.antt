use Rattle.std.proofs.Common.{true, false, None, ap}
use Rattle.std.specs.Prelude.{sum_by}
use Rattle.coap_client.specs.Handled.{Tells}
use Rattle.coap_client.specs.Schedules.{seconds_of}
use Rattle.coap_client.proofs.Scheduled.{sent_once, unanswered, waited_for}
use Rattle.coap_client.proofs.laws.no_answer_is_told_too_soon.Goals as goal

pub returns-clause-confirmable : goal.returns-clause-confirmable
returns-clause-confirmable c = λ id earlier m calls coded t. waited_for m coded calls (unanswered m coded (Tells true id earlier) calls t)

pub returns-clause-non_confirmable : goal.returns-clause-non_confirmable
returns-clause-non_confirmable c = λ id earlier m calls coded t. ap (sum_by seconds_of) (sent_once m coded (Tells false id earlier) None calls t)
