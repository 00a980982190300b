use Rattle.std.proofs.Common.{true, false}
use Rattle.coap_client.specs.Handled.{Tells}
use Rattle.coap_client.proofs.Scheduled.{answered, sent_once, unanswered}
use Rattle.coap_client.proofs.laws.requests_are_sent_by_the_schedule.Goals as goal

pub returns-clause-unanswered : goal.returns-clause-unanswered
returns-clause-unanswered c = λ id earlier m calls coded t. unanswered m coded (Tells true id earlier) calls t

pub returns-clause-answered : goal.returns-clause-answered
returns-clause-answered c = λ id earlier m answer calls coded t. answered m coded (Tells true id earlier) answer calls t

pub returns-clause-non_confirmable : goal.returns-clause-non_confirmable
returns-clause-non_confirmable c = λ id earlier m answer calls coded t. sent_once m coded (Tells false id earlier) answer calls t
