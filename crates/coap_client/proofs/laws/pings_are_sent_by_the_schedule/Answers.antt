use Rattle.std.proofs.Common.{arith}
use Rattle.coap_client.proofs.Pinging.{all_in_vain, answered}
use Rattle.coap_client.proofs.Resets.{reset_ponging}
use Rattle.coap_client.proofs.laws.pings_are_sent_by_the_schedule.Goals as goal

pub returns-clause-unanswered : goal.returns-clause-unanswered
returns-clause-unanswered c = λ id calls all. all_in_vain id 5 calls (omega arith) all

pub returns-clause-answered : goal.returns-clause-answered
returns-clause-answered c = λ id calls s. answered id calls s

pub returns-clause-pong : goal.returns-clause-pong
returns-clause-pong c = λ id calls s. reset_ponging id calls s
