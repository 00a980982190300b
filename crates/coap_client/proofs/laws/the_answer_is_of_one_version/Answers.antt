use Rattle.coap_client.proofs.JoinedAnswers.{one_answer}
use Rattle.coap_client.proofs.laws.the_answer_is_of_one_version.Goals as goal

pub returns : goal.returns
returns c = one_answer
