use Rattle.coap_msg.proofs.Whole.{written_again}
use Rattle.coap_msg.proofs.laws.written_is_read.Goals as goal

pub returns : goal.returns
returns c = written_again
