use Rattle.coap_block.proofs.Single.{one_held}
use Rattle.coap_block.proofs.laws.transfers_have_one_key.Goals as goal

pub returns : goal.returns
returns c = one_held
