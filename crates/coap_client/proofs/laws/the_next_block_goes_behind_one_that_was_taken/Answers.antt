use Rattle.coap_client.proofs.TakenBlocks.{goes_behind}
use Rattle.coap_client.proofs.laws.the_next_block_goes_behind_one_that_was_taken.Goals as goal

pub returns : goal.returns
returns c = goes_behind
