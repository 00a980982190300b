use Rattle.coap_block.proofs.Causes.{full_by, incomplete_by, length_by, sum_by}
use Rattle.coap_block.proofs.laws.refusals_have_only_their_causes.Goals as goal

pub returns : goal.returns
returns c = record { full = full_by; incomplete = incomplete_by; length = length_by; sum = sum_by }
