use Rattle.coap_block.proofs.Refusals.{out_of_place, too_large, too_many, wrong_length}
use Rattle.coap_block.proofs.laws.refusals_have_causes.Goals as goal

pub returns-clause-full : goal.returns-clause-full
returns-clause-full c = too_many

pub returns-clause-incomplete : goal.returns-clause-incomplete
returns-clause-incomplete c = out_of_place

pub returns-clause-length : goal.returns-clause-length
returns-clause-length c = wrong_length

pub returns-clause-sum : goal.returns-clause-sum
returns-clause-sum c = too_large
