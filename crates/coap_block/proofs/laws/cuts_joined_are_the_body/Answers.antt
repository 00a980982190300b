use Rattle.coap_block.proofs.Joins.{cuts_joined, each_cut}
use Rattle.coap_block.proofs.laws.cuts_joined_are_the_body.Goals as goal

pub returns-clause-joined : goal.returns-clause-joined
returns-clause-joined c = cuts_joined

pub returns-clause-each : goal.returns-clause-each
returns-clause-each c = each_cut
