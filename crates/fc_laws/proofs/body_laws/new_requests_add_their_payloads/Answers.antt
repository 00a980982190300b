use Rattle.fc_laws.proofs.front.Bodies.{others_add_nothing, requests_add}
use Rattle.fc_laws.proofs.body_laws.new_requests_add_their_payloads.Goals as goal

pub returns-clause-adds : goal.returns-clause-adds
returns-clause-adds c = requests_add

pub returns-clause-others : goal.returns-clause-others
returns-clause-others c = others_add_nothing
