use Rattle.fc_laws.proofs.front.Repeats.{others_open_nothing, requests_open}
use Rattle.fc_laws.proofs.exchange_laws.new_requests_open_exchanges.Goals as goal

pub returns-clause-opens : goal.returns-clause-opens
returns-clause-opens c = requests_open

pub returns-clause-others : goal.returns-clause-others
returns-clause-others c = others_open_nothing
