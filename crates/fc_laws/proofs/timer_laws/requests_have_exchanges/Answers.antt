use Rattle.fc_laws.proofs.front.Placed.{in_place}
use Rattle.fc_laws.proofs.front.Timers.{exchange_number, has_opened, opens_exchange}
use Rattle.fc_laws.proofs.timer_laws.requests_have_exchanges.Goals as goal

pub returns-clause-opened : goal.returns-clause-opened
returns-clause-opened c = opens_exchange

pub returns-clause-number : goal.returns-clause-number
returns-clause-number c = exchange_number

pub returns-clause-few : goal.returns-clause-few
returns-clause-few c = has_opened

pub returns-clause-stays : goal.returns-clause-stays
returns-clause-stays c = in_place
