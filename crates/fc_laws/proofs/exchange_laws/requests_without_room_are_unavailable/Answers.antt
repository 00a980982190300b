use Rattle.fc_laws.proofs.front.Room.{no_room_adds, no_room_brings, no_room_emits, no_room_opens}
use Rattle.fc_laws.proofs.exchange_laws.requests_without_room_are_unavailable.Goals as goal

pub returns-clause-exchanges : goal.returns-clause-exchanges
returns-clause-exchanges c = no_room_opens

pub returns-clause-tasks : goal.returns-clause-tasks
returns-clause-tasks c = no_room_brings

pub returns-clause-additions : goal.returns-clause-additions
returns-clause-additions c = no_room_adds

pub returns-clause-emitted : goal.returns-clause-emitted
returns-clause-emitted c = no_room_emits
