use Rattle.fc_observe.proofs.Entering.{has_room, is_full, is_renewed}
use Rattle.fc_observe.proofs.laws.registrations_are_entered.Goals as goal

pub returns-clause-room : goal.returns-clause-room
returns-clause-room c = has_room

pub returns-clause-renewed : goal.returns-clause-renewed
returns-clause-renewed c = is_renewed

pub returns-clause-full : goal.returns-clause-full
returns-clause-full c = is_full
