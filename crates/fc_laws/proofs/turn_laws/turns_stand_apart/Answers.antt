use Rattle.fc_laws.proofs.turns.Apart.{given_up_ever, lost_ever, noted_ever, request_apart, turn_apart}
use Rattle.fc_laws.proofs.turn_laws.turns_stand_apart.Goals as goal

pub returns-clause-turn : goal.returns-clause-turn
returns-clause-turn c = turn_apart

pub returns-clause-request : goal.returns-clause-request
returns-clause-request c = request_apart

pub returns-clause-noted : goal.returns-clause-noted
returns-clause-noted c = noted_ever

pub returns-clause-given_up : goal.returns-clause-given_up
returns-clause-given_up c = λ h rs k now turn needs o is. given_up_ever h rs k now turn needs o is

pub returns-clause-lost : goal.returns-clause-lost
returns-clause-lost c = lost_ever
