use Rattle.fc_laws.proofs.turns.Climbing.{serials_climb}
use Rattle.fc_laws.proofs.turns.Notices.{sent_above_last}
use Rattle.fc_laws.proofs.turn_laws.serials_rise_for_observers.Goals as goal

pub returns-clause-above : goal.returns-clause-above
returns-clause-above c = sent_above_last

pub returns-clause-rise : goal.returns-clause-rise
returns-clause-rise c = λ h rs g k now random id j next other turn next_turn t u o x to token e is out own none same is_next slot out_next own_next.
    serials_climb h k now random id turn t o to token own is out rs g j next other next_turn u x e none same is_next slot out_next own_next
