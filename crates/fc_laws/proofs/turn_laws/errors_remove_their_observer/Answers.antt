use Rattle.fc_laws.proofs.turns.Erring.{observer_removed}
use Rattle.fc_laws.proofs.turn_laws.errors_remove_their_observer.Goals as goal

pub returns : goal.returns
returns c = λ s k now random id turn found x e. observer_removed s k now random id turn found e x
