use Rattle.std.proofs.Common.{refl}
use Rattle.fc_service.proofs.laws.timers_fire_in_their_rounds.Goals as goal

pub returns : goal.returns
returns c = λ r incoming. refl
