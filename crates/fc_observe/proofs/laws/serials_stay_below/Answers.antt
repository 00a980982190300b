use Rattle.fc_observe.proofs.Serials.{serials_below}
use Rattle.fc_observe.proofs.laws.serials_stay_below.Goals as goal

pub returns : goal.returns
returns c = serials_below
