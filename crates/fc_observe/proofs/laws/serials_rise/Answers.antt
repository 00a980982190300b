use Rattle.fc_observe.proofs.Serials.{sent_above, serials_kept}
use Rattle.fc_observe.proofs.laws.serials_rise.Goals as goal

pub returns-clause-kept : goal.returns-clause-kept
returns-clause-kept c = serials_kept

pub returns-clause-above : goal.returns-clause-above
returns-clause-above c = sent_above
