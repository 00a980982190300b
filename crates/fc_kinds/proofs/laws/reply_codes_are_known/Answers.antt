use Rattle.fc_kinds.proofs.ReplyCodes.{all_known}
use Rattle.fc_kinds.proofs.laws.reply_codes_are_known.Goals as goal

pub returns : goal.returns
returns c = all_known
