use Rattle.fc_locked.proofs.TwoLooks.{found_word}
use Rattle.fc_locked.proofs.laws.two_threads_raise_and_look.Goals as goal

pub returns : goal.returns
returns c = found_word
