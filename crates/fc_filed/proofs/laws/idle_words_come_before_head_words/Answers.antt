use Rattle.std.proofs.Common.{refl, sym}
use Rattle.std.proofs.lemmas.List.{get_or-drop}
use Rattle.fc_filed.proofs.laws.idle_words_come_before_head_words.Goals as goal

pub returns-clause-heads : goal.returns-clause-heads
returns-clause-heads c = λ words. (get_or-drop 16 words 0 0, get_or-drop 16 words 63 0)
