use Rattle.fc_laws.proofs.words.Words.{word_is_greatest, words_rise}
use Rattle.fc_laws.proofs.slot_laws.head_words_are_the_greatest_raised.Goals as goal

pub returns-clause-greatest : goal.returns-clause-greatest
returns-clause-greatest c = word_is_greatest

pub returns-clause-rises : goal.returns-clause-rises
returns-clause-rises c = words_rise
