use Rattle.fc_lines.proofs.Networks.{four_texts, many_texts, one_text, three_texts, two_texts}
use Rattle.fc_lines.proofs.policy.networks.Goals as goal

pub returns-in-len1 : goal.returns-in-len1
returns-in-len1 c = one_text c.args.texts.now c.four.result c.in-len1.len_at_least c.in-len1.len_below c.four.ensures

pub returns-in-len2 : goal.returns-in-len2
returns-in-len2 c = two_texts c.args.texts.now c.four-in-len2.result c.in-len2.len_at_least c.in-len2.len_below c.four-in-len2.ensures

pub returns-in-len3 : goal.returns-in-len3
returns-in-len3 c = three_texts c.args.texts.now c.four-in-len3.result c.in-len3.len_at_least c.in-len3.len_below c.four-in-len3.ensures

pub returns-in-len4 : goal.returns-in-len4
returns-in-len4 c = four_texts c.args.texts.now c.four-in-len4.result c.in-len4.len_at_least c.in-len4.len_below c.four-in-len4.ensures

pub returns-in_default-2 : goal.returns-in_default-2
returns-in_default-2 c = many_texts c.args.texts.now c.in_default.len_at_least
