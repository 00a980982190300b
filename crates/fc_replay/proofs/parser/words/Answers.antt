use Rattle.std.proofs.Common.{Ok, lit<, ◌∙◌}
use Rattle.std.proofs.lemmas.Iterator.Consumers.{map_from_collect}
use Rattle.std.proofs.lemmas.Iterator.Splits.{YieldsList-from_str_split}
use Rattle.fc_replay.proofs.parser.words.Goals as goal

pub returns-in-Ok-collect : goal.returns-in-Ok-collect
returns-in-Ok-collect c =
    map_from_collect {E = Unit {0}} (Ok c.in-Ok-collect.words) c.in-Ok-collect.ensures.ran
    (YieldsList-from_str_split 32 c.args.line.now (lit< tt) (c.split.ensures.text ∙ c.in-Ok.ensures.cases.0) c.split.ensures.has_more c.split.ensures.pattern)
