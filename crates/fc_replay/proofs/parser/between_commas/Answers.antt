use Rattle.std.proofs.Common.{Ok, lit<}
use Rattle.std.proofs.lemmas.Iterator.Consumers.{map_from_collect}
use Rattle.std.proofs.lemmas.Iterator.Splits.{YieldsList-from_str_split}
use Rattle.fc_replay.proofs.parser.between_commas.Goals as goal

pub returns-in-Ok : goal.returns-in-Ok
returns-in-Ok c =
    map_from_collect {E = Unit {0}} (Ok c.in-Ok.parts) c.in-Ok.ensures.ran
    (YieldsList-from_str_split 44 c.args.list.now (lit< tt) c.split.ensures.text c.split.ensures.has_more c.split.ensures.pattern)
