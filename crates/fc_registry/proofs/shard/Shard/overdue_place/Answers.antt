use Rattle.std.proofs.Common.{refl, sym, ◌∙◌, rules, tests}
use Rattle.std.proofs.lemmas.Iterator.{YieldsList-from_range}
use Rattle.std.proofs.lemmas.Iterator.Adapters.{option_map_id}
use Rattle.std.proofs.lemmas.Iterator.Search.{find_from_yields_List}
use Rattle.fc_registry.specs.Watches.{has_overdue}
use Rattle.fc_registry.proofs.shard.Shard.overdue_place.Goals as goal

pub returns-clause-place : goal.returns-clause-place
returns-clause-place c =
    sym (option_map_id c.find.result)
    ∙ find_from_yields_List (has_overdue (record c.args.self.now { now = c.args.now })) _ _ _ c.find.ensures.ran (YieldsList-from_range 0 8 8 refl refl) (λ x b q k. search (rules, tests))
