use Rattle.std.proofs.Common.{List, Option, Some, None}
use Rattle.fc_kinds.specs.declared.kind.Kind.{Kind}
use Rattle.fc_kinds.specs.Laws.{IsNarrowerWay}
use Rattle.fc_kinds.proofs.RefinementLaws.{WayFollows, when_follows}
use Rattle.fc_kinds.proofs.laws.refinement_is_monotone.Goals as goal

narrower : (o o' : Option (List Kind)) → WayFollows o o' → IsNarrowerWay o o'
narrower None o' f = tt
narrower (Some ks) None f = f
narrower (Some ks) (Some ks') f = f

pub returns : goal.returns
returns c = λ jump taken ks wider i a w n. narrower _ _ (when_follows jump taken ks wider i.0 i.1 a w n.0 n.1)
