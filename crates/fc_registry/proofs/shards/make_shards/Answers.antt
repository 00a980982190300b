use Rattle.std.proofs.Common.{◌≡◌, suc, ◌+◌, ◌++◌, ◌∷◌, [], ap, ◌∙◌, arith}
use Rattle.fc_registry.specs.Shards.{empty_shards}
use Rattle.fc_registry.proofs.shards.make_shards.Goals as goal

pub loop-index-preserved : goal.loop-index-preserved
loop-index-preserved c =
    let next : suc c.loop-index.index ≡ c.loop-index.index + 1 = omega arith in
    c.in_ok-push.ensures.items ∙ ((λ i. c.loop-index.invariant i ++ (c.in_ok-new.ensures i ∷ [])) ∙ ap (empty_shards c.args.first_serial c.args.confirm_after) next)
