use Rattle.std.proofs.Common.{◌≡◌, ◌++◌, ◌∷◌, ◌∙◌, [], ap, None, ℕ, Option, List, replicate, arith}
use Rattle.fc_front.proofs.Draws.{none_drawn}
use Rattle.std.proofs.lemmas.List.{replicate-append-replicate}
use Rattle.fc_front.proofs.ids.MessageIds.new.Goals as goal

pub loop-id-preserved : goal.loop-id-preserved
loop-id-preserved c = c.in_ok-push.ensures.items ∙ (ap (λ (xs : List (Option ℕ)). xs ++ (None ∷ [])) c.loop-id.invariant ∙ replicate-append-replicate c.loop-id._id 1 None)

pub returns : goal.returns
returns c =
    let all : c.loop-id._id ≡ 65536 = omega (arith, c.loop-id.auto._id-end, c.loop-id-test.false) in
    λ i. record { next = c.args.first; last = (c.loop-id.invariant ∙ (ap (λ (n : ℕ). replicate n None) all ∙ none_drawn)) i }
