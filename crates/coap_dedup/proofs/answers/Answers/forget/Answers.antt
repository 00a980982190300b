use Rattle.std.proofs.Common.{◌≡◌, ◌∙◌, ℕ, false, List, set, sym, ap, subst, arith, slice_index_or}
use Rattle.coap_dedup.specs.declared.exchange.StoredResponse.{StoredResponse}
use Rattle.coap_dedup.specs.Views.{forgotten, padded}
use Rattle.coap_dedup.proofs.Padding.{forgets, forgets_none}
use Rattle.coap_dedup.proofs.answers.Answers.forget.Goals as goal

pub returns-then-place-len : goal.returns-then-place-len
returns-then-place-len c =
    let kept = c.self.inside.kept.items in
    let places = c.self.inside.places in
    let was = c.index_mut.result.now in
    let is = c.place-place.ensures.place in
    let len = c.len.ensures in
    let lt = c.if-place-len.true in
    ap (λ (n : ℕ). padded places (set kept n (record { answered = false; bytes = was.bytes }))) is
    ∙ (forgets places c.args.number kept was c.self.invariant.1 (omega (arith, is, len, lt)) (subst (λ (n : ℕ). was ≡ slice_index_or kept n was) is c.index_mut.ensures.value)
    ∙ ap (λ (l : List StoredResponse). forgotten l c.args.number) c.self.view_is)

pub returns-else-place-len : goal.returns-else-place-len
returns-else-place-len c =
    let kept = c.self.inside.kept.items in
    let places = c.self.inside.places in
    let is = c.place-place.ensures.place in
    let below = c.place-place.ensures.below in
    let len = c.len.ensures in
    let over = c.if-place-len.false in
    sym c.self.view_is ∙ (forgets_none places c.args.number kept c.self.invariant.1 (omega (arith, is, len, over)) (omega (arith, is, below))
    ∙ ap (λ (l : List StoredResponse). forgotten l c.args.number) c.self.view_is)
