use Rattle.std.proofs.Common.{◌+◌, ◌-◌, ◌∙◌, List, true, length, replicate, set, ap, arith, length-append}
use Rattle.std.proofs.lemmas.List.{length-replicate}
use Rattle.coap_dedup.specs.declared.exchange.StoredResponse.{StoredResponse}
use Rattle.coap_dedup.specs.Views.{answered_at, no_answer, padded}
use Rattle.coap_dedup.proofs.Padding.{keeps}
use Rattle.coap_dedup.proofs.answers.Answers.keep.Goals as goal

pub returns : goal.returns
returns c =
    let kept = c.self.inside.kept.items in
    let places = c.self.inside.places in
    let is = c.place-place.ensures.place in
    let below = c.place-place.ensures.below in
    let n = c.place-place.result + 1 - length kept in
    let long = length-append kept (replicate n no_answer) in
    let rest = length-replicate n no_answer in
    let few = c.self.invariant.1 in
    (λ i. padded places (set (c.touch.ensures.items i) (is i) (record { answered = true; bytes = c.write_over.ensures i })))
    ∙ (keeps places c.args.number n kept c.args.bytes.now (omega (arith, few, below)) (omega (arith, few, below, long, rest, is))
    ∙ ap (λ (l : List StoredResponse). answered_at l c.args.number c.args.bytes.now) c.self.view_is)
