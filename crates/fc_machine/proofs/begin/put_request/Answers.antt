use Rattle.std.proofs.Common.{◌≡◌, ◌+◌, ◌-◌, ◌<◌, ℕ, length, take, refl, sym, ap, ◌∙◌, rules, arith}
use Rattle.std.specs.Prelude.{replicate}
use Rattle.std.proofs.lemmas.List.{length-take-le}
use Rattle.fc_machine.specs.Steps.{spliced}
use Rattle.fc_machine.proofs.Rewritten.{begun, over_longer, over_shorter}
use Rattle.fc_machine.proofs.begin.put_request.Goals as goal

pub slice_bounds-put-length : goal.slice_bounds-put-length
slice_bounds-put-length c =
    let size = c.region.ensures.size in
    sym (length-take-le 80 c.region.result.now (omega (arith, size)))

pub put-requires : goal.put-requires
put-requires c =
    let size = c.region.ensures.size in
    let count = length-take-le 80 c.region.result.now (omega (arith, size)) in
    omega (arith, count)

pub returns-then-size-before-clause-region : goal.returns-then-size-before-clause-region
returns-then-size-before-clause-region c =
    let q = c.args.request.now in
    let m = c.args.memory.now in
    let len : length m ≡ 3472 = search rules in
    let same : length c.payload-payload.result.now ≡ length q.payload = ap length c.payload-payload.ensures.payload in
    let head = c.put.ensures ∙ ap (λ x. spliced m 2048 (take 80 x)) c.region.ensures.region in
    let written = c.put-2.ensures ∙ ap (spliced c.put.new.memory 2128) c.payload-payload.ensures.payload in
    let gt : length q.payload < c.args.before = omega (arith, same, c.if-size-before.true) in
    let cleared = c.clear.ensures ∙ ap (λ (n : ℕ). spliced c.put-2.new.memory (2128 + n) (replicate (c.args.before - n) 0)) same in
    over_longer q m c.put-2.new.memory c.clear.new.memory c.args.before _ (begun q m c.put.new.memory c.put-2.new.memory c.region.ensures.fits len head written)
    c.requires.before c.requires.zeros gt refl cleared

pub returns-else-size-before-clause-region : goal.returns-else-size-before-clause-region
returns-else-size-before-clause-region c =
    let q = c.args.request.now in
    let m = c.args.memory.now in
    let len : length m ≡ 3472 = search rules in
    let same : length c.payload-payload.result.now ≡ length q.payload = ap length c.payload-payload.ensures.payload in
    let head = c.put.ensures ∙ ap (λ x. spliced m 2048 (take 80 x)) c.region.ensures.region in
    let written = c.put-2.ensures ∙ ap (spliced c.put.new.memory 2128) c.payload-payload.ensures.payload in
    over_shorter q m c.put-2.new.memory c.args.before (begun q m c.put.new.memory c.put-2.new.memory c.region.ensures.fits len head written) c.requires.zeros
    (omega (arith, same, c.if-size-before.false))
