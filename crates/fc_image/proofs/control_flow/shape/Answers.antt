use Rattle.std.proofs.Common.{◌≡◌, ◌<◌, length, min, None, sym, ap, ◌∙◌, subst, arith}
use Rattle.fc_image.specs.Paths.{IsLongest, longest}
use Rattle.fc_image.specs.ShapeRules.{shape_fault}
use Rattle.fc_image.specs.Laws.{KeepsLimits}
use Rattle.fc_image.proofs.LoopLaws.{longest_is}
use Rattle.fc_image.proofs.ShapeLaws.{faultless}
use Rattle.fc_image.proofs.control_flow.shape.Goals as goal

none_found : (c : goal.In-None) → shape_fault c.args.head.now c.args.code.now ≡ None
unfolding shape_fault
none_found c = c.in-None.ensures

kept : (c : goal.In-None) → KeepsLimits c.args.head.now c.args.code.now
kept c = faultless c.args.head.now c.args.code.now (none_found c) (omega (arith, c.requires.count, c.count-slots.ensures.value, c.count-slots.ensures.some))

-- within the budget the cost isn't capped
cost_is : (c : goal.In-None) → c.of-tables.result.cost ≡ longest c.args.head.now.version c.args.code.now
cost_is c =
    let k = kept c in
    let cost = c.of-tables.ensures.cost ∙ ap (λ v. min 65537 (longest v c.args.code.now)) c.version.ensures in
    omega (arith, cost, k.within, c.budget-steps.ensures.value, c.budget-steps.ensures.limit)

pub returns-in-None-clause-shape : goal.returns-in-None-clause-shape
returns-in-None-clause-shape c =
    let k = kept c in
    let some : 0 < length c.args.code.now = omega (arith, c.requires.count, c.count-slots.ensures.value, c.count-slots.ensures.some) in
    let longest = longest_is c.args.head.now.version c.args.code.now some c.requires.whole k.shaped in
    (k.shaped, k.frames, subst (IsLongest c.args.head.now.version c.args.code.now) (sym (cost_is c)) longest, omega (arith, cost_is c, k.within))

pub returns-in-None-clause-cost : goal.returns-in-None-clause-cost
returns-in-None-clause-cost c = (none_found c, cost_is c)
