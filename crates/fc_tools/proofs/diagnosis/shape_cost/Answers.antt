use Rattle.std.proofs.Common.{◌≡◌, true, sym, ap, ◌∙◌, subst}
use Rattle.std.specs.Option.{unwrap_or}
use Rattle.fc_image.specs.ShapeRules.{breaks_shape}
use Rattle.fc_tools.proofs.Diagnosing.{fault_within, flow_rule}
use Rattle.fc_tools.proofs.diagnosis.shape_cost.Goals as goal

pub shape_cause-requires-clause-slot : goal.shape_cause-requires-clause-slot
shape_cause-requires-clause-slot c =
    let f = c.in-Err.fault in
    fault_within c.args.head.now c.args.code.now f.slot f.rule (c.shape_fault_is_first.ensures.is_first c.args.head.now c.args.code.now f.slot f.rule c.in-Err.ensures.fault)

pub shape_cause-requires-clause-rule : goal.shape_cause-requires-clause-rule
shape_cause-requires-clause-rule c =
    let f = c.in-Err.fault in
    let fault = c.shape_fault_is_first.ensures.is_first c.args.head.now c.args.code.now f.slot f.rule c.in-Err.ensures.fault in
    flow_rule c.args.head.now c.args.code.now f.slot fault.insn f.rule fault.broken

pub shape_cause-requires-clause-broken : goal.shape_cause-requires-clause-broken
shape_cause-requires-clause-broken c = λ insn stands.
    let f = c.in-Err.fault in
    let fault = c.shape_fault_is_first.ensures.is_first c.args.head.now c.args.code.now f.slot f.rule c.in-Err.ensures.fault in
    subst (λ i. breaks_shape c.args.head.now c.args.code.now f.slot i f.rule ≡ true) (ap (λ o. unwrap_or o insn) (sym fault.stands ∙ stands)) fault.broken
