use Rattle.std.proofs.Common.{List, ◌∙◌, ap, subst, sym}
use Rattle.fc_isa.specs.declared.insn.Insn.{Insn}
use Rattle.fc_verify.specs.Accepted.{Accepts}
use Rattle.fc_verify.specs.Refusals.{IsRefusal}
use Rattle.fc_verify.specs.declared.refusal.Refusal.TheVariants.{Broken}
use Rattle.fc_verify.specs.Pairs.{HasPairs}
use Rattle.fc_verify.proofs.Judging.{err_is, refused_shape, refused_typing, accepts_is, untyped_of}
use Rattle.fc_verify.proofs.verifier.verify.Goals as goal

pub returns-in_err-cost-clause-refused : goal.returns-in_err-cost-clause-refused
returns-in_err-cost-clause-refused c =
    let f = c.in_err-cost.field-0.0 in
    let broken = rw c.deref.ensures.value at c.in_err-cost.ensures.fault in
    err_is c.from_residual-in_err-cost.result (Broken f) (IsRefusal c.args.image.now) c.from_residual-in_err-cost.ensures.1
    (refused_shape c.args.image.now c.in_ok-head.head c.in_ok-code.code.items f c.in_ok-head.ensures.head c.in_ok-code.ensures.code broken
    (c.shape_fault_is_first.ensures.low c.in_ok-head.head c.in_ok-code.code.items f.slot f.rule broken))

pub typed-requires-clause-program : goal.typed-requires-clause-program
typed-requires-clause-program c =
    let s = rw c.deref.ensures.value at c.in_ok-cost.ensures.shape in
    rw (c.deref-2.ensures.value, c.version.ensures) (untyped_of c.args.image.now c.in_ok-head.head c.in_ok-code.code.items c.in_ok-head.ensures.head c.in_ok-code.ensures.code s.0 s.1)

pub returns-in_err-states-clause-refused : goal.returns-in_err-states-clause-refused
returns-in_err-states-clause-refused c =
    let f = c.in_err-states.field-0.0.fault in
    let e = c.in_err-states.ensures in
    err_is c.from_residual-in_err-states.result (Broken f) (IsRefusal c.args.image.now) c.from_residual-in_err-states.ensures.1
    (refused_typing c.args.image.now c.in_ok-head.head c.in_ok-code.code.items f c.in_ok-head.ensures.head c.in_ok-code.ensures.code
    (rw c.deref.ensures.value at c.in_ok-cost.ensures.cost.0) (rw (c.deref-2.ensures.value, c.vars_size.ensures.value, c.version.ensures) at e.untypable) (rw c.deref-2.ensures.value at e.fault))

pub returns-clause-judged : goal.returns-clause-judged
returns-clause-judged c =
    let s = c.in_ok-cost.ensures.cost in
    accepts_is c.args.image.now c.in_ok-head.head c.in_ok-code.code.items c.in_ok-cost.cost c.in_ok-head.ensures.head c.in_ok-code.ensures.code
    (rw c.deref.ensures.value at s.0) (rw c.deref.ensures.value at s.1) (rw (c.deref-2.ensures.value, c.vars_size.ensures.value, c.version.ensures) at c.in_ok-states.ensures.typable)
    ∙ ap Accepts (sym c.new.ensures.program)

pub new-requires-clause-pairs : goal.new-requires-clause-pairs
new-requires-clause-pairs c = subst (λ (code : List Insn). HasPairs code c.lower-ops.result.items) c.deref-3.ensures.value c.lower-ops.ensures.pairs
