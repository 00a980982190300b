use Rattle.fc_verify.specs.Verified.{program_of}
use Rattle.fc_verify.proofs.Judging.{accepts_is, untyped_of}
use Rattle.fc_tools.specs.Diagnosed.{IsRejection}
use Rattle.fc_tools.specs.declared.diagnosis.Rejection.TheVariants.{Broken}
use Rattle.fc_tools.proofs.Diagnosing.{err_of, shape_diagnosis, typing_diagnosis}
use Rattle.fc_tools.proofs.diagnosis.diagnose.Goals as goal

pub returns-in_err-_cost-clause-rejected : goal.returns-in_err-_cost-clause-rejected
returns-in_err-_cost-clause-rejected c =
    let d = c.in_err-_cost.field-0.0 in
    let e = c.in_err-_cost.ensures in
    let broken = rw c.deref.ensures.value at e.fault in
    err_of c.from_residual-in_err-_cost.result (Broken d) (IsRejection c.args.image.now) c.from_residual-in_err-_cost.ensures.1
    (shape_diagnosis c.args.image.now c.in_ok-head.head c.in_ok-code.code.items d c.in_ok-head.ensures.head c.in_ok-code.ensures.code broken
    (c.shape_fault_is_first.ensures.low c.in_ok-head.head c.in_ok-code.code.items d.fault.slot d.fault.rule broken) (rw c.deref.ensures.value at e.cause))

pub typed-requires-clause-program : goal.typed-requires-clause-program
typed-requires-clause-program c =
    let s = rw c.deref.ensures.value at c.in_ok-_cost.ensures.shape in
    rw (c.deref-2.ensures.value, c.version.ensures) (untyped_of c.args.image.now c.in_ok-head.head c.in_ok-code.code.items c.in_ok-head.ensures.head c.in_ok-code.ensures.code s.0 s.1)

pub returns-in-Ok-clause-accepted : goal.returns-in-Ok-clause-accepted
returns-in-Ok-clause-accepted c =
    let s = c.in_ok-_cost.ensures.cost in (
      program_of c.in_ok-head.head.version c.in_ok-code.code.items c.in_ok-head.head.vars_size c.in_ok-head.head.budget c.in_ok-_cost._cost,
      accepts_is c.args.image.now c.in_ok-head.head c.in_ok-code.code.items c.in_ok-_cost._cost c.in_ok-head.ensures.head c.in_ok-code.ensures.code
          (rw c.deref.ensures.value at s.0) (rw c.deref.ensures.value at s.1) (rw (c.deref-2.ensures.value, c.vars_size.ensures.value, c.version.ensures) at c.in-Ok.ensures.typable),
    )

pub returns-clause-rejected : goal.returns-clause-rejected
returns-clause-rejected c =
    let e = c.in-Err.ensures in
    let code = c.in_ok-code.code.items in
    typing_diagnosis c.args.image.now c.in_ok-head.head code c.in-Err.untyped c.typing.result c.in_ok-head.ensures.head c.in_ok-code.ensures.code
    (rw c.deref.ensures.value at c.in_ok-_cost.ensures.cost.0) (rw (c.deref-2.ensures.value, c.vars_size.ensures.value, c.version.ensures) at e.untypable) (rw c.deref-2.ensures.value at e.fault)
    (rw (c.deref-2.ensures.value, c.vars_size.ensures.value, c.version.ensures) at e.known) c.typing.ensures.fault (rw c.deref-in-Err.ensures.value at c.typing.ensures.cause)
