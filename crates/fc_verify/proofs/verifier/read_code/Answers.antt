use Rattle.fc_verify.specs.Refusals.{IsRefusal, refusal_of}
use Rattle.fc_verify.proofs.Judging.{err_is, refused_decode, code_found}
use Rattle.fc_verify.proofs.verifier.read_code.Goals as goal

pub returns-in_err-decode-clause-refused : goal.returns-in_err-decode-clause-refused
returns-in_err-decode-clause-refused c =
    let e = c.in_err-decode.field-0.0 in
    let at = c.slots-slots.ensures in
    err_is c.from_residual.result (refusal_of e) (IsRefusal c.args.image.now) c.from_residual.ensures.1
    (refused_decode c.args.image.now c.args.head.now e c.requires (rw at at c.in_err-decode.ensures.fault))

pub returns-clause-code : goal.returns-clause-code
returns-clause-code c =
    let at = c.slots-slots.ensures in
    let f = c.in_ok-decode.ensures.function in
    code_found c.args.image.now c.args.head.now c.in_ok-decode.field-0.items c.requires (rw at at f.0) (rw at at f.1) (rw at at c.in_ok-decode.ensures.program)
