use Rattle.std.proofs.Common.{◌+◌, ◌*◌, ap, ◌∙◌, subst, sym}
use Rattle.fc_image.specs.Written.{IsHead}
use Rattle.fc_verify.proofs.Judging.{refused_head}
use Rattle.fc_verify.proofs.verifier.read_head.Goals as goal

pub returns-in-Ok-clause-head : goal.returns-in-Ok-clause-head
returns-in-Ok-clause-head c =
    let h = c.in-Ok.ensures.head in
    let k = c.in-Ok.ensures.kept in
    record { fault = h.1; stated_is = h.0; size = k.size ∙ ap (λ x. 16 + 8 * x.count) (sym h.0); limits = subst IsHead (sym h.0) k.head }

pub returns-in-Err-clause-refused : goal.returns-in-Err-clause-refused
returns-in-Err-clause-refused c = refused_head c.args.image.now c.in-Err.fault c.in-Err.ensures.fault.0 c.in-Err.ensures.fault.1
