use Rattle.std.proofs.Common.{◌∷◌, Result, Ok, Err, OnOk, IsErr}
use Rattle.std.specs.Io.KnownBytes.{Appends}
use Rattle.std.specs.Prelude.{flat_map}
use Rattle.fc_front.specs.Receiving.{emission_if}
use Rattle.fc_lines.specs.Emissions.{printed}
use Rattle.fc_server.proofs.FlushingSteps.{done_at_bound, done_at_end}
use Rattle.fc_service.proofs.Printed.{none_printed, one_printed}
use Rattle.fc_service.proofs.lines.flush.Goals as goal

-- a statement about `Ok` holds if the result is an error.
failed : {A E : Type 0} (r : Result A E) (P : Type 0) → IsErr r → OnOk r P
failed (Ok x) P e = absurd (let n = e in cc)
failed (Err x) P e = tt

pub steps-init : goal.steps-init
steps-init g c = none_printed g.N.Ingress.calls c.args.now c.args.ingress.now c.begin-flushing.new.ingress c.begin-flushing.result _ c.begin-flushing.ensures

pub returns-then-is_at_end : goal.returns-then-is_at_end
returns-then-is_at_end g c =
    let w = done_at_end g.N.Ingress.calls (λ es. Appends (g.W.Write.contents c.args.out.now) (g.W.Write.contents c.steps.out) (flat_map printed es)) c.steps.taken c.args.now c.args.ingress.now c.steps.ingress c.steps.flushing c.steps.invariant
    (c.is_at_end.ensures.0 c.if-is_at_end.true) in
    (w.0, w.1, (w.2, w.3))

pub steps-preserved : goal.steps-preserved
steps-preserved g c =
    one_printed g.N.Ingress.calls c.steps.taken c.args.now c.args.ingress.now c.steps.ingress c.step-sent.new.ingress c.steps.flushing c.step-sent.new.self _ _ _ (emission_if c.step-sent.result c.step-sent.new.emission)
    c.steps.invariant c.step-sent.ensures c.in_ok-print_if.ensures

pub returns-in_err-print_if : goal.returns-in_err-print_if
returns-in_err-print_if g c =
    let w = c.steps.invariant in
    let x = c.step-sent.ensures in
    (x.0 ∷ w.0, (c.steps.ingress, x.1, w.1.taken), failed c.from_residual.result _ c.from_residual.ensures.0)

pub returns : goal.returns
returns g c =
    let w = done_at_bound g.N.Ingress.calls (λ es. Appends (g.W.Write.contents c.args.out.now) (g.W.Write.contents c.steps.out) (flat_map printed es)) c.steps.taken c.args.now c.args.ingress.now c.steps.ingress c.steps.flushing c.steps.invariant c.steps-test.false in
    (w.0, w.1, (w.2, w.3))
