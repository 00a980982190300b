use Rattle.fc_front.specs.Receiving.{emission_if}
use Rattle.fc_server.proofs.FlushingSteps.{done_at_bound, done_at_end}
use Rattle.fc_receive.proofs.Flushed.{none_flushed, one_flushed}
use Rattle.fc_receive.specs.Traffic.{Sends}
use Rattle.fc_receive.proofs.rounds.flush.Goals as goal

pub steps-init : goal.steps-init
steps-init g c = none_flushed g.N.Ingress.calls g.K.Sink.went c.args.now c.args.ingress.now c.begin-flushing.new.ingress c.begin-flushing.result c.args.replied.now c.begin-flushing.ensures

pub returns-then-is_at_end : goal.returns-then-is_at_end
returns-then-is_at_end g c =
    done_at_end g.N.Ingress.calls (λ es. Sends g.K.Sink.went es c.args.replied.now c.steps.replied) c.steps.taken c.args.now c.args.ingress.now c.steps.ingress c.steps.flushing c.steps.invariant
    (c.is_at_end.ensures.0 c.if-is_at_end.true)

pub steps-preserved : goal.steps-preserved
steps-preserved g c =
    one_flushed g.N.Ingress.calls g.K.Sink.went c.steps.taken c.args.now c.args.ingress.now c.steps.ingress c.step-sent.new.ingress c.steps.flushing c.step-sent.new.self c.args.replied.now c.steps.replied c.send_if.new.replied (emission_if c.step-sent.result c.step-sent.new.emission)
    c.steps.invariant c.step-sent.ensures c.send_if.ensures

pub returns : goal.returns
returns g c =
    done_at_bound g.N.Ingress.calls (λ es. Sends g.K.Sink.went es c.args.replied.now c.steps.replied) c.steps.taken c.args.now c.args.ingress.now c.steps.ingress c.steps.flushing c.steps.invariant c.steps-test.false
