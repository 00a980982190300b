use Rattle.std.proofs.Common.{◌≡◌, Bool, true, false, List, [], ◌∷◌, ◌++◌, Option, ap, arith, inl, inr, refl, ◌∙◌}
use Rattle.std.specs.Option.{option_to_list}
use Rattle.coap_msg.specs.declared.types.Emission.{Emission}
use Rattle.fc_front.specs.Receiving.{emission_if}
use Rattle.fc_server.proofs.FlushingSteps.{done_at_bound, done_at_end, next_step}
use Rattle.fc_server.specs.SingleThread.{alone_calls}
use Rattle.fc_server.specs.Flushing.{sent_in_step, sent_in_steps}
use Rattle.numzela.proofs.server.Serving.flush.Goals as goal

abbrev Silent : List Emission → Type 0
Silent es = es ≡ []

-- if nothing was sent before, this emission is the only one
sent_after : (es : List Emission) (o : Option Emission) → es ≡ [] → es ++ option_to_list o ≡ option_to_list o
sent_after es o none = ap (λ (l : List Emission). l ++ option_to_list o) none

sent_by : (es : List Emission) (o : Option Emission) (b : Bool) (e : Emission) → es ≡ [] → o ≡ emission_if b e → b ≡ true → es ++ option_to_list o ≡ e ∷ []
sent_by es o b e none is told =
    sent_after es o none ∙ (ap (λ (p : Option Emission). option_to_list p) is ∙ ap (λ (c : Bool). option_to_list (emission_if c e)) told)

none_by : (es : List Emission) (b : Bool) (e : Emission) → es ≡ [] → b ≡ false → es ++ option_to_list (emission_if b e) ≡ []
none_by es b e none told = sent_after es (emission_if b e) none ∙ ap (λ (c : Bool). option_to_list (emission_if c e)) told

pub steps-init : goal.steps-init
steps-init c = let w = c.begin-flushing.ensures in ((w.0, w.1, omega arith, w.2), refl)

pub returns-then-is_at_end-clause-flushed : goal.returns-then-is_at_end-clause-flushed
returns-then-is_at_end-clause-flushed c =
    let w = done_at_end alone_calls Silent c.steps.taken c.args.now c.args.self.now.alone c.steps.self.alone c.steps.flushing c.steps.invariant.0
    (c.is_at_end.ensures.0 c.if-is_at_end.true) in
    record { steps = w.0; taken = w.1; writes = inl (refl, w.2, w.3) }

pub returns-then-step-clause-flushed : goal.returns-then-step-clause-flushed
returns-then-step-clause-flushed c =
    let w = c.steps.invariant.0 in
    let x = c.step.ensures in
    let e = c.step.new.emission in
    record {
      steps = x.0 ∷ w.0;
      taken = (c.steps.self.alone, x.1, w.1.taken);
      writes = inr (refl, (e, sent_by (sent_in_steps w.0) (sent_in_step x.0) c.step.result e w.3 x.2 c.if-step.true, c.write_datagram.ensures));
    }

pub steps-preserved : goal.steps-preserved
steps-preserved c =
    let e = c.step.new.emission in (
      next_step alone_calls Silent Silent c.steps.taken c.args.now c.args.self.now.alone c.steps.self.alone c.step.new.ingress c.steps.flushing c.step.new.self
          (emission_if c.step.result e) c.steps.invariant.0 c.step.ensures (λ es none. none_by es c.step.result e none c.if-step.false),
      c.steps.invariant.1,
    )

pub returns-clause-flushed : goal.returns-clause-flushed
returns-clause-flushed c =
    let w = done_at_bound alone_calls Silent c.steps.taken c.args.now c.args.self.now.alone c.steps.self.alone c.steps.flushing c.steps.invariant.0 c.steps-test.false in
    record { steps = w.0; taken = w.1; writes = inl (refl, w.2, w.3) }

-- nothing was written before the step that sends
pub returns-then-is_at_end-clause-unwritten : goal.returns-then-is_at_end-clause-unwritten
returns-then-is_at_end-clause-unwritten c = λ _. c.steps.invariant.1

pub returns-clause-unwritten : goal.returns-clause-unwritten
returns-clause-unwritten c = λ _. c.steps.invariant.1
