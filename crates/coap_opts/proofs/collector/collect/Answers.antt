use Rattle.std.proofs.Common.{◌∙◌, None, refl, subst, sym}
use Rattle.coap_opts.specs.Collected.{IsUncollected}
use Rattle.coap_opts.proofs.Left.{left_short}
use Rattle.coap_opts.proofs.collector.collect.Goals as goal

pub returns-clause-short : goal.returns-clause-short
returns-clause-short c =
    left_short c.args.message.now c.loop-number.collected c.loop-number.before (subst (λ left. IsUncollected c.args.message.now c.loop-number.collected c.loop-number.before left) (c.in-None.ensures.steps.0) c.loop-number.invariant.parts)

pub loop-number-init : goal.loop-number-init
loop-number-init c =
    let all = c.into_iter-number-iterator.ensures.into_iter_gives ∙ c.options-number-items.ensures in
    record {
      parts = subst (λ left. IsUncollected c.args.message.now c.args.collected.now None left) (sym all) c.requires.parts;
      unknown = rw (c.requires.unknown, all) refl;
    }
