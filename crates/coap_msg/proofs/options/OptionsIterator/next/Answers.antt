use Rattle.std.proofs.Common.{◌≡◌, ◌∙◌, [], ap, length, rules, sym}
use Rattle.coap_msg.proofs.Spelling.{none_left, next_left}
use Rattle.coap_msg.proofs.options.OptionsIterator.next.Goals as goal

pub returns-in_err-option-clause-steps : goal.returns-in_err-option-clause-steps
returns-in_err-option-clause-steps c =
    let nothing : c.args.self.now ≡ [] = sym c.self.view_is ∙ none_left c.self.inside.before c.self.inside.bytes.now c.self.invariant c.in_err-option.ensures.option in
    rw c.from_residual.ensures (nothing, nothing)

pub invariant_of-self : goal.invariant_of-self
invariant_of-self c = (next_left c.self.inside.before c.self.inside.bytes.now _ c.self.invariant c.in_ok-option.ensures.option).left

pub returns-clause-steps : goal.returns-clause-steps
returns-clause-steps c = sym c.self.view_is ∙ (next_left c.self.inside.before c.self.inside.bytes.now _ c.self.invariant c.in_ok-option.ensures.option).first

pub returns-clause-goes : goal.returns-clause-goes
returns-clause-goes c =
    let step = sym c.self.view_is ∙ (next_left c.self.inside.before c.self.inside.bytes.now _ c.self.invariant c.in_ok-option.ensures.option).first in
    let shorter = ap length step in
    search rules
