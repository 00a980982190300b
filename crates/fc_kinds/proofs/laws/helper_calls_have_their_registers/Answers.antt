use Rattle.std.proofs.Common.{◌≡◌, ℤ, Some, ap, ◌∙◌}
use Rattle.fc_isa.specs.declared.insn.Insn.TheVariants.{CallHelper}
use Rattle.fc_help.specs.Helpers.{helper_of, signature_of}
use Rattle.fc_help.specs.declared.helper.Helper.{Helper}
use Rattle.fc_kinds.specs.Execution.{ArgumentValues, Config, act, after_effect, argument_values, helped, helper_effect}
use Rattle.fc_kinds.specs.Values.{with_some}
use Rattle.fc_kinds.proofs.laws.helper_calls_have_their_registers.Goals as goal

-- a call of a helper with its arguments has the helper's effect.
called : (c : Config) (n : ℤ) (helper : Helper) (a : ArgumentValues) → helper_of n ≡ Some helper → argument_values c (signature_of helper).arguments ≡ Some a
    → act (CallHelper n) c ≡ Some (after_effect c (helper_effect c helper a))
unfolding act helped
called c n helper a h g =
    ap (λ o. with_some o (helped c)) h ∙ ap (λ o. with_some o (λ x. Some (after_effect c (helper_effect c helper x)))) g

pub returns-clause-call : goal.returns-clause-call
returns-clause-call c = called
