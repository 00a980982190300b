use Rattle.std.proofs.Common.{◌≤◌, ◌∙◌, ap, sym, subst, arith}
use Rattle.crossbeam_utils.specs.Padded.{padded_value}
use Rattle.fc_machine.specs.declared.state.State.{State}
use Rattle.fc_machine.specs.Kept.{IsZeroPast}
use Rattle.fc_machine.proofs.frame.Frame.new.Goals as goal

pub invariant_of-result : goal.invariant_of-result
invariant_of-result c =
    let same = sym (ap padded_value c.in_ok-new.ensures.ok ∙ c.new.ensures) in
    record {
      payload = subst (λ (s : State). s.sizes.payload ≤ 1024) same (omega (arith, c.zeros.ensures.payload));
      zeros = subst (λ (s : State). IsZeroPast s.sizes.payload s.memory) same (rw c.zeros.ensures.payload c.zeros.ensures.memory);
    }
