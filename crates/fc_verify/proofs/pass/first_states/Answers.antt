use Rattle.std.proofs.Common.{rules, ap, ◌∙◌, ◌++◌, [], ◌∷◌}
use Rattle.fc_verify.proofs.Passing.{first_states_more}
use Rattle.fc_verify.proofs.pass.first_states.Goals as goal

pub loop-slot-preserved : goal.loop-slot-preserved
loop-slot-preserved c =
    let l = c.loop-slot in
    let s = c.first_state.ensures in
    record {
      done = c.push_reserved.ensures.items ∙ ap (λ x. x ++ (c.first_state.result ∷ [])) l.invariant.done ∙ first_states_more c.args.version c.args.code.now l.slot c.first_state.result c.loop-slot-test.true s.first s.later;
      count = search rules;
      room = search rules;
    }
