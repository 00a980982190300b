use Rattle.std.proofs.Common.{length, ◌++◌, ◌∷◌, [], true, ◌∙◌}
use Rattle.fc_server.proofs.Served.{answered_on, at_work, kept_by, kept_by_answer, raised_on, removed_on}
use Rattle.fc_server.proofs.engine.remove.Goals as goal

pub remove-requires : goal.remove-requires
remove-requires c = at_work c.requires.rest c.requires.serves

pub raise-requires : goal.raise-requires
raise-requires c =
    let rest = c.requires.rest in
    at_work rest (removed_on rest c.requires.serves (c.remove.ensures (length rest)))

pub respond-requires : goal.respond-requires
respond-requires c =
    let rest = c.requires.rest in
    let removed = removed_on rest c.requires.serves (c.remove.ensures (length rest)) in
    at_work rest (raised_on rest removed (c.raise.ensures (length rest)))

pub returns-clause-works : goal.returns-clause-works
returns-clause-works c = λ readings h rest v.
    let removed = removed_on rest v (c.remove.ensures (length rest)) in
    let raised = raised_on rest removed (c.raise.ensures (length rest)) in
    record { memory = true; tasks = rest ++ c.respond.new.task ∷ []; serves = answered_on rest raised c.args.now _ c.respond.ensures }

pub returns-clause-job : goal.returns-clause-job
returns-clause-job c = kept_by_answer c.respond.ensures ∙ (kept_by (c.raise.ensures 0) ∙ kept_by (c.remove.ensures 0))
