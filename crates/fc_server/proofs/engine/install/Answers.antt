use Rattle.std.proofs.Common.{length, ◌++◌, ◌∷◌, [], ◌∙◌}
use Rattle.fc_server.proofs.Served.{answered_on, at_work, installed_on, kept_by, kept_by_answer, raised_on}
use Rattle.fc_server.proofs.engine.install.Goals as goal

pub install-requires : goal.install-requires
install-requires c = at_work c.requires.rest c.requires.serves

pub raise-requires : goal.raise-requires
raise-requires c =
    let rest = c.requires.rest in
    at_work rest (installed_on rest c.requires.serves c.install.result (c.install.ensures (length rest)))

pub respond-requires : goal.respond-requires
respond-requires c =
    let rest = c.requires.rest in
    let installed = installed_on rest c.requires.serves c.install.result (c.install.ensures (length rest)) in
    at_work rest (raised_on rest installed (c.raise.ensures (length rest)))

pub returns-clause-works : goal.returns-clause-works
returns-clause-works c = λ readings h rest v.
    let installed = installed_on rest v c.install.result (c.install.ensures (length rest)) in
    let raised = raised_on rest installed (c.raise.ensures (length rest)) in
    record { memory = c.install.result; tasks = rest ++ c.respond.new.task ∷ []; serves = answered_on rest raised c.args.now _ c.respond.ensures }

pub returns-clause-job : goal.returns-clause-job
returns-clause-job c = kept_by_answer c.respond.ensures ∙ (kept_by (c.raise.ensures 0) ∙ kept_by (c.install.ensures 0))
